-- The table of colours holds those of every module of the first sweep. Assumes nothing.
use mathlib.Core.Path.{◌≡◌, ◌∙◌}
use mathlib.Core.List.{List}
use Prim.Native.Nat.{ℕ, ◌+◌, ◌-◌, ◌*◌, ◌/◌, ◌%◌, ◌≤◌, ◌<◌}
use native.Mathlib.Omega.{arith}
use lib.ListN.{length}
use lib.Ieee.{Float}
use Rattle.lists.specs.Lists.{tabulate}
use Rattle.lists.proofs.Tabulate.{length-tabulate, get_d_tabulate}
use Rattle.float.specs.Steps.{◌⊖◌, whole32}
use Rattle.float.specs.Constants.{f0, f1/2, f6_5}
use Rattle.binary.specs.Binary.{bit}
use Rattle.transform.specs.declared.Transform.{Transform}
use Rattle.alignment.specs.declared.template.Site.{Site}
use Rattle.alignment.specs.Template.{module_dark}
use Rattle.alignment.specs.Known.{half_at, colour_at, Known}
use Rattle.alignment.proofs.Halves.{place_is}

module _ (bits : List ℕ) (w h : ℕ) (t : Transform) where
  -- an empty table says nothing
  pub known_nothing : (c : Float) (m : ℕ) (step : Float) (best : Site) (colours : List ℕ) → length colours ≡ 0 → Known bits w h t c m step best colours
  unfolding Known
  known_nothing c m step best colours e = λ k l i j p q some. absurd (omega arith)

  at_place : (n a b i j : ℕ) → a < 13 → i < 5 → colour_at bits w h t n (a + 21 * b + 2 * i + 42 * j) ≡ bit (module_dark bits w h t (half_at (n + (a + 2 * i))) (half_at (n + (b + 2 * j))))
  unfolding colour_at
  at_place n a b i j l p =
      let e : (a + 21 * b + 2 * i + 42 * j) % 21 ≡ a + 2 * i = omega arith in
      let f : (a + 21 * b + 2 * i + 42 * j) / 21 ≡ b + 2 * j = omega arith in
      rw (e, f)

  pub known_all : (side : ℕ) (best : Site) (colours : List ℕ) → 12 ≤ side → side ≤ 4096 → best.x ≡ f0 → best.y ≡ f0 → colours ≡ tabulate 441 (colour_at bits w h t (2 * side - 23))
      → Known bits w h t (whole32 side ⊖ f6_5) 13 f1/2 best colours
  unfolding Known
  known_all side best colours l g x y e = λ k a i j p q some.
      let z = k % 13 + 21 * (k / 13) + 2 * i + 42 * j in
      let n = 2 * side - 23 in
      let inside : z < 441 = omega arith in (
        rw (e, length-tabulate 441 (colour_at bits w h t n)) inside,
        rw (e, x, y, place_is side (k % 13) i l g (omega arith) p, place_is side (k / 13) j l g (omega arith) q)
            (get_d_tabulate 441 (colour_at bits w h t n) z 0 inside ∙ at_place n (k % 13) (k / 13) i j (omega arith) p),
      )
