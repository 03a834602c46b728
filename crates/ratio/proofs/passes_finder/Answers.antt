-- `ratio::passes_finder` meets its contract. Assumes nothing.
use mathlib.Core.Path.{◌≡◌, sym, ◌∙◌}
use mathlib.Core.Bool.{true, false, ◌&&◌, and-false, and-true}
use Prim.Native.Nat.{ℕ, ◌+◌, ◌*◌, ◌≤◌, ◌<◌}
use native.Mathlib.Omega.{arith}
use borrow.Author.Tests.{lt-leb, le-leb, lt-ltb, leb-true}
use Rattle.lists.specs.Lists.{dist}
use Rattle.ratio.specs.Ratio.{near_one, near_three, passes}
use Rattle.ratio.proofs.passes_finder.Goals as goal

-- without an outer run only a centre of no pixels is near three
outer_some : (s c : ℕ) → near_three s c ≡ true → 7 ≤ s + c → 0 < s
outer_some s c n h = let m : 20 * dist (4 * c) (3 * s) ≤ 33 * s = leb-true (20 * dist (4 * c) (3 * s)) (33 * s) n in omega arith

-- ---- the rule, by the tests that lead to each answer; the code has the total as s + c
module _ (a b c d e : ℕ) where
  far : near_three (a + b + d + e) c ≡ false → false ≡ passes a b c d e
  unfolding passes
  far n = rw (n, and-false, and-false)

  few : a + b + d + e + c < 7 → false ≡ passes a b c d e
  unfolding passes
  few h = let l : a + b + c + d + e < 7 = omega arith in rw (lt-leb 7 (a + b + c + d + e) l)

  near : near_three (a + b + d + e) c ≡ true → 7 ≤ a + b + d + e + c
      → (let s = a + b + d + e in near_one s a && near_one s b && near_one s d && near_one s e ≡ passes a b c d e)
  unfolding passes
  near n h =
      let l : 7 ≤ a + b + c + d + e = omega arith in
      rw (le-leb 7 (a + b + c + d + e) l, lt-ltb 0 (a + b + d + e) (outer_some (a + b + d + e) c n h), n, and-true)

pub returns-then-not-near_three : goal.returns-then-not-near_three
returns-then-not-near_three c = far _ _ _ _ _ (sym c.near_three.ensures ∙ c.if-not-near_three.true)

pub returns-then-s-c-lt7 : goal.returns-then-s-c-lt7
returns-then-s-c-lt7 c = few _ _ _ _ _ c.if-s-c-lt7.true

pub returns : goal.returns
returns c =
    rw (c.near_one.ensures, c.near_one-2.ensures, c.near_one-3.ensures, c.near_one-4.ensures)
    (near _ _ _ _ _ (sym c.near_three.ensures ∙ c.if-not-near_three.false) c.if-s-c-lt7.false)
