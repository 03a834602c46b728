-- The taps of a module: where the first three agree, the other two cannot change the majority. Assumes nothing.
use mathlib.Core.Path.{◌≡◌, refl, sym, ◌∙◌}
use mathlib.Core.Bool.{Bool, true, false, cond, ◌||◌}
use mathlib.Core.List.{List}
use Prim.Native.Nat.{ℕ, ◌+◌, ◌*◌, ◌≤◌}
use native.Mathlib.Omega.{arith}
use lib.Dec.{ltb}
use mir.Val.{bool_byte as from_bool}
use lib.Ieee.{Float, neg}
use borrow.Author.Tests.{lt-ltb, le-ltb}
use Rattle.lists.specs.Lists.{folded}
use Rattle.float.specs.Constants.{f0, f1/4}
use Rattle.binary.specs.Binary.{bit}
use Rattle.binary.proofs.Bits.{bit_small}
use Rattle.lcr_core.specs.Finder.{point}
use Rattle.lcr_core.specs.declared.point.Point.{Point}
use Rattle.transform.specs.declared.Transform.{Transform}
use Rattle.alignment.specs.declared.template.Votes.{Votes}
use Rattle.alignment.specs.Template.{outside_of, pixel_at, tapped, tap_by, no_votes, module_dark}
use Rattle.alignment.specs.Counting.{Counted}

pub bit_from : (d : Bool) → from_bool d ≡ bit d
unfolding bit
bit_from true = refl
bit_from false = refl

pub bit_most : (d : Bool) → bit d ≤ 1
bit_most d = omega (arith, bit_small d)

pub pixel_most : (bits : List ℕ) (w h : ℕ) (p : Point) → pixel_at bits w h p ≤ 1
unfolding pixel_at
pixel_most bits w h p = bit_most _

pub counted : (v : Votes) (n : ℕ) → n ≤ 1 → Counted v (record { seen = v.seen + 1; dark = v.dark + n })
counted v n h = record { kept = omega arith; most = omega arith; darker = omega arith; within = omega arith }

pub same_counted : (v : Votes) → Counted v v
same_counted v = record { kept = omega arith; most = omega arith; darker = omega arith; within = omega arith }

-- the votes r after a tap at p, which is q
pub tap_is : (bits : List ℕ) (w h : ℕ) (v r : Votes) (p q : Point) → r ≡ tapped bits w h v p → p ≡ q → r ≡ tapped bits w h v q
tap_is bits w h v r p q e f = rw (← f) e

tap_counted : (bits : List ℕ) (w h : ℕ) (v : Votes) (p : Point) → Counted v (tapped bits w h v p)
unfolding tapped
tap_counted bits w h v p = go (outside_of w p.x || outside_of h p.y)
  where
    go : (o : Bool) → Counted v (cond o v (record { seen = v.seen + 1; dark = v.dark + pixel_at bits w h p }))
    go true = same_counted v
    go false = counted v (pixel_at bits w h p) (pixel_most bits w h p)

module _ (v d e : Votes) (p : Counted v d) (q : Counted d e) (l : v.seen ≤ 3) (b : v.dark ≤ v.seen) where
  dark_decides : v.dark ≡ 3 → ltb e.seen (e.dark * 2) ≡ true
  dark_decides h = lt-ltb e.seen (e.dark * 2) (omega arith)

  light_decides : v.seen ≡ v.dark + 3 → ltb e.seen (e.dark * 2) ≡ false
  light_decides h = le-ltb e.seen (e.dark * 2) (omega arith)

-- the module at (x, y), of whose taps the first three give the votes a, b and v
module _ (bits : List ℕ) (w h : ℕ) (t : Transform) (x y : Float) (a b v : Votes) (p : a ≡ tap_by bits w h t x y no_votes (point f0 f0))
    (q : b ≡ tap_by bits w h t x y a (point (neg f1/4) f0)) (r : v ≡ tap_by bits w h t x y b (point f1/4 f0)) where
  fourth : Votes
  fourth = tap_by bits w h t x y v (point f0 (neg f1/4))

  fifth : Votes
  fifth = tap_by bits w h t x y fourth (point f0 f1/4)

  by_five : module_dark bits w h t x y ≡ ltb fifth.seen (fifth.dark * 2)
  unfolding module_dark folded fourth fifth
  by_five = rw (r, q, p)

  pub module_dark_lem : v.seen ≤ 3 → v.dark ≤ v.seen → v.dark ≡ 3 → true ≡ module_dark bits w h t x y
  unfolding fourth fifth
  module_dark_lem l m e = sym (by_five ∙ dark_decides v fourth fifth (tap_counted bits w h v _) (tap_counted bits w h fourth _) l m e)

  pub module_light : v.seen ≤ 3 → v.dark ≤ v.seen → v.seen ≡ v.dark + 3 → false ≡ module_dark bits w h t x y
  unfolding fourth fifth
  module_light l m e = sym (by_five ∙ light_decides v fourth fifth (tap_counted bits w h v _) (tap_counted bits w h fourth _) l m e)

  pub module_five : (d e : Votes) → d ≡ tap_by bits w h t x y v (point f0 (neg f1/4)) → e ≡ tap_by bits w h t x y d (point f0 f1/4)
      → ltb e.seen (e.dark * 2) ≡ module_dark bits w h t x y
  unfolding module_dark folded
  module_five d e m n = rw (n, m, r, q, p)
