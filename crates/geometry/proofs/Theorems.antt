-- What the definitions say of the order, the score, the version and the transform. Assumes nothing.
use Rattle.std.specs.Option.{option_or}
use mathlib.Core.Path.{◌≡◌, refl, sym}
use mathlib.Core.Logic.{◌⊎◌, inl, inr}
use mathlib.Core.Bool.{Bool, true, false, cond, not, ◌&&◌, true≢false}
use mathlib.Core.List.{[], ◌∷◌, map}
use Rattle.std.specs.Prelude.{Option, Some, None, IfSome}
use Prim.Native.Nat.{ℕ, zero, suc, ◌+◌, ◌-◌, ◌*◌, ◌/◌, ◌^◌, ◌≤◌, min}
use native.Mathlib.Omega.{arith}
use lib.Dec.{ltb}
use lib.IntN.{ℤ, pos, negsuc, neg_ℤ}
use lib.Ieee.{Float, nan, inf, fin, lt, up, down, to_unsigned, to_signed, of_int, of_bits, sub, div, round, binary32}
use Rattle.float.specs.Floats.{is_number, round_of}
use Rattle.float.specs.Steps.{◌⊖◌, ◌⊗◌, ◌⊘◌, whole32}
use Rattle.float.specs.Constants.{f0, f4, f21}
use Rattle.geometry.specs.Order.{span2_of, is_longest, turned_of, order_of}
use Rattle.geometry.specs.Score.{out_by_pitch, out_by_edge, out_by_angle, out_by_ratio, admissible_corners, score_of, admissible}
use Rattle.geometry.specs.Estimate.{nearest_version}
use Rattle.transform.specs.Fit.{Plain}
use Rattle.transform.specs.declared.Transform.{Transform}
use Rattle.transform.proofs.Theorems.{quad_plain, triangle_plain}
use Rattle.lcr_core.specs.Version.{version_checks, side_of}
use Rattle.lcr_core.proofs.Checks.{either}
use Rattle.lcr_core.proofs.Answers.{checked_holds, either_or}
use Rattle.geometry.specs.Build.{affine_of, homography_of, symbol_fit, built_of, built_fit}
use Rattle.lcr_core.specs.declared.finder.Finder.{Finder}
use Rattle.geometry.specs.declared.Corners.{Corners}
use Rattle.lcr_core.specs.declared.point.Point.{Point}

-- ---- the corners are the three finders, none lost and none twice

-- c is the corner
abbrev pub At : Finder → Finder → Finder → Corners → Type 0
At c p q f = (f ≡ record { tl = c; tr = p; bl = q }) ⊎ (f ≡ record { tl = c; tr = q; bl = p })

turned_at : (c p q : Finder) → At c p q (turned_of c p q)
unfolding turned_of
turned_at c p q = go (lt f0 ((p.x ⊖ c.x) ⊗ (q.y ⊖ c.y) ⊖ (p.y ⊖ c.y) ⊗ (q.x ⊖ c.x)))
  where
    go : (b : Bool) → At c p q (cond b (record { tl = c; tr = p; bl = q }) (record { tl = c; tr = q; bl = p }))
    go true = inl refl
    go false = inr refl

pub same_three : (a b c : Finder) → At c a b (order_of a b c) ⊎ (At a b c (order_of a b c) ⊎ At b c a (order_of a b c))
unfolding order_of
same_three a b c = go (is_longest (span2_of a b) (span2_of b c) (span2_of c a)) (is_longest (span2_of b c) (span2_of a b) (span2_of c a))
  where
    order : Bool → Bool → Corners
    order v w = cond v (turned_of c a b) (cond w (turned_of a b c) (turned_of b c a))

    go : (v w : Bool) → At c a b (order v w) ⊎ (At a b c (order v w) ⊎ At b c a (order v w))
    go true w = inl (turned_at c a b)
    go false true = inr (inl (turned_at a b c))
    go false false = inr (inr (turned_at b c a))

-- ---- an admissible triple's score is a number
and_right : (p q : Bool) → (p && q) ≡ true → q ≡ true
and_right true q h = h
and_right false q h = absurd (true≢false (sym h))

pub admissible_number : (a b c : Finder) → admissible a b c ≡ true → is_number (score_of a b c) ≡ true
unfolding admissible score_of admissible_corners
admissible_number a b c h =
    let f = order_of a b c in
    and_right (not (out_by_ratio f)) _ (and_right (not (out_by_angle f)) _ (and_right (not (out_by_edge f)) _ (and_right (not (out_by_pitch a b c)) _ h)))

-- ---- the nearest version is the Rust's: one more than the rounded value as an i32, kept within 1 to 32

unfoldable pub clamped : ℤ → ℕ
clamped (pos n) = min (n + 1) 32
clamped (negsuc n) = 1

negative : (n : ℕ) → clamped (neg_ℤ (pos n)) ≡ 1
unfolding clamped
negative zero = refl
negative (suc n) = refl

as_signed : (x : Float) → min (to_unsigned 32 x + 1) 32 ≡ clamped (to_signed 31 x)
unfolding to_unsigned to_signed clamped
as_signed nan = refl
as_signed (inf true) = refl
as_signed (inf false) = refl
as_signed (fin true m e) = rw (negative (min (m * up e / down e) (2 ^ 31)))
as_signed (fin false m e) = capped (m * up e / down e)
  where
    capped : (n : ℕ) → min (min n (2 ^ 32 - 1) + 1) 32 ≡ min (min n (2 ^ 31 - 1) + 1) 32
    capped n = omega arith

pub by_i32 : (side : Float) → nearest_version side ≡ clamped (to_signed 31 (round_of binary32 ((side ⊖ f21) ⊘ f4)))
unfolding nearest_version
by_i32 side = as_signed (round_of binary32 ((side ⊖ f21) ⊘ f4))

pub from_1_to_32 : (side : Float) → (1 ≤ nearest_version side) × (nearest_version side ≤ 32)
unfolding nearest_version
from_1_to_32 side = omega arith

-- sides 23, 19, 21 and 149
sides : map (λ (n : ℕ). nearest_version (whole32 n)) (23 ∷ 19 ∷ 21 ∷ 149 ∷ []) ≡ 2 ∷ 1 ∷ 1 ∷ 32 ∷ []
unfolding nearest_version round_of to_unsigned of_int of_bits sub div round
sides = refl

-- ---- "transforms built from finders have strength 0" (document 02, N12) and centre 0, as what a refusal leaves
abbrev PlainFit : Option Transform → Type 0
PlainFit f = IfSome f Plain

else-plain : (h g : Option Transform) → PlainFit h → PlainFit g → PlainFit (option_or h g)
else-plain None g p q = q
else-plain (Some t) g p q = p

module _ (c : Corners) where
  affine_plain : (side : Float) → PlainFit (affine_of c side)
  unfolding affine_of
  affine_plain side = triangle_plain _ _

  fit_plain : (a : Option Point) (v : ℕ) → PlainFit (symbol_fit c a v)
  unfolding symbol_fit homography_of
  fit_plain None v = affine_plain (whole32 (side_of v))
  fit_plain (Some p) v =
      let side = whole32 (side_of v) in
      let h = homography_of c p side in
      let g = affine_of c side in
      either PlainFit (ltb v 2) g (option_or h g) (affine_plain side) (else-plain h g (quad_plain _ _) (affine_plain side))

  pub built_plain : (a : Option Point) (v : ℕ) → IfSome (built_fit c a v) Plain
  unfolding built_of
  built_plain a v = either_or PlainFit _ None (checked_holds PlainFit (version_checks v) (symbol_fit c a v) (fit_plain a v)) tt
