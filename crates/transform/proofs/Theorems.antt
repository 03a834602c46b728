-- What the definitions say of the lens (document 02, N12): "Strength 0 gives the old bits for any centre"; which strengths are 0; what a not-a-number gives;
-- and that fitted transforms have no lens. Assumes nothing.
use Rattle.std.proofs.Common.{◌≡◌, ℕ, ◌-◌, true, false, List, Option, Some, None, IfSome, sym, refl, ◌∙◌}
use lib.Ieee.{Float, nan, inf, fin, neg, eq, of_bits, add, mul, div}
use Rattle.float.specs.Floats.{narrow_of}
use Rattle.float.specs.Steps.{◌⊕◌, whole32, ◌⊞◌, ◌⧄◌}
use Rattle.float.specs.Constants.{f1/2, f1_5, d0, d1}
use Rattle.transform.specs.Fit.{plain, Plain, fit_of, quad_fit, triangle_fit}
use Rattle.transform.specs.Apply.{placed, divided, bent, applied, in_module, center_of, pitch_at, pitches_of}
use Rattle.transform.specs.declared.Quad.{Quad}
use Rattle.transform.specs.declared.Transform.{Transform}
use Rattle.transform.specs.declared.Triangle.{Triangle}
use Rattle.transform.specs.declared.Wide.{Wide}

-- ---- which strengths are 0: 0.0 and -0.0, and no not-a-number
pub is_zero : eq d0 d0 ≡ true
unfolding eq of_bits
is_zero = refl

pub minus_zero : eq (neg d0) d0 ≡ true
unfolding eq neg of_bits
minus_zero = refl

pub nan_not_zero : eq nan d0 ≡ false
unfolding eq
nan_not_zero = refl

-- ---- strength 0: what the eight numbers alone give, as before there were lens terms, whatever the centre
module _ (t : Transform) (e : eq t.strength d0 ≡ true) where
  pub strength_zero : (u v : Float) → applied t u v ≡ placed t.m u v
  unfolding applied
  strength_zero u v = rw e

-- so that the transform without its lens gives the same points, centres and pitches
module _ (t : Transform) (e : eq t.strength d0 ≡ true) where
  pub same_places : (u v : Float) → applied t u v ≡ applied (plain t.m) u v
  same_places u v = strength_zero t e u v ∙ sym (strength_zero (plain t.m) is_zero u v)

  same_in : (x y : ℕ) (dx dy : Float) → in_module t x y dx dy ≡ in_module (plain t.m) x y dx dy
  unfolding in_module
  same_in x y dx dy = same_places (whole32 x ⊕ dx) (whole32 y ⊕ dy)

  pub same_center : (x y : ℕ) → center_of t x y ≡ center_of (plain t.m) x y
  unfolding center_of
  same_center x y = same_in x y f1/2 f1/2

  pub same_pitch : (x y : ℕ) → pitch_at t x y ≡ pitch_at (plain t.m) x y
  unfolding pitch_at
  same_pitch x y = rw (same_center x y, same_in x y f1_5 f1/2, same_in x y f1/2 f1_5)

  pub same_pitches : (side : ℕ) → pitches_of t side ≡ pitches_of (plain t.m) side
  unfolding pitches_of
  same_pitches side = let far = side - 2 in rw (same_pitch 0 0, same_pitch far 0, same_pitch 0 far, same_pitch far far)

-- ---- a not-a-number gives not-a-numbers
plus_nan : (x : Float) → x ⊞ nan ≡ nan
unfolding add
plus_nan nan = refl
plus_nan (inf s) = refl
plus_nan (fin s m e) = refl

over_nan : (x : Float) → x ⧄ nan ≡ nan
unfolding div
over_nan nan = refl
over_nan (inf s) = refl
over_nan (fin s m e) = refl

divided-nan : (u d : Wide) → divided nan u d ≡ record { x = nan; y = nan }
unfolding divided mul
divided-nan u d = rw (plus_nan d1, over_nan u.x, over_nan u.y)

pub strength_nan : (t : Transform) (u v : Float) → t.strength ≡ nan → applied t u v ≡ record { x = nan; y = nan }
unfolding applied bent narrow_of
strength_nan t u v e = rw (e, nan_not_zero, divided-nan _ _, plus_nan t.cx, plus_nan t.cy)

-- ---- fitted transforms have no lens
fitted_plain : (s : Option (List Float)) → IfSome (fit_of s) Plain
fitted_plain None = tt
fitted_plain (Some m) = refl

pub quad_plain : (s d : Quad) → IfSome (quad_fit s d) Plain
unfolding quad_fit
quad_plain s d = fitted_plain _

pub triangle_plain : (s d : Triangle) → IfSome (triangle_fit s d) Plain
unfolding triangle_fit
triangle_plain s d = fitted_plain _
