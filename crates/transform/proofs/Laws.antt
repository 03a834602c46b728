-- The functions' results put together: each law has the values that the calls gave, and what is known of them. Assumes nothing.
use Rattle.std.proofs.Common.{◌≡◌, ℕ, ◌-◌, Bool, false, cond, List, [], ◌∷◌, ◌++◌, get_or, Option, Some, None, option_map, sym, refl, ap, ◌∙◌}
use lib.Ieee.{Float, nan, inf, lt, eq, div, of_bits}
use Rattle.float.specs.Floats.{abs_of, narrow_of, min_of, max_of}
use Rattle.float.specs.Steps.{◌⊕◌, ◌⊗◌, ◌⊘◌, ◌⊞◌, ◌⧄◌}
use Rattle.float.specs.Constants.{f0, f1, f1/2, f1_5, d0, d1, d1e_9}
use Rattle.math.specs.Solve.{augmented, solution_of}
use Rattle.transform.specs.Fit.{plain, widened, homography_rows, affine_rows, affine_numbers, both, fit_of, quad_fit, triangle_fit}
use Rattle.transform.specs.Apply.{linear_of, apart_of, projected, offset_of, divided, bent, applied, in_module, center_of, distance_of, pitch_at, pitches_of}
use Rattle.lcr_core.specs.declared.point.Point.{Point}
use Rattle.transform.specs.declared.Wide.{Wide}
use Rattle.transform.specs.declared.Triangle.{Triangle}
use Rattle.transform.specs.declared.Quad.{Quad}
use Rattle.transform.specs.declared.Transform.{Transform}
use Rattle.transform.specs.declared.Pitches.{Pitches}

-- ---- apart from 0
pub apart_is : (w a : Float) (b : Bool) → a ≡ abs_of w → lt a d1e_9 ≡ b → cond b d1e_9 w ≡ apart_of w
unfolding apart_of
apart_is w a b e t = ap (λ (b : Bool). cond b d1e_9 w) (sym t) ∙ ap (λ (a : Float). cond (lt a d1e_9) d1e_9 w) e

-- ---- fits: the equations, two rows for each point
module _ (w₀ w₁ w₂ w₃ d₀ d₁ d₂ d₃ : Wide) (r₀ r₁ r₂ r₃ : List (List Float)) where
  pub quad_table : r₀ ≡ homography_rows w₀ d₀ → r₁ ≡ homography_rows w₁ d₁ → r₂ ≡ homography_rows w₂ d₂ → r₃ ≡ homography_rows w₃ d₃
      → get_or r₀ 0 [] ∷ get_or r₀ 1 [] ∷ get_or r₁ 0 [] ∷ get_or r₁ 1 [] ∷ get_or r₂ 0 [] ∷ get_or r₂ 1 [] ∷ get_or r₃ 0 [] ∷ get_or r₃ 1 [] ∷ []
      ≡ homography_rows w₀ d₀ ++ homography_rows w₁ d₁ ++ homography_rows w₂ d₂ ++ homography_rows w₃ d₃
  quad_table g₀ g₁ g₂ g₃ = rw (g₀, g₁, g₂, g₃)

module _ (w₀ w₁ w₂ : Wide) (r₀ r₁ r₂ : List (List Float)) where
  pub triangle_table : r₀ ≡ affine_rows w₀ → r₁ ≡ affine_rows w₁ → r₂ ≡ affine_rows w₂
      → get_or r₀ 0 [] ∷ get_or r₀ 1 [] ∷ get_or r₁ 0 [] ∷ get_or r₁ 1 [] ∷ get_or r₂ 0 [] ∷ get_or r₂ 1 [] ∷ [] ≡ affine_rows w₀ ++ affine_rows w₁ ++ affine_rows w₂
  triangle_table g₀ g₁ g₂ = rw (g₀, g₁, g₂)

-- what `Option::map` gives by `affine`
pub affine_is : (r : Option (List Float)) (f : Option Transform) → f ≡ option_map (λ x. plain (affine_numbers x)) r → f ≡ fit_of (option_map affine_numbers r)
affine_is None f e = e
affine_is (Some x) f e = e

pub quad_is : (s d : Quad) (w₀ w₁ w₂ w₃ d₀ d₁ d₂ d₃ : Wide) (a : List (List Float)) (r : Option (List Float)) → w₀ ≡ widened s.a → w₁ ≡ widened s.b → w₂ ≡ widened s.c → w₃ ≡ widened s.d
    → d₀ ≡ widened d.a → d₁ ≡ widened d.b → d₂ ≡ widened d.c → d₃ ≡ widened d.d
    → a ≡ homography_rows w₀ d₀ ++ homography_rows w₁ d₁ ++ homography_rows w₂ d₂ ++ homography_rows w₃ d₃
    → r ≡ solution_of 8 (augmented 8 a (both d₀ ++ both d₁ ++ both d₂ ++ both d₃)) → (f : Option Transform) → f ≡ fit_of r → f ≡ quad_fit s d
unfolding quad_fit
quad_is s d w₀ w₁ w₂ w₃ d₀ d₁ d₂ d₃ a r e₀ e₁ e₂ e₃ g₀ g₁ g₂ g₃ t h f k = cc

pub triangle_is : (s d : Triangle) (w₀ w₁ w₂ d₀ d₁ d₂ : Wide) (a : List (List Float)) (r : Option (List Float)) → w₀ ≡ widened s.a → w₁ ≡ widened s.b → w₂ ≡ widened s.c
    → d₀ ≡ widened d.a → d₁ ≡ widened d.b → d₂ ≡ widened d.c → a ≡ affine_rows w₀ ++ affine_rows w₁ ++ affine_rows w₂
    → r ≡ solution_of 6 (augmented 6 a (both d₀ ++ both d₁ ++ both d₂)) → (f : Option Transform) → f ≡ fit_of (option_map affine_numbers r) → f ≡ triangle_fit s d
unfolding triangle_fit
triangle_is s d w₀ w₁ w₂ d₀ d₁ d₂ a r e₀ e₁ e₂ g₀ g₁ g₂ t h f k = cc

-- ---- a point
pub projected_is : (m : List Float) (p : Wide) (q w x y : Float)
    → q ≡ linear_of (get_or m 6 nan) (get_or m 7 nan) d1 p → w ≡ apart_of q
    → x ≡ linear_of (get_or m 0 nan) (get_or m 1 nan) (get_or m 2 nan) p
    → y ≡ linear_of (get_or m 3 nan) (get_or m 4 nan) (get_or m 5 nan) p
    → ◌≡◌ {A = Wide} (record { x = x ⧄ w; y = y ⧄ w }) (projected m p)
unfolding projected
projected_is m p q w x y a c d e = cc

-- ---- the lens
pub bent_is : (t : Transform) (p u a b c d : Wide) (x y : Float) → u ≡ offset_of p t.cx t.cy
    → a ≡ divided t.strength u u → b ≡ divided t.strength u a → c ≡ divided t.strength u b → d ≡ divided t.strength u c
    → x ≡ narrow_of (t.cx ⊞ d.x) → y ≡ narrow_of (t.cy ⊞ d.y) → ◌≡◌ {A = Point} (record { x = x; y = y }) (bent t p)
unfolding bent
bent_is t p u a b c d x y eu ea eb ec ed ex ey = rw (ex, ey, ed, ec, eb, ea, eu)

pub applied-bent : (t : Transform) (u v : Float) (w p : Wide) (r : Point) → eq t.strength d0 ≡ false → w ≡ widened (record { x = u; y = v }) → p ≡ projected t.m w → r ≡ bent t p → r ≡ applied t u v
unfolding applied
applied-bent t u v w p r e ew ep er = rw e (er ∙ ap (bent t) (ep ∙ ap (projected t.m) ew))

-- ---- pitches
pub pitch_is : (t : Transform) (x y : ℕ) (c r d : Point) (a b : Float) → c ≡ center_of t x y → r ≡ in_module t x y f1_5 f1/2 → d ≡ in_module t x y f1/2 f1_5
    → a ≡ distance_of c r → b ≡ distance_of c d → f1/2 ⊗ (a ⊕ b) ≡ pitch_at t x y
unfolding pitch_at
pitch_is t x y c r d a b e f g h i = cc

pub infinite : f1 ⊘ f0 ≡ inf false
unfolding div of_bits
infinite = refl

pub pitches_is : (t : Transform) (side far : ℕ) → far ≡ side - 2 → (a b c d i l₁ l₂ l₃ l₄ g₁ g₂ g₃ g₄ : Float)
    → a ≡ pitch_at t 0 0 → b ≡ pitch_at t far 0 → c ≡ pitch_at t 0 far → d ≡ pitch_at t far far
    → i ≡ inf false → l₁ ≡ min_of i a → l₂ ≡ min_of l₁ b → l₃ ≡ min_of l₂ c → l₄ ≡ min_of l₃ d
    → g₁ ≡ max_of f0 a → g₂ ≡ max_of g₁ b → g₃ ≡ max_of g₂ c → g₄ ≡ max_of g₃ d
    → ◌≡◌ {A = Pitches} (record { least = l₄; greatest = g₄ }) (pitches_of t side)
unfolding pitches_of
pitches_is t side far f a b c d i l₁ l₂ l₃ l₄ g₁ g₂ g₃ g₄ ea eb ec ed ei e₁ e₂ e₃ e₄ h₁ h₂ h₃ h₄ = cc
