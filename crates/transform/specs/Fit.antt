-- To be believed. The map from modules to pixels (`Transform` of document 002), first how it is fitted: the linear equations of a homography through four
-- points, and of an affine map through three. Document 01: `Transform` refuses nothing, "none" is its answer where the Rust gives `None`, and the floats
-- handed in may be any. Steps are f64.
use Rattle.std.specs.Prelude.{◌≡◌, List, [], ◌∷◌, ◌++◌, replicate, Float, Option, option_map}
use Rattle.std.specs.Float.Ieee.{neg}
use Rattle.float.specs.Steps.{◌⊠◌}
use Rattle.float.specs.Constants.{d0, d1}
use Rattle.math.specs.Solve.{augmented, solution_of}
use Rattle.lcr_core.specs.declared.point.Point.{Point}
use Rattle.transform.specs.declared.Wide.{Wide}
use Rattle.transform.specs.declared.Triangle.{Triangle}
use Rattle.transform.specs.declared.Quad.{Quad}
use Rattle.transform.specs.declared.Transform.{Transform}

-- eight numbers without a lens: its centre (0, 0), its strength 0
abbrev pub plain : List Float → Transform
plain m = record { m = m; cx = d0; cy = d0; strength = d0 }

-- a transform without a lens
abbrev pub Plain : Transform → Type 0
Plain t = t ≡ plain t.m

-- every number 0, as a refusal leaves it
abbrev pub zero_transform : Transform
zero_transform = plain (replicate 8 d0)

-- `IDENTITY`: x = u and y = v
abbrev pub identity_transform : Transform
identity_transform = plain (d1 ∷ d0 ∷ d0 ∷ d0 ∷ d1 ∷ d0 ∷ d0 ∷ d0 ∷ [])

-- an f32 is an f64 as it stands
unfoldable pub widened : Point → Wide
widened p = record { x = p.x; y = p.y }

-- (u, v) goes to (x, y): m0 u + m1 v + m2 - x u m6 - x v m7 = x, and m3 u + m4 v + m5 - y u m6 - y v m7 = y
abbrev pub homography_rows : Wide → Wide → List (List Float)
homography_rows s d =
    (s.x ∷ s.y ∷ d1 ∷ d0 ∷ d0 ∷ d0 ∷ neg d.x ⊠ s.x ∷ neg d.x ⊠ s.y ∷ [])
    ∷ (d0 ∷ d0 ∷ d0 ∷ s.x ∷ s.y ∷ d1 ∷ neg d.y ⊠ s.x ∷ neg d.y ⊠ s.y ∷ [])
    ∷ []

-- without m6 and m7
abbrev pub affine_rows : Wide → List (List Float)
affine_rows s = (s.x ∷ s.y ∷ d1 ∷ d0 ∷ d0 ∷ d0 ∷ []) ∷ (d0 ∷ d0 ∷ d0 ∷ s.x ∷ s.y ∷ d1 ∷ []) ∷ []

-- the affine map's m6 and m7 are zeros beyond its six numbers
abbrev pub affine_numbers : List Float → List Float
affine_numbers x = x ++ d0 ∷ d0 ∷ []

-- the right-hand sides
abbrev pub both : Wide → List Float
both d = d.x ∷ d.y ∷ []

-- the transform of a solution
abbrev pub fit_of : Option (List Float) → Option Transform
fit_of = option_map plain

-- `from_quad`: the points of s go to those of d
unfoldable pub quad_fit : Quad → Quad → Option Transform
quad_fit s d =
    let rows : Point → Point → List (List Float) = λ p q. homography_rows (widened p) (widened q) in
    let sides : Point → List Float = λ q. both (widened q) in
    fit_of (solution_of 8 (augmented 8 (rows s.a d.a ++ rows s.b d.b ++ rows s.c d.c ++ rows s.d d.d) (sides d.a ++ sides d.b ++ sides d.c ++ sides d.d)))

-- `from_triangle`
unfoldable pub triangle_fit : Triangle → Triangle → Option Transform
triangle_fit s d =
    let rows : Point → List (List Float) = λ p. affine_rows (widened p) in
    let sides : Point → List Float = λ q. both (widened q) in
    fit_of (option_map affine_numbers (solution_of 6 (augmented 6 (rows s.a ++ rows s.b ++ rows s.c) (sides d.a ++ sides d.b ++ sides d.c))))
