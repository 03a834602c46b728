-- To be believed. The transform from the finders and, from version 2 on, the alignment marker (`build_transform`). Document 01: "`build_transform`: 7", a
-- version outside 1 to 64.
use Rattle.std.specs.Prelude.{cond, ℕ, ltb, Float, Option, Some, None, Result}
use Rattle.std.specs.Option.{option_or}
use Rattle.std.specs.Result.{result_unwrap_or}
use Rattle.float.specs.Steps.{◌⊖◌, whole32}
use Rattle.float.specs.Constants.{f3_5, f6_5}
use Rattle.transform.specs.Fit.{quad_fit, triangle_fit}
use Rattle.lcr_core.specs.declared.point.Point.{Point}
use Rattle.transform.specs.declared.Triangle.{Triangle}
use Rattle.transform.specs.declared.Transform.{Transform}
use Rattle.lcr_core.specs.Answer.{checked}
use Rattle.lcr_core.specs.declared.Refusal.{Refusal}
use Rattle.lcr_core.specs.Version.{version_checks, side_of}
use Rattle.lcr_core.specs.Finder.{point, centre_of}
use Rattle.geometry.specs.declared.Corners.{Corners}

-- the finders' centres in modules, 3.5 from the sides, and in pixels
unfoldable pub modules_of : Float → Triangle
modules_of side = record { a = point f3_5 f3_5; b = point (side ⊖ f3_5) f3_5; c = point f3_5 (side ⊖ f3_5) }

unfoldable pub pixels_of : Corners → Triangle
pixels_of c = record { a = centre_of c.tl; b = centre_of c.tr; c = centre_of c.bl }

-- through the three finders
unfoldable pub affine_of : Corners → Float → Option Transform
affine_of c side = triangle_fit (modules_of side) (pixels_of c)

-- through the marker too, whose centre is 6.5 modules from the far sides
unfoldable pub homography_of : Corners → Point → Float → Option Transform
homography_of c marker side =
    let s = modules_of side in
    let d = pixels_of c in
    quad_fit (record { a = s.a; b = s.b; c = s.c; d = point (side ⊖ f6_5) (side ⊖ f6_5) }) (record { a = d.a; b = d.b; c = d.c; d = marker })

-- from version 2 on the homography where there is a marker; else, or where there is no homography, the affine map
unfoldable pub symbol_fit : Corners → Option Point → ℕ → Option Transform
symbol_fit c None v = affine_of c (whole32 (side_of v))
symbol_fit c (Some a) v =
    let side = whole32 (side_of v) in
    cond (ltb v 2) (affine_of c side) (option_or (homography_of c a side) (affine_of c side))

-- `build_transform`
unfoldable pub built_of : Corners → Option Point → ℕ → Result (Option Transform) Refusal
built_of c marker v = checked (version_checks v) (symbol_fit c marker v)

-- the transform that it answers, if it answers one
abbrev pub built_fit : Corners → Option Point → ℕ → Option Transform
built_fit c marker v = result_unwrap_or (built_of c marker v) None
