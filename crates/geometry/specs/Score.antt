-- To be believed. Document 01: "A triple is out by pitch if the largest distance of a module from the mean exceeds half the mean, by edge if a leg is under
-- 1, by angle if |cosine| exceeds 0.7, by ratio if the leg ratio exceeds 1.6. Score: |cosine| + (ratio − 1). A triple is admissible if no rule puts it out
-- and its score is a number." All steps are f32, in the order written.
use Rattle.std.specs.Prelude.{Bool, true, false, not, ◌&&◌, ◌||◌, Float, Option, Some, None}
use Rattle.std.specs.Float.Ieee.{lt}
use Rattle.float.specs.Floats.{is_number, abs_of, max_of}
use Rattle.float.specs.Steps.{◌⊕◌, ◌⊖◌, ◌⊗◌, ◌⊘◌}
use Rattle.float.specs.Constants.{f0, f1/2, f0_7, f1, f1_6, f3}
use Rattle.geometry.specs.Order.{span_of, order_of}
use Rattle.lcr_core.specs.declared.finder.Finder.{Finder}
use Rattle.geometry.specs.declared.Corners.{Corners}

-- ---- pitch

-- the mean of the modules
unfoldable pub mean_of : Finder → Finder → Finder → Float
mean_of a b c = (a.«module» ⊕ b.«module» ⊕ c.«module») ⊘ f3

-- a module's distance from the mean
unfoldable pub away_from : Float → Finder → Float
away_from mean f = abs_of (f.«module» ⊖ mean)

-- the largest of the three distances, 0 at least, exceeds half the mean
unfoldable pub out_by_pitch : Finder → Finder → Finder → Bool
out_by_pitch a b c =
    let mean = mean_of a b c in
    lt (mean ⊗ f1/2) (max_of (max_of (max_of f0 (away_from mean a)) (away_from mean b)) (away_from mean c))

-- ---- the legs, from the corner to the two others, their angle and their ratio

abbrev pub right_leg : Corners → Float
right_leg f = span_of f.tl f.tr

abbrev pub down_leg : Corners → Float
down_leg f = span_of f.tl f.bl

-- their dot product
unfoldable pub dot_of : Corners → Float
dot_of f = (f.tr.x ⊖ f.tl.x) ⊗ (f.bl.x ⊖ f.tl.x) ⊕ (f.tr.y ⊖ f.tl.y) ⊗ (f.bl.y ⊖ f.tl.y)

-- the cosine of the angle between them
unfoldable pub cosine_of : Corners → Float
cosine_of f = dot_of f ⊘ (right_leg f ⊗ down_leg f)

-- the longer one to the shorter
unfoldable pub ratio_of : Corners → Float
ratio_of f = max_of (right_leg f ⊘ down_leg f) (down_leg f ⊘ right_leg f)

-- one is under 1
unfoldable pub out_by_edge : Corners → Bool
out_by_edge f = lt (right_leg f) f1 || lt (down_leg f) f1

-- |cosine| exceeds 0.7
unfoldable pub out_by_angle : Corners → Bool
out_by_angle f = lt f0_7 (abs_of (cosine_of f))

-- the ratio exceeds 1.6
unfoldable pub out_by_ratio : Corners → Bool
out_by_ratio f = lt f1_6 (ratio_of f)

-- |cosine| + (ratio − 1)
unfoldable pub corner_score : Corners → Float
corner_score f = abs_of (cosine_of f) ⊕ (ratio_of f ⊖ f1)

-- the corners pass these three rules, and their score is a number
unfoldable pub admissible_corners : Corners → Bool
admissible_corners f = not (out_by_edge f) && (not (out_by_angle f) && (not (out_by_ratio f) && is_number (corner_score f)))

-- ---- of three finders in any order

-- the score of their corners
unfoldable pub score_of : Finder → Finder → Finder → Float
score_of a b c = corner_score (order_of a b c)

-- no rule puts them out, and their score is a number
unfoldable pub admissible : Finder → Finder → Finder → Bool
admissible a b c = not (out_by_pitch a b c) && admissible_corners (order_of a b c)

-- each case of the answer: the score of an admissible triple, and nothing of another
abbrev pub score_if : Bool → Float → Option Float
score_if true s = Some s
score_if false s = None
