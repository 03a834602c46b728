-- To be believed. The alignment functions. Document 01: refusals "1, 2, 4, 7"; "Alignment: none below version 2", the template match (specs/Template.antt),
-- "if no site has 23, `find_alignment` searches the rows" (crate row_search), and `refine_alignment` "answers none but keeps the transform it was given".
-- Throughout, m is the predicted length of a module in pixels.
use Rattle.std.specs.Prelude.{ℕ, cond, List, ◌++◌, ltb, length, unwrap_or, Float, Option, None, Result}
use Rattle.std.specs.Option.{is_some, option_or}
use Rattle.std.specs.Result.{result_unwrap_or}
use Rattle.lcr_core.specs.Outcome.{Check, first_of}
use Rattle.lcr_core.specs.Answer.{checked}
use Rattle.lcr_core.specs.declared.Refusal.{Refusal}
use Rattle.lcr_core.specs.Version.{version_checks}
use Rattle.binary.specs.Refusal.{bits_checks}
use Rattle.geometry.specs.Build.{built_fit}
use Rattle.geometry.specs.declared.Corners.{Corners}
use Rattle.row_search.specs.Rows.{find_answer}
use Rattle.transform.specs.Apply.{applied}
use Rattle.transform.specs.declared.Transform.{Transform}
use Rattle.alignment.specs.declared.Refined.{Refined}
use Rattle.alignment.specs.Template.{marker_centre, matched_of}
use Rattle.lcr_core.specs.declared.point.Point.{Point}

-- 1, 2, 4, then 7
abbrev pub alignment_checks : ℕ → ℕ → ℕ → ℕ → List Check
alignment_checks len w h version = bits_checks len w h ++ version_checks version

-- the number of the first that refuses
unfoldable pub alignment_refusal : ℕ → ℕ → ℕ → ℕ → ℕ
alignment_refusal len w h version = first_of (alignment_checks len w h version)

-- ---- the marker, through a transform t

module _ (bits : List ℕ) (w h : ℕ) (t : Transform) (version : ℕ) where
  -- `match_alignment`
  unfoldable pub match_answer : Result (Option Point) Refusal
  match_answer = checked (alignment_checks (length bits) w h version) (matched_of bits w h t version)

  module _ (m : Float) where
    -- by runs along rows, about the place where the transform puts the marker's centre; none after a refusal
    unfoldable pub searched_of : Option Point
    searched_of = let c = marker_centre version in result_unwrap_or (find_answer bits w h (applied t c c) m) None

    -- none below version 2; by the template match, or else by runs along rows
    unfoldable pub located_of : Option Point
    located_of = cond (ltb version 2) None (option_or (matched_of bits w h t version) searched_of)

    -- `locate_alignment`
    unfoldable pub locate_answer : Result (Option Point) Refusal
    locate_answer = checked (alignment_checks (length bits) w h version) located_of

-- ---- the transform through the marker

-- through the finders and the marker; without a marker, or where there is no such transform, the one given
unfoldable pub rebuilt_of : Corners → Option Point → ℕ → Transform → Transform
rebuilt_of corners marker version t = cond (is_some marker) (unwrap_or (built_fit corners marker version) t) t

module _ (bits : List ℕ) (w h : ℕ) (corners : Corners) (version : ℕ) (t : Transform) (m : Float) where
  -- the marker located once more, and the transform rebuilt through it
  unfoldable pub refined_of : Refined
  refined_of = let a = located_of bits w h t version m in record { transform = rebuilt_of corners a version t; marker = a }

  -- `refine_alignment`
  unfoldable pub refine_answer : Result Refined Refusal
  refine_answer = checked (alignment_checks (length bits) w h version) refined_of
