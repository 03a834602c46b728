-- To be believed. The detections of a picture (document 01, "Finding and ranking"): "The call's detections, in number, order and every field, equal the
-- detections of the ranked triples in rank order, those that can't be built left out", whatever finders are lent or found.
use Rattle.std.specs.Prelude.{List, [], ◌∷◌, Option, Some, None, Result, Ok, Err, ℕ, length}
use Rattle.lists.specs.Lists.{padded, flat_map}
use Rattle.lcr_core.specs.Answer.{checked}
use Rattle.lcr_core.specs.declared.Refusal.{Refusal}
use Rattle.binary.specs.Refusal.{bits_checks}
use Rattle.geometry.specs.declared.Corners.{Corners}
use Rattle.lcr_core.specs.declared.finder.Finder.{Finder}
use Rattle.geometry.specs.Order.{order_of}
use Rattle.finders.specs.Answer.{find_checks, finders_of}
use Rattle.finders.specs.Search.{found}
use Rattle.ranking.specs.declared.Triple.{Triple}
use Rattle.ranking.specs.Ranking.{finder_at, ranked}
use Rattle.candidates.specs.declared.Detection.{Detection}
use Rattle.candidates.specs.declared.Detections.{Detections}
use Rattle.candidates.specs.Detection.{build_of, zero_detection}

-- a triple's finders, ordered
abbrev pub corners_of : List Finder → Triple → Corners
corners_of fs t = order_of (finder_at fs t.i) (finder_at fs t.j) (finder_at fs t.k)

-- what a ranked triple gives when built: one detection, or none where it can't be built
abbrev pub kept : Option Detection → List Detection
kept None = []
kept (Some d) = d ∷ []

-- that of a triple of the finders fs, with its score
unfoldable pub detection_of : List ℕ → ℕ → ℕ → List Finder → Triple → List Detection
detection_of bits w h fs t = kept (build_of bits w h (corners_of fs t) t.score)

-- the detections of a list of finders in a picture: those of the ranked triples, in rank order
unfoldable pub detections_of : List ℕ → ℕ → ℕ → List Finder → List Detection
detections_of bits w h fs = flat_map (detection_of bits w h fs) (ranked fs)

-- ---- what the calls answer

-- detections as a table: places from the count on are zero
abbrev pub detections_table : List Detection → Detections
detections_table ds = record { count = length ds; at = padded 3 zero_detection ds }

-- the detections of an answer, none after a refusal
abbrev pub table_in : Result Detections Refusal → Detections
table_in (Ok t) = t
table_in (Err refusal) = detections_table []

-- `candidates_from`: 1, 2, 4, or the detections of the lent finders
unfoldable pub from_answer : List ℕ → ℕ → ℕ → List Finder → Result Detections Refusal
from_answer bits w h fs = checked (bits_checks (length bits) w h) (detections_table (detections_of bits w h fs))

-- `detect_candidates`: the refusals of the search, 1, 2, 4, 6, or the detections of the finders that it gives, in its order
unfoldable pub detect_answer : List ℕ → ℕ → ℕ → Result Detections Refusal
detect_answer bits w h = checked (find_checks (length bits) w h (found bits w h)) (detections_table (detections_of bits w h (finders_of bits w h)))

-- the first detection, if there is one
abbrev pub first_detection : List Detection → Option Detection
first_detection [] = None
first_detection (d ∷ ds) = Some d

-- `detect`: the refusals of `detect_candidates`, or its first detection, if there is one
unfoldable pub detect_first : List ℕ → ℕ → ℕ → Result (Option Detection) Refusal
detect_first bits w h = checked (find_checks (length bits) w h (found bits w h)) (first_detection (detections_of bits w h (finders_of bits w h)))
