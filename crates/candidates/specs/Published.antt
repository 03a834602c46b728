-- To be believed. The detections in a picture over the finders of document 000's search (document 02, N7: "In the finder search and what follows from it"):
-- what the theorems on equality speak of, and no contract does.
use Rattle.std.specs.Prelude.{List, ℕ, Option, Result, length}
use Rattle.lcr_core.specs.Answer.{checked}
use Rattle.lcr_core.specs.declared.Refusal.{Refusal}
use Rattle.finders.specs.Answer.{find_checks}
use Rattle.confirm.specs.Confirm.{counted_of}
use Rattle.finders.specs.Search.{found_by}
use Rattle.finders.specs.Published.{published_finders}
use Rattle.candidates.specs.declared.Detection.{Detection}
use Rattle.candidates.specs.declared.Detections.{Detections}
use Rattle.candidates.specs.Candidates.{detections_of, detections_table, first_detection}

-- those of its finders
abbrev pub published_detections : List ℕ → ℕ → ℕ → List Detection
published_detections bits w h = detections_of bits w h (published_finders bits w h)

-- `detect_candidates`
abbrev pub published_detect : List ℕ → ℕ → ℕ → Result Detections Refusal
published_detect bits w h = checked (find_checks (length bits) w h (found_by counted_of bits w h)) (detections_table (published_detections bits w h))

-- `detect`
abbrev pub published_first : List ℕ → ℕ → ℕ → Result (Option Detection) Refusal
published_first bits w h = checked (find_checks (length bits) w h (found_by counted_of bits w h)) (first_detection (published_detections bits w h))
