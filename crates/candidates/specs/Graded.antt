-- To be believed. What document 02, N8, says of score and mean module in a table of detections: what proofs/Grades.antt and the chain's theorems speak of.
-- The contracts fix both by Detection.antt.
use Rattle.std.specs.Prelude.{◌≡◌, true, cond, List, ℕ, ◌≤◌, ◌<◌, ltb, get_or, Option, Some, None}
use Rattle.std.specs.Float.Ieee.{le}
use Rattle.lists.specs.Lists.{Some as Exists}
use Rattle.float.specs.Constants.{f0}
use Rattle.float.specs.Floats.{is_number}
use Rattle.lcr_core.specs.declared.finder.Finder.{Finder}
use Rattle.geometry.specs.Score.{mean_of, corner_score}
use Rattle.ranking.specs.declared.Triple.{Triple}
use Rattle.ranking.specs.Ranking.{ranked}
use Rattle.candidates.specs.declared.Detection.{Detection}
use Rattle.candidates.specs.declared.Detections.{Detections}
use Rattle.candidates.specs.Detection.{zero_detection}
use Rattle.candidates.specs.Candidates.{corners_of}

-- the detection at a place of a table
abbrev pub place_in : Detections → ℕ → Detection
place_in t p = get_or t.at p zero_detection

-- the first detection of a table, if there is one
abbrev pub first_in : Detections → Option Detection
first_in t = cond (ltb 0 t.count) (Some (place_in t 0)) None

-- a detection of the finders fs: finders and score are a ranked triple's; the score is a number, and the ordered finders give it back, as they do the mean
-- module, which adds top left, top right and bottom left in this order
pub record Graded (fs : List Finder) (d : Detection) : Type 0 where
  pub of_triple : Exists (λ (t : Triple). (d.finders ≡ corners_of fs t) × (d.score ≡ t.score)) (ranked fs)
  pub number : is_number d.score ≡ true
  pub given_back : d.score ≡ corner_score d.finders
  pub mean_module : d.mean ≡ mean_of d.finders.tl d.finders.tr d.finders.bl

-- a table of detections of the finders fs: each is graded, their scores never fall from one to a later one, and beyond the count both numbers are 0
pub record AllGraded (fs : List Finder) (t : Detections) : Type 0 where
  pub each : (p : ℕ) → p < t.count → Graded fs (place_in t p)
  pub never_fall : (p q : ℕ) → p < q → q < t.count → le (place_in t p).score (place_in t q).score ≡ true
  pub none-beyond : (p : ℕ) → t.count ≤ p → p < 3 → ((place_in t p).score ≡ f0) × ((place_in t p).mean ≡ f0)
