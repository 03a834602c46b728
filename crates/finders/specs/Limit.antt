-- To be believed. The search with a table of any number of places (document 02, N9: "Raise its limit from 128 to 1,000"): what the theorems on the limit
-- speak of, and no contract does.
use Rattle.std.specs.Prelude.{ℕ, List, [], length, Result}
use Rattle.lcr_core.specs.declared.Refusal.{Refusal}
use Rattle.lists.specs.Lists.{folded}
use Rattle.finders.specs.Held.{Held, held, merge_next}
use Rattle.finders.specs.Search.{sightings}
use Rattle.finders.specs.Answer.{answer_after}
use Rattle.finders.specs.declared.Finders.{Finders}

-- the finders after the last confirmed hit of a picture
abbrev pub found_under : ℕ → List ℕ → ℕ → ℕ → Held
found_under limit bits width height = folded (merge_next limit) (held []) (sightings bits width height)

-- the first refusal, or else the finders
abbrev pub answer_under : ℕ → List ℕ → ℕ → ℕ → Result Finders Refusal
answer_under limit bits width height = answer_after (length bits) width height (found_under limit bits width height)
