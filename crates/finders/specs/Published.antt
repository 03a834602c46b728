-- To be believed. The search as document 000 has it, where the runs of a confirmation are taken as counted, however they ended (document 02, N7: "equality
-- with the Rust is then for pictures where no hit that it confirms has a run ended by the limit"): what the theorems on equality speak of, and no contract
-- does.
use Rattle.std.specs.Prelude.{◌≡◌, ℕ, ◌*◌, ◌<◌, Bool, true, false, List, length, Some, Result}
use Rattle.lcr_core.specs.declared.Refusal.{Refusal}
use Rattle.lists.specs.Lists.{Each}
use Rattle.binary.specs.Line.{row, column}
use Rattle.confirm.specs.Confirm.{counted_of}
use Rattle.confirm.specs.Published.{counted_on, cut_on}
use Rattle.lcr_core.specs.declared.point.Point.{Point}
use Rattle.lcr_core.specs.declared.finder.Finder.{Finder}
use Rattle.finders.specs.Hits.{Hit, line_hits}
use Rattle.finders.specs.Held.{Sighting}
use Rattle.finders.specs.Search.{sightings_by, found_by}
use Rattle.finders.specs.Answer.{refusal_after, finders_after, answer_after}
use Rattle.finders.specs.declared.Finders.{Finders}

-- document 000's confirmed hits, finders and answer; the sides' limit and that of the table are document 01's
abbrev pub published_sightings : List ℕ → ℕ → ℕ → List Sighting
published_sightings = sightings_by counted_of

abbrev pub published_finders : List ℕ → ℕ → ℕ → List Finder
published_finders bits width height = finders_after (found_by counted_of bits width height)

abbrev pub published_refusal : List ℕ → ℕ → ℕ → ℕ
published_refusal bits width height = refusal_after (length bits) width height (found_by counted_of bits width height)

abbrev pub published_answer : List ℕ → ℕ → ℕ → Result Finders Refusal
published_answer bits width height = answer_after (length bits) width height (found_by counted_of bits width height)

-- of a picture
module _ (bits : List ℕ) (width height : ℕ) where
  -- a hit of row n, or of column n: where document 000 confirms it, the limit ended no run of either confirmation
  abbrev pub Uncut : Bool → ℕ → Hit → Type 0
  Uncut columns n h = (p : Point) → counted_on bits width height columns n h.centre h.«module» ≡ Some p → cut_on bits width height columns n h.centre h.«module» ≡ false

  -- each hit of every second row, and of every second column
  pub record NoneCut : Type 0 where
    pub rows : (k : ℕ) → 2 * k < height → Each (Uncut false (2 * k)) (line_hits (row bits width (2 * k)) width)
    pub columns : (k : ℕ) → 2 * k < width → Each (Uncut true (2 * k)) (line_hits (column bits width (2 * k)) height)
