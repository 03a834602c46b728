-- To be believed. The search (document 01, "Finding and ranking": "Every second row from 0, then every second column from 0, is scanned").
use Rattle.std.specs.Prelude.{ℕ, ◌+◌, ◌*◌, ◌/◌, Bool, true, false, List, [], ◌∷◌, ◌++◌, Float, Option, Some, None}
use Rattle.lists.specs.Lists.{range, folded, flat_map}
use Rattle.binary.specs.Line.{row, column}
use Rattle.confirm.specs.Confirm.{Rule, core_of, confirmed_by}
use Rattle.lcr_core.specs.declared.point.Point.{Point}
use Rattle.finders.specs.Hits.{Hit, line_hits}
use Rattle.finders.specs.Held.{Sighting, Held, held, merge_next}

-- the places of the table (document 02, N9)
abbrev pub max_finders : ℕ
max_finders = 1000

-- a hit of module m, where it is confirmed
abbrev pub sighting : Float → Option Point → List Sighting
sighting m (Some p) = record { x = p.x; y = p.y; «module» = m } ∷ []
sighting m None = []

-- f of every second number from 0 on below n
abbrev pub every_second : {A : Type 0} → (ℕ → List A) → ℕ → List A
every_second f n = flat_map (λ k. f (2 * k)) (range 0 ((n + 1) / 2))

-- the search with a rule of confirmation
module _ (rule : Rule) (bits : List ℕ) (width height : ℕ) where
  -- a hit on row n, or on column n
  abbrev pub seen_by : Bool → ℕ → Hit → List Sighting
  seen_by columns n h = sighting h.«module» (confirmed_by rule bits width height columns n h.centre h.«module»)

  -- the confirmed hits of row y, and of column x
  abbrev pub row_sightings_by : ℕ → List Sighting
  row_sightings_by y = flat_map (seen_by false y) (line_hits (row bits width y) width)

  abbrev pub column_sightings_by : ℕ → List Sighting
  column_sightings_by x = flat_map (seen_by true x) (line_hits (column bits width x) height)

  -- those of the picture, in the order in which they are found
  unfoldable pub sightings_by : List Sighting
  sightings_by = every_second row_sightings_by height ++ every_second column_sightings_by width

  -- the finders after the last of them
  unfoldable pub found_by : Held
  found_by = folded (merge_next max_finders) (held []) sightings_by

-- with the amended rule, which the detector has
abbrev pub seen : List ℕ → ℕ → ℕ → Bool → ℕ → Hit → List Sighting
seen = seen_by core_of

abbrev pub sightings : List ℕ → ℕ → ℕ → List Sighting
sightings = sightings_by core_of

abbrev pub found : List ℕ → ℕ → ℕ → Held
found = found_by core_of
