-- For inner contracts and proofs, but for `Bounded` and `EndsWith`, which the contract of `Finders::merge` has. The search as the code has it.
use Rattle.std.specs.Prelude.{◌≡◌, ℕ, zero, suc, ◌+◌, ◌-◌, ◌*◌, ◌/◌, ◌^◌, ◌<◌, ◌≤◌, Bool, true, false, cond, List, [], ◌∷◌, length, nat_lt, Option, Some, None, Result, MatchResult}
use Rattle.std.specs.Bool.{⊤}
use Rattle.std.specs.List.{list_all, position_or_len}
use Rattle.lists.specs.Lists.{Each, range, folded, flat_map, written}
use Rattle.lcr_core.specs.Outcome.{max_side}
use Rattle.lcr_core.specs.declared.Refusal.{Refusal}
use Rattle.lcr_core.specs.declared.Refusal.TheVariants.{FullTable}
use Rattle.binary.specs.Line.{row, column}
use Rattle.finders.specs.Hits.{Hit, runs, hits, line_hits}
use Rattle.finders.specs.Held.{Sighting, Held, held, over, merge_next}
use Rattle.finders.specs.Search.{max_finders, seen}
use Rattle.finders.specs.Rank.{insert, stays}
use Rattle.finders.specs.Answer.{finders_table, held_in}
use Rattle.lcr_core.specs.declared.finder.Finder.{Finder}
use Rattle.finders.specs.declared.Finders.{Finders}
use Rattle.finders.specs.declared.search.LastRuns.{LastRuns}
use Rattle.finders.specs.declared.search.NextHit.{NextHit}
use Rattle.finders.specs.declared.search.NextSighting.{NextSighting}

-- ---- the table
-- what a step of the search ends with: a table of the finders that are then held, or refusal 6 where there was one too many
abbrev pub EndsWith : Held → Result ⊤ Refusal → Finders → Type 0
EndsWith s r t = MatchResult r (λ _. (t ≡ finders_table (held_in t)) × (s ≡ held (held_in t))) (λ e. (s ≡ over) × (e ≡ FullTable))

-- no finder has more than k confirmations
abbrev pub Bounded : List Finder → ℕ → Type 0
Bounded fs k = Each (λ (f : Finder). f.confirmations ≤ k) fs

-- whether each finder can be confirmed once more: a count is a u32
abbrev pub is_countable : List Finder → Bool
is_countable fs = list_all (λ (f : Finder). nat_lt f.confirmations (2 ^ 32 - 1)) fs

-- a table that a hit can be merged into: zero beyond its count, no finder with more than k confirmations
pub record Good (t : Finders) (k : ℕ) : Type 0 where
  pub few : t.count ≤ max_finders
  pub rest : t ≡ finders_table (held_in t)
  pub counts : Bounded (held_in t) k

-- no more finders than there are places, none with more than k confirmations
abbrev pub Fine : Held → ℕ → Type 0
Fine over k = Unit {0}
Fine (held fs) k = (length fs ≤ max_finders) × Bounded fs k

-- ---- the hits of a line
-- the runs from pixel i on, where a run of a colour starts there; none where no pixel is left
abbrev pub runs_from : (ℕ → Bool) → Bool → ℕ → ℕ → List ℕ
runs_from f colour i zero = []
runs_from f colour i (suc n) = runs f colour 0 i (suc n)

-- the hits that end after pixel `at`, before which the runs c, d and e end, e a dark one
abbrev pub hits_after : (ℕ → Bool) → ℕ → LastRuns → List Hit
hits_after f len w = hits (w.at - (w.c + w.d + w.e)) (w.c ∷ w.d ∷ w.e ∷ runs_from f false w.at (len - w.at))

-- a window on a line of len pixels: it ends there, and its runs have room before its end
abbrev pub FitsIn : ℕ → LastRuns → Type 0
FitsIn len w = (w.at ≤ len) × (w.c + w.d + w.e ≤ w.at)

-- the first of the hits after a window, with the window that it ends
abbrev pub NextIs : (ℕ → Bool) → ℕ → LastRuns → Option NextHit → Type 0
NextIs f len w None = hits_after f len w ≡ []
NextIs f len w (Some h) =
    (hits_after f len w ≡ record { centre = h.centre; «module» = h.«module» } ∷ hits_after f len h.after) × (w.at < h.after.at) × FitsIn len h.after

-- ---- the lines of one axis
-- how many confirmed hits a line, and an axis, has at most
abbrev pub line_most : ℕ
line_most = max_side + 1

abbrev pub axis_most : ℕ
axis_most = line_most * ((max_side + 1) / 2)

-- how many lines it has
abbrev pub line_count : ℕ → ℕ → Bool → ℕ
line_count width height true = width
line_count width height false = height

-- how many pixels each of them has
abbrev pub line_len : ℕ → ℕ → Bool → ℕ
line_len width height true = height
line_len width height false = width

-- row or column n
abbrev pub line_at : List ℕ → ℕ → Bool → ℕ → ℕ → Bool
line_at bits width true n = column bits width n
line_at bits width false n = row bits width n

module _ (bits : List ℕ) (width height : ℕ) where
  -- the confirmed hits of row or column n
  abbrev pub line_sightings : Bool → ℕ → List Sighting
  line_sightings columns n = flat_map (seen bits width height columns n) (line_hits (line_at bits width columns n) (line_len width height columns))

  -- those after a window
  abbrev pub sightings_after : Bool → ℕ → LastRuns → List Sighting
  sightings_after columns n w = flat_map (seen bits width height columns n) (hits_after (line_at bits width columns n) (line_len width height columns) w)

  -- the first of them, with the window that it ends
  abbrev pub SightedIs : Bool → ℕ → LastRuns → Option NextSighting → Type 0
  SightedIs columns n w None = sightings_after columns n w ≡ []
  SightedIs columns n w (Some s) =
      (sightings_after columns n w ≡ record { x = s.point.x; y = s.point.y; «module» = s.«module» } ∷ sightings_after columns n s.after) × (w.at < s.after.at)
      × FitsIn (line_len width height columns) s.after

  -- after those of row or column n
  abbrev pub scanned : Bool → Held → ℕ → Held
  scanned columns s n = folded (merge_next max_finders) s (line_sightings columns n)

  -- after those of every second line of the axis
  abbrev pub scanned_at : Bool → Held → ℕ → Held
  scanned_at columns s k = scanned columns s (2 * k)

  unfoldable pub axis : Bool → Held → Held
  axis columns s = folded (scanned_at columns) s (range 0 ((line_count width height columns + 1) / 2))

-- ---- the ranking
-- the place at which `insert` puts a finder with n confirmations
abbrev pub rank_of : List Finder → ℕ → ℕ
rank_of fs n = position_or_len (λ (g : Finder). nat_lt g.confirmations n) fs

-- after one finder more, where only those that stay are kept
abbrev pub keep : List Finder → Finder → List Finder
keep fs f = cond (stays f) (insert fs f) fs

-- a table that holds a list, over places that may hold anything
abbrev pub held_over : List Finder → List Finder → Finders
held_over fs old = record { count = length fs; table = written fs old }
