-- Where the limit ended no run of a hit that document 000 confirms, the search is document 000's: its hits, finders, number and answer (document 02, N7).
-- Assumes nothing.
use Rattle.std.proofs.Common.{◌≡◌, ℕ, ◌*◌, Bool, true, false, cond, List, [], ◌++◌, length, refl, ap, ◌∙◌, ap₂, arith}
use lib.Ieee.{Float}
use Rattle.lists.specs.Lists.{Each, folded, flat_map}
use Rattle.lists.proofs.Folds.{flat_map_same}
use Rattle.lists.proofs.Filters.{each_map}
use Rattle.binary.specs.Line.{row, column}
use Rattle.confirm.specs.Confirm.{core_of, counted_of}
use Rattle.confirm.specs.Published.{counted_on, cut_on}
use Rattle.confirm.proofs.Theorems.{cut_dropped}
use Rattle.std.specs.Prelude.{Option, Some, None}
use Rattle.lcr_core.specs.declared.point.Point.{Point}
use Rattle.finders.specs.Hits.{Hit, line_hits}
use Rattle.finders.specs.Held.{Sighting, held, merge_next}
use Rattle.finders.specs.Search.{max_finders, sighting, seen_by, row_sightings_by, column_sightings_by, sightings_by, found_by, sightings, found}
use Rattle.finders.specs.Answer.{refusal_after, finders_after, answer_after, find_refusal, finders_of, answer_of}
use Rattle.finders.proofs.Axes.{second_same}
use Rattle.finders.specs.Published.{published_sightings, published_finders, published_refusal, published_answer, Uncut, NoneCut}

-- a hit that is dropped where t, and that document 000 would confirm by c
not_dropped : (m : Float) (t : Bool) (c : Option Point) → ((p : Point) → c ≡ Some p → t ≡ false) → sighting m (cond t None c) ≡ sighting m c
not_dropped m t (Some p) u = rw (u p refl)
not_dropped m true None u = refl
not_dropped m false None u = refl

module _ (bits : List ℕ) (w h : ℕ) where
  seen_same : (columns : Bool) (n : ℕ) (t : Hit) → Uncut bits w h columns n t → seen_by core_of bits w h columns n t ≡ seen_by counted_of bits w h columns n t
  seen_same columns n t u =
      ap (sighting t.«module») (cut_dropped bits w h columns n t.centre t.«module»)
      ∙ not_dropped t.«module» (cut_on bits w h columns n t.centre t.«module») (counted_on bits w h columns n t.centre t.«module») u

  line_same : (columns : Bool) (n : ℕ) (ts : List Hit) → Each (Uncut bits w h columns n) ts → flat_map (seen_by core_of bits w h columns n) ts ≡ flat_map (seen_by counted_of bits w h columns n) ts
  line_same columns n ts u =
      flat_map_same (seen_by core_of bits w h columns n) (seen_by counted_of bits w h columns n) ts
      (each_map (Uncut bits w h columns n) (λ (t : Hit). seen_by core_of bits w h columns n t ≡ seen_by counted_of bits w h columns n t) (seen_same columns n) ts u)

  module _ (u : NoneCut bits w h) where
    pub uncut_sightings : sightings bits w h ≡ published_sightings bits w h
    unfolding sightings_by
    uncut_sightings =
        ap₂ (λ (a b : List Sighting). a ++ b)
        (second_same (row_sightings_by core_of bits w h) (row_sightings_by counted_of bits w h) h (λ k l. line_same false (2 * k) (line_hits (row bits w (2 * k)) w) (u.rows k (omega (arith, l)))))
        (second_same (column_sightings_by core_of bits w h) (column_sightings_by counted_of bits w h) w (λ k l. line_same true (2 * k) (line_hits (column bits w (2 * k)) h) (u.columns k (omega (arith, l)))))

    pub uncut_found : found bits w h ≡ found_by counted_of bits w h
    unfolding found_by
    uncut_found = ap (folded (merge_next max_finders) (held [])) uncut_sightings

    pub uncut_finders : finders_of bits w h ≡ published_finders bits w h
    uncut_finders = ap finders_after uncut_found

    pub uncut_refusal : find_refusal bits w h ≡ published_refusal bits w h
    unfolding find_refusal
    uncut_refusal = ap (refusal_after (length bits) w h) uncut_found

    -- `find_finders`
    pub uncut_answer : answer_of bits w h ≡ published_answer bits w h
    unfolding answer_of
    uncut_answer = ap (answer_after (length bits) w h) uncut_found
