-- No detection has a lens (document 02, N12: "transforms built from finders have strength 0"): centre and strength are 0 at each of the three places that
-- `candidates_from` and `detect_candidates` answer, after a refusal too, and in what `detect` answers, so that the eight numbers say all. Assumes nothing.
use Rattle.std.specs.Prelude.{Option, None, IfSome, IfOk}
use mathlib.Core.Path.{refl}
use mathlib.Core.List.{List, [], ◌∷◌}
use Prim.Native.Nat.{ℕ, zero, suc, ◌-◌}
use lib.Ieee.{Float}
use lib.ListN.{length, replicate}
use Rattle.lists.specs.Lists.{Each}
use Rattle.lists.proofs.Filters.{each_append, each_map, each_among}
use Rattle.lcr_core.specs.Answer.{checked}
use Rattle.lcr_core.specs.Outcome.{Check}
use Rattle.lcr_core.proofs.Answers.{checked_holds, either_or}
use Rattle.binary.specs.Refusal.{bits_checks}
use Rattle.transform.specs.Fit.{Plain}
use Rattle.geometry.specs.declared.Corners.{Corners}
use Rattle.lcr_core.specs.declared.finder.Finder.{Finder}
use Rattle.geometry.specs.Score.{mean_of}
use Rattle.geometry.specs.Estimate.{estimate_of}
use Rattle.geometry.proofs.Theorems.{built_plain}
use Rattle.alignment.specs.declared.Refined.{Refined}
use Rattle.alignment.specs.Alignment.{refine_answer}
use Rattle.alignment.proofs.Lenses.{refined-plain}
use Rattle.finders.specs.Answer.{find_checks, finders_of}
use Rattle.finders.specs.Search.{found}
use Rattle.ranking.specs.declared.Triple.{Triple}
use Rattle.ranking.specs.Ranking.{ranked}
use Rattle.candidates.specs.declared.Detection.{Detection}
use Rattle.candidates.specs.declared.Detections.{Detections}
use Rattle.candidates.specs.Detection.{zero_detection, WithoutLens, unrefined, fit_with, marker_by, build_with, build_of}
use Rattle.candidates.specs.Candidates.{corners_of, detection_of, detections_of, detections_table, table_in, first_detection, from_answer, detect_answer, detect_first}
use Rattle.candidates.proofs.Grades.{if_then, in_table, each_kept}

-- ---- what is built
module _ (bits : List ℕ) (w h : ℕ) (c : Corners) (s : Float) where
  with_plain : (v : ℕ) → IfSome (build_with bits w h c s v) WithoutLens
  unfolding build_with
  with_plain v =
      if_then WithoutLens (fit_with bits w h c None v) _
      (λ rough _.
      let a = marker_by bits w h c rough v in
      let m = mean_of c.tl c.tr c.bl in
      if_then WithoutLens (fit_with bits w h c a v) _ (λ t e. either_or (λ (r : Refined). Plain r.transform) (refine_answer bits w h c v t m) unrefined (refined-plain bits w h c v t m (rw e at (built_plain c a v))) refl))

  build_plain : IfSome (build_of bits w h c s) WithoutLens
  unfolding build_of
  build_plain = if_then WithoutLens (estimate_of c) _ (λ v _. with_plain v.0)

-- ---- lists and tables
zeros_plain : (k : ℕ) → Each WithoutLens (replicate k zero_detection)
zeros_plain zero = tt
zeros_plain (suc k) = (refl, zeros_plain k)

pub none-plain : Each WithoutLens (detections_table []).at
none-plain = zeros_plain 3

abbrev PlainTable : Detections → Type 0
PlainTable t = Each WithoutLens t.at

module _ (bits : List ℕ) (w h : ℕ) (fs : List Finder) where
  each_plain : Each WithoutLens (detections_of bits w h fs)
  unfolding detections_of detection_of
  each_plain =
      each_kept (λ (t : Triple). build_of bits w h (corners_of fs t) t.score) WithoutLens (ranked fs)
      (each_map _ _ (λ t _. build_plain bits w h (corners_of fs t) t.score) (ranked fs) (each_among (ranked fs)))

  table_plain : PlainTable (detections_table (detections_of bits w h fs))
  table_plain = let ds = detections_of bits w h fs in each_append WithoutLens ds (replicate (3 - length ds) zero_detection) each_plain (zeros_plain (3 - length ds))

  answer_plain : (cs : List Check) → PlainTable (table_in (checked cs (detections_table (detections_of bits w h fs))))
  answer_plain cs =
      let t = detections_table (detections_of bits w h fs) in
      in_table PlainTable (checked cs t) (checked_holds PlainTable cs t table_plain) none-plain

-- ---- what the calls answer
pub from_plain : (bits : List ℕ) (w h : ℕ) (fs : List Finder) → Each WithoutLens (table_in (from_answer bits w h fs)).at
unfolding from_answer
from_plain bits w h fs = answer_plain bits w h fs (bits_checks (length bits) w h)

pub detect_plain : (bits : List ℕ) (w h : ℕ) → Each WithoutLens (table_in (detect_answer bits w h)).at
unfolding detect_answer
detect_plain bits w h = answer_plain bits w h (finders_of bits w h) (find_checks (length bits) w h (found bits w h))

pub first_plain : (bits : List ℕ) (w h : ℕ) → IfOk (detect_first bits w h) (λ (o : Option Detection). IfSome o WithoutLens)
unfolding detect_first
first_plain bits w h =
    let ds = detections_of bits w h (finders_of bits w h) in
    checked_holds (λ (o : Option Detection). IfSome o WithoutLens) (find_checks (length bits) w h (found bits w h)) (first_detection ds) (go ds (each_plain bits w h (finders_of bits w h)))
  where
    go : (ds : List Detection) → Each WithoutLens ds → IfSome (first_detection ds) WithoutLens
    go [] p = tt
    go (d ∷ ds) p = p.0
