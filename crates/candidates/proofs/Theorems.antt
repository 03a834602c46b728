-- What the definitions say of the detections: in a call that isn't refused no step of `build_detection` is; `detect_candidates` is `candidates_from` of the
-- picture's finders; there are three detections at most, and none of fewer than three finders. Assumes nothing.
use Rattle.std.specs.Prelude.{Some, None, Option}
use mathlib.Core.Path.{◌≡◌, refl, sym, ap, ◌∙◌}
use mathlib.Core.Bool.{Bool, true, false, cond, ◌||◌}
use mathlib.Core.List.{List, [], ◌∷◌}
use Prim.Native.Nat.{ℕ, ◌≤◌, ◌<◌}
use native.Mathlib.Omega.{arith}
use lib.Ieee.{Float, le}
use lib.ListN.{length}
use borrow.Author.Tests.{le-leb}
use Rattle.float.specs.Constants.{f0}
use Rattle.lists.specs.Lists.{Each, flat_map}
use Rattle.lists.proofs.Folds.{flat_map_few}
use Rattle.lcr_core.specs.Outcome.{number_of, zero_side, large_side}
use Rattle.lcr_core.proofs.Checks.{first_passes}
use Rattle.lcr_core.proofs.Answers.{number_checked, checked_passed}
use Rattle.lcr_core.specs.declared.version.Version.{Version}
use Rattle.lcr_core.specs.Version.{valid, version_checks}
use Rattle.binary.specs.Refusal.{short_bits, bits_checks, bits_refusal}
use Rattle.transform.specs.declared.Transform.{Transform}
use Rattle.geometry.specs.declared.Corners.{Corners}
use Rattle.lcr_core.specs.declared.finder.Finder.{Finder}
use Rattle.geometry.specs.Estimate.{side_in, nearest_version, estimate_of}
use Rattle.geometry.specs.Build.{built_of}
use Rattle.geometry.proofs.Theorems.{from_1_to_32}
use Rattle.alignment.specs.Alignment.{alignment_checks, alignment_refusal, locate_answer, refine_answer}
use Rattle.finders.specs.Answer.{find_checks, find_refusal, finders_of}
use Rattle.finders.specs.Search.{found}
use Rattle.ranking.specs.declared.Triple.{Triple}
use Rattle.ranking.specs.Ranking.{ranked}
use Rattle.ranking.proofs.Theorems.{Admissible, before, ranked_only, at_most_three}
use Rattle.candidates.specs.Detection.{build_of}
use Rattle.candidates.specs.Candidates.{corners_of, detection_of, detections_of, detections_table, from_answer, detect_answer}
use Rattle.candidates.proofs.Kept.{kept_few}
use Rattle.lcr_core.specs.declared.point.Point.{Point}

-- ---- no step is refused
estimated : (c : Corners) (v : Version) → estimate_of c ≡ Some v → v.0 ≡ nearest_version (side_in c)
unfolding estimate_of
estimated c v e = go (le c.tl.«module» f0 || le c.tr.«module» f0 || le c.bl.«module» f0) e
  where
    go : (b : Bool) → cond b None (Some (record { 0 = nearest_version (side_in c) })) ≡ Some v → v.0 ≡ nearest_version (side_in c)
    go true h = let z : ◌≡◌ {A = ℕ} 0 1 = cc in absurd (omega arith)
    go false h = cc

estimate_valid : (c : Corners) (v : Version) → estimate_of c ≡ Some v → valid v.0 ≡ true
estimate_valid c v e =
    let n = estimated c v e in
    let r = from_1_to_32 (side_in c) in
    rw (le-leb 1 v.0 (omega arith), le-leb v.0 64 (omega arith))

bits_passed : (len w h : ℕ) → bits_refusal len w h ≡ 0 → (zero_side w h ≡ false) × (large_side w h ≡ false) × (short_bits len w h ≡ false)
unfolding bits_refusal
bits_passed len w h e =
    let p = first_passes (zero_side w h) 0 _ e in
    let q = first_passes (large_side w h) 1 _ p.1 in
    let r = first_passes (short_bits len w h) 3 _ q.1 in
    (p.0, q.0, r.0)

module _ (bits : List ℕ) (w h : ℕ) (done : bits_refusal (length bits) w h ≡ 0) (c : Corners) (v : Version) (e : estimate_of c ≡ Some v) where
  passes : alignment_refusal (length bits) w h v.0 ≡ 0
  unfolding alignment_refusal
  passes = let p = bits_passed (length bits) w h done in rw (p.0, p.1, p.2, estimate_valid c v e)

  pub built_not_refused : (m : Option Point) → number_of (built_of c m v.0) ≡ 0
  unfolding built_of
  built_not_refused m = number_checked (version_checks v.0) _ ∙ rw (estimate_valid c v e)

  pub located_not_refused : (t : Transform) (m : Float) → number_of (locate_answer bits w h t v.0 m) ≡ 0
  unfolding locate_answer alignment_refusal
  located_not_refused t m = number_checked (alignment_checks (length bits) w h v.0) _ ∙ passes

  pub refined_not_refused : (t : Transform) (m : Float) → number_of (refine_answer bits w h c v.0 t m) ≡ 0
  unfolding refine_answer alignment_refusal
  refined_not_refused t m = number_checked (alignment_checks (length bits) w h v.0) _ ∙ passes

-- ---- of a picture that isn't refused, the two calls agree
found_passed : (bits : List ℕ) (w h : ℕ) → find_refusal bits w h ≡ 0 → bits_refusal (length bits) w h ≡ 0
unfolding find_refusal bits_refusal
found_passed bits w h e =
    let p = first_passes (zero_side w h) 0 _ e in
    let q = first_passes (large_side w h) 1 _ p.1 in
    let r = first_passes (short_bits (length bits) w h) 3 _ q.1 in
    rw (p.0, q.0, r.0)

pub same_answer : (bits : List ℕ) (w h : ℕ) → find_refusal bits w h ≡ 0 → detect_answer bits w h ≡ from_answer bits w h (finders_of bits w h)
unfolding detect_answer from_answer find_refusal bits_refusal
same_answer bits w h e =
    let t = detections_table (detections_of bits w h (finders_of bits w h)) in
    sym (checked_passed (find_checks (length bits) w h (found bits w h)) t (sym e)) ∙ checked_passed (bits_checks (length bits) w h) t (sym (found_passed bits w h e))

-- ---- three at most, and none of fewer than three finders
pub three_at_most : (bits : List ℕ) (w h : ℕ) (fs : List Finder) → length (detections_of bits w h fs) ≤ 3
unfolding detections_of detection_of
three_at_most bits w h fs = omega (arith, flat_map_few (detection_of bits w h fs) (λ t. kept_few (build_of bits w h (corners_of fs t) t.score)) (ranked fs), at_most_three fs)

none_of_two : (fs : List Finder) → length fs < 3 → (ts : List Triple) → Each (λ (t : Triple). Admissible fs t × (before fs t < 3)) ts → ts ≡ []
unfolding Admissible
none_of_two fs l [] h = refl
none_of_two fs l (t ∷ ts) h = absurd (omega (arith, h.0.0.0))

pub none_of_few : (bits : List ℕ) (w h : ℕ) (fs : List Finder) → length fs < 3 → detections_of bits w h fs ≡ []
unfolding detections_of flat_map
none_of_few bits w h fs l = ap (flat_map (detection_of bits w h fs)) (none_of_two fs l (ranked fs) (ranked_only fs))
