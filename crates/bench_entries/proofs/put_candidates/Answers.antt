-- `bench_entries::put_candidates` meets its contract. Assumes nothing.
use mathlib.Core.Path.{refl, sym, ◌∙◌}
use lib.ListN.{length}
use Rattle.lcr_core.proofs.Checks.{same_number, refused_on, if_refused_error}
use Rattle.bench_entries.specs.Entries.{candidates_checks, candidates_refusal}
use Rattle.bench_entries.proofs.Room.{search_answered, found_written}
use Rattle.bench_entries.proofs.put_candidates.Goals as goal

pub returns-in_err-check_candidates : goal.returns-in_err-check_candidates
unfolding candidates_refusal
returns-in_err-check_candidates c =
    let p = c.args.bits in
    let i = c.from_residual.ensures.1 in
    record {
      number = refused_on _ _ i 4 (candidates_checks p.bits.now p.width p.height (length c.args.detections.now)) c.in_err-check_candidates.ensures;
      detections = if_refused_error _ _ _ _ (sym (same_number _ _ i));
    }

pub returns-in_err-found : goal.returns-in_err-found
returns-in_err-found c =
    let n = same_number _ _ c.from_residual-in_err-found.ensures.1 in
    record { number = n ∙ search_answered _ _ _ _ c.in_ok-check_candidates.ensures _ c.in_err-found.ensures; detections = if_refused_error _ _ _ _ (sym n) }

pub returns : goal.returns
returns c =
    let e = c.in_ok-check_candidates.ensures in
    let g = c.in_ok-found.ensures in
    record { number = search_answered _ _ _ _ e _ g; detections = found_written _ _ _ _ e _ g _ refl _ _ refl c.put_detections.ensures }
