-- `bench_entries::list_finders` meets its contract. Assumes nothing.
use mathlib.Core.Path.{sym}
use Rattle.lcr_core.proofs.Checks.{same_number, if_refused_error}
use Rattle.bench_entries.proofs.Lists.{list_refused, list_written}
use Rattle.bench_entries.proofs.list_finders.Goals as goal

pub returns-in_err-found : goal.returns-in_err-found
returns-in_err-found c =
    let n = same_number _ _ c.from_residual.ensures.1 in
    record { number = list_refused _ _ _ _ _ _ c.in_err-found.ensures n; list = if_refused_error _ _ _ _ (sym n) }

pub returns : goal.returns
returns c =
    let e = c.in_ok-found.ensures in
    let s = c.write_list.ensures in
    record { number = list_written _ _ _ _ _ _ e s.refusal; list = rw (← e) s.bytes }
