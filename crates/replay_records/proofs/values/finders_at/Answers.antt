use Rattle.std.proofs.Common.{◌≡◌, length, ap, arith}
use Rattle.lists.proofs.Tabulate.{filled_none, filled_step}
use Rattle.finders.specs.declared.Finders.{Finders}
use Rattle.finders.specs.Search.{max_finders}
use Rattle.replay_records.proofs.Parts.{found_all}
use Rattle.replay_records.proofs.values.finders_at.Goals as goal

pub loop-i-init : goal.loop-i-init
loop-i-init c = filled_none _ _

pub loop-i-preserved : goal.loop-i-preserved
loop-i-preserved c =
    let l = c.loop-i in
    let n : length c.no_finders-t.result.table ≡ max_finders = ap (λ (t : Finders). length t.table) c.no_finders-t.ensures in
    filled_step l.i _ _ l.f-items _ (omega (arith, c.loop-i-test.true)) l.invariant c.read_finder.ensures

pub returns : goal.returns
returns c = let l = c.loop-i in found_all _ _ _ _ l.f-items l.i (omega arith) (ap (λ (t : Finders). length t.table) c.no_finders-t.ensures) l.invariant
