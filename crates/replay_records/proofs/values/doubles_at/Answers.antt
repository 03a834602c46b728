use Rattle.std.proofs.Common.{ap, ◌∙◌}
use Rattle.std.proofs.lemmas.List.{length-replicate}
use Rattle.lists.proofs.Tabulate.{filled_none, filled_step}
use Rattle.replay_records.specs.Record.{double_at}
use Rattle.replay_records.proofs.Parts.{double_behind}
use Rattle.replay_records.proofs.values.doubles_at.Goals as goal

pub loop-k-init : goal.loop-k-init
loop-k-init g c = filled_none _ _

pub loop-k-preserved : goal.loop-k-preserved
loop-k-preserved g c =
    let l = c.loop-k in
    filled_step l.k _ _ l.x-items _ (rw length-replicate c.loop-k-test.true) l.invariant (c.double_at.ensures ∙ ap (λ p. double_at p 0) c.rest.ensures ∙ double_behind _ _)
