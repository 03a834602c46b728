-- `replay_records::slices::lendable` meets its contract. Assumes nothing.
use Rattle.std.proofs.Common.{◌+◌, ◌*◌, leb, refl, ◌∙◌, arith, rules}
use Rattle.std.proofs.lemmas.Iterator.{YieldsList-from_range}
use Rattle.std.proofs.lemmas.Iterator.Search.{all_from_yields_List}
use borrow.Author.Tests.{tests}
use Rattle.replay_records.specs.Record.{longest, length_at}
use Rattle.replay_records.proofs.SliceLaws.{lendable_is}
use Rattle.replay_records.proofs.slices.lendable.Goals as goal

pub returns : goal.returns
returns c =
    let a = c.args in
    all_from_yields_List (λ i. leb (length_at a.p.now (a.at + 4 * i)) longest) _ _ c.all.result c.all.ensures.ran (YieldsList-from_range 0 a.slices a.slices refl (omega arith)) (λ x b q k. search (rules, tests))
    ∙ lendable_is a.p.now a.at a.slices
