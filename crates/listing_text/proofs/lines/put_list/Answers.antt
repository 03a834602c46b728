-- `listing_text::lines::put_list` meets its contract. Assumes nothing.
use mathlib.Core.Path.{refl}
use borrow.Author.Rules.{rules}
use Rattle.listing_text.proofs.Writing.{finished}
use Rattle.listing_text.proofs.Listed.{list_adds}
use Rattle.listing_text.proofs.lines.put_list.Goals as goal

pub returns-clause-text : goal.returns-clause-text
returns-clause-text c fs ds e f =
    let a = c.args in
    let r = list_adds a.width a.height a.found a.detected _ _ c.as_slice.ensures.value c.as_slice-2.ensures.value c.head.ensures c.lines.ensures c.lines-2.ensures fs ds e f in
    search (rules, finished r refl)
