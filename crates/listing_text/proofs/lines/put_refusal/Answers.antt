-- `listing_text::lines::put_refusal` meets its contract. Assumes nothing.
use mathlib.Core.Path.{refl}
use borrow.Author.Rules.{rules}
use Rattle.listing_text.proofs.Writing.{finished}
use Rattle.listing_text.proofs.LineLaws.{refused_adds}
use Rattle.listing_text.proofs.lines.put_refusal.Goals as goal

pub returns-clause-text : goal.returns-clause-text
returns-clause-text c =
    let r = refused_adds c.args.number c.field.ensures c.decimal.ensures in
    search (rules, finished r refl)
