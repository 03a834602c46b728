-- `listing_text::put_picture` meets its contract. Assumes nothing.
use mathlib.Core.Path.{◌∙◌}
use Rattle.listing_text.proofs.Refusals.{stages_pass}
use Rattle.listing_text.proofs.Listed.{chain_wrote}
use Rattle.listing_text.proofs.put_picture.Goals as goal

pub returns-clause-text : goal.returns-clause-text
returns-clause-text c =
    let a = c.args in
    let u = c.stages.ensures in
    chain_wrote _ a.picture.now a.width a.height _ _ _ _ _ (u.refusal ∙ stages_pass a.width a.height a.picture.now c.requires) u.left.denoised c.put_found.ensures.text
