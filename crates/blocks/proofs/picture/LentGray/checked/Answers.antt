-- `blocks::picture::LentGray::checked` meets its contract. Assumes nothing.
use mathlib.Core.Path.{sym}
use Rattle.blocks.proofs.Refusals.{picture_passes}
use Rattle.blocks.proofs.picture.LentGray.checked.Goals as goal

pub invariant_of-result : goal.invariant_of-result
invariant_of-result c = let p = picture_passes _ _ _ (sym c.in_ok-check_picture.ensures) in record { sides = p.0; bytes = p.1 }
