-- `binarize::binarize_checked` meets its contract. Assumes nothing.
use mathlib.Core.Path.{◌∙◌}
use native.Mathlib.Omega.{arith}
use Rattle.binary.proofs.Words.{bytes_same}
use Rattle.blocks.proofs.Marking.{at-filled}
use Rattle.blocks.proofs.Refusals as blocks
use Rattle.binarize.proofs.Brighter.{dark_same}
use Rattle.binarize.proofs.binarize_checked.Goals as goal

pub invariant_of-picture : goal.invariant_of-picture
invariant_of-picture c = let p = blocks.passes _ _ _ _ _ _ _ _ c.requires.values in record { sides = p.sides; bytes = p.bytes }

pub put_picture-requires : goal.put_picture-requires
put_picture-requires c =
    let q = c.requires in
    let p = blocks.passes _ _ _ _ _ _ _ _ q.values in
    (omega arith, omega arith, omega arith, q.bits)

pub returns-clause-bits : goal.returns-clause-bits
returns-clause-bits c =
    let a = c.args in
    let e = c.block_values.ensures in
    let v = rw (e.refusal ∙ c.requires.values) at e.values in
    c.put_picture.ensures
    ∙ bytes_same _ _ _ _
    (dark_same _ _ _ _ _ _ a.gray.gray.now a.gray.width a.gray.height (at-filled _ _ _ _ v.means) (at-filled _ _ _ _ v.edges) (at-filled _ _ _ _ v.nears))
