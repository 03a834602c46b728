use Prim.Native.Nat.{◌*◌, ◌+◌, ◌≤◌}
use mathlib.Core.Path.{◌∙◌}
use native.Mathlib.Omega.{arith}
use lib.ListN.{length}
use Rattle.lists.proofs.Tabulate.{length_part, filled_row}
use Rattle.lists.proofs.Numbers.{next_row}
use Rattle.gray.specs.Gray.{channels_of}
use Rattle.gray.proofs.GrayLaws.{turn, gray_row-at}
use Rattle.gray.proofs.gray_rows.Goals as goal

pub loop-y-preserved : goal.loop-y-preserved
loop-y-preserved c =
    let l = c.loop-y in
    let a = c.args in
    let p = a.pixels in
    let h = turn _ _ _ _ _ _ l.y c.requires c.loop-y-test.true in
    let long : l.y * p.width + p.width ≤ length l.gray = omega (arith, h.1) in
    filled_row (l.y * p.width) p.width _ _ a.gray.now l.gray _ l.invariant
    (rw (length_part (l.y * p.width) p.width l.gray long) at c.gray_row.ensures)
    (λ i k. rw c.channels.ensures (gray_row-at p.«data».now p.width p.stride (channels_of a.format) l.y i c.requires.format k))
    ∙ rw next_row
