-- `binarize::writing::put_picture` meets its contract: the pixels of the first y rows of blocks are written. Assumes nothing.
use Prim.Native.Nat.{◌*◌, min}
use mathlib.Core.Path.{◌≡◌}
use lib.ListN.{length}
use Rattle.binarize.specs.Writing.{Written}
use Rattle.lists.specs.Lists.{at}
use Rattle.binarize.specs.Binarize.{dark_by}
use Rattle.binarize.proofs.writing.put_picture.Given as goal

abbrev pub invariant-loop-y : goal.invariant-loop-y
invariant-loop-y l =
    let p = l.picture in
    let b = l.blocks in
    (length l.levels ≡ 512) × (l.writer.bits.ghost_name ≡ l.initial.writer.bits.ghost_name) × (length l.writer.bits.now ≡ length l.fn.bits)
    × Written (dark_by (at b.means.now) (at b.edges.now) (at b.nears.now) p.gray.now p.width p.height) (min p.height (l.y * 8) * p.width) l.fn.bits l.writer.bits.now l.writer.pending
