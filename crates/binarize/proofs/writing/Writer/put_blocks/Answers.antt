use Prim.Native.Nat.{◌+◌, ◌*◌}
use mathlib.Core.Path.{◌≡◌, ◌∙◌}
use native.Mathlib.Omega.{arith}
use Rattle.binarize.proofs.Eights.{written-eight, same_eight}
use Rattle.binarize.proofs.writing.Writer.put_blocks.Goals as goal

pub loop-j-preserved : goal.loop-j-preserved
loop-j-preserved c =
    let put = c.put_eight in
    let l = c.loop-j in
    let a = c.args in
    let up : a.from + (l.j + 1) * 8 ≡ a.from + l.j * 8 + 8 = omega arith in
    let so = l.invariant in
    record {
      same = put.ensures.same ∙ so.same;
      long = put.ensures.long ∙ so.long;
      written = λ p old long w agree.
          rw up
          (written-eight p (a.from + l.j * 8) old _ _ _ _ _ (omega (arith, so.long)) put.ensures.rest put.ensures.bytes
          (c.eight_below-b.ensures ∙ same_eight p a.gray.now a.levels.now a.from a.w l.j agree (omega arith)) (so.written p old long w agree));
    }
