use Prim.Native.Nat.{◌+◌}
use mathlib.Core.Path.{sym, ap, ◌∙◌}
use native.Mathlib.Omega.{arith}
use native.Mathlib.Nat.{add_assoc}
use Rattle.binary.specs.Binary.{bit}
use Rattle.binarize.proofs.Eights.{puts_one}
use Rattle.binarize.proofs.writing.Writer.put_pixels.Goals as goal

pub loop-x-preserved : goal.loop-x-preserved
loop-x-preserved c =
    let e = c.put.ensures in
    let l = c.loop-x in
    rw (← add_assoc)
    (puts_one _ (c.args.from + l.x) _ _ _ _ _ _ (omega arith) e.same e.long e.rest e.bytes
    (λ p agree. (c.below.ensures ∙ ap bit (sym (agree l.x (omega arith))), λ k h. agree k (omega arith))) l.invariant)
