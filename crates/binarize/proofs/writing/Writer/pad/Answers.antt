use native.Mathlib.Omega.{arith}
use Rattle.binarize.proofs.Eights.{puts_one}
use Rattle.binarize.proofs.writing.Writer.pad.Goals as goal

pub loop-n-preserved : goal.loop-n-preserved
loop-n-preserved c =
    let e = c.put.ensures in
    let l = c.loop-n in
    puts_one _ l.n _ _ _ _ _ _ (omega arith) e.same e.long e.rest e.bytes (λ p agree. (agree l.n (omega arith) (omega arith), λ k a b. agree k a (omega arith))) l.invariant
