use Rattle.std.proofs.Common.{◌≡◌, ◌+◌, sym, ◌∙◌, arith}
use Rattle.math.specs.Solve.{augmented}
use Rattle.math.proofs.Systems.{left_of, right_of}
use Rattle.math.proofs.Elimination.{remainder_low, remainder_more}
use Rattle.math.proofs.System.unknown.Goals as goal

pub loop-k-init : goal.loop-k-init
loop-k-init g c y h =
    let n = g.row.N in
    let a = c.args.self.now.a in
    let b = c.args.self.now.b in
    let r = c.args.r in
    sym (right_of n a b r n (omega arith)) ∙ sym (remainder_low n (augmented n a b) r y (r + 1) (omega arith))

pub loop-k-preserved : goal.loop-k-preserved
loop-k-preserved g c y h =
    let n = g.row.N in
    let a = c.args.self.now.a in
    let b = c.args.self.now.b in
    let r = c.args.r in
    let k = c.loop-k.k in
    cc (c.loop-k.invariant y h, left_of n a b r k (omega arith), h k (omega arith), remainder_more n (augmented n a b) r y k (omega arith))

pub returns : goal.returns
returns g c y h =
    let n = g.row.N in
    let a = c.args.self.now.a in
    let b = c.args.self.now.b in
    let r = c.args.r in
    let e : c.loop-k.k ≡ n = omega arith in
    cc (c.loop-k.invariant y h, left_of n a b r r (omega arith), e)
