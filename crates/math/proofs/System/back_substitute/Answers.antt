use Rattle.std.proofs.Common.{◌≡◌, ℕ, ◌-◌, ap, ◌∙◌, sym, arith}
use lib.Ieee.{nan}
use lib.ListN.{length-set, length-replicate, get_or-replicate}
use Rattle.float.specs.Constants.{d0}
use Rattle.math.specs.Solve.{augmented, unknowns}
use Rattle.math.proofs.Elimination.{unknowns-none, unknowns_turn, first_is}
use Rattle.math.proofs.System.back_substitute.Goals as goal

pub loop-r-init : goal.loop-r-init
loop-r-init g c =
    let n = g.row.N in
    (length-replicate n d0, λ k l. get_or-replicate n k d0 nan l ∙ sym (unknowns-none n (augmented n c.args.self.now.a c.args.self.now.b) k))

pub loop-r-preserved : goal.loop-r-preserved
loop-r-preserved g c =
    let n = g.row.N in
    let m = augmented n c.args.self.now.a c.args.self.now.b in
    let x = c.loop-r.x in
    let r = c.loop-r.r in
    let v = c.loop-r.invariant in (
      length-set x _ _ ∙ v.0,
      unknowns_turn n m r x c.unknown.result (omega arith) (omega arith) (omega arith) v.1 (c.unknown.ensures (unknowns n m (n - r)) v.1),
    )

pub returns : goal.returns
returns g c =
    let n = g.row.N in
    let m = augmented n c.args.self.now.a c.args.self.now.b in
    let e : n - c.loop-r.r ≡ n = omega arith in
    first_is n c.loop-r.x (unknowns n m n) c.loop-r.invariant.0 (λ k l. c.loop-r.invariant.1 k l ∙ ap (λ (j : ℕ). unknowns n m j k) e)
