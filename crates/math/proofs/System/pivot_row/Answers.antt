use Rattle.std.proofs.Common.{◌≡◌, ◌+◌, Bool, cond, sym, ap, ◌∙◌, arith}
use lib.Ieee.{lt}
use Rattle.float.specs.Floats.{abs_of}
use Rattle.math.specs.Solve.{Matrix, augmented}
use Rattle.math.proofs.Systems.{left_of}
use Rattle.math.proofs.Elimination.{pivot_low, pivot_turn}
use Rattle.math.proofs.System.pivot_row.Goals.{else-larger, then-larger}
use Rattle.math.proofs.System.pivot_row.Goals as goal

pub loop-r-init : goal.loop-r-init
loop-r-init g c = (omega arith, sym (pivot_low (augmented g.row.N c.args.self.now.a c.args.self.now.b) c.args.c (c.args.c + 1) (omega arith)))

pub loop-r-preserved : goal.loop-r-preserved
loop-r-preserved g c =
    let n = g.row.N in
    let a = c.args.self.now.a in
    let b = c.args.self.now.b in
    let m : Matrix = augmented n a b in
    let k = c.args.c in
    let r = c.loop-r.r in
    let p = c.loop-r.p in
    -- the test compares the entries of m
    let test : lt (abs_of (m p k)) (abs_of (m r k)) ≡ c.larger.result = cc (c.larger.ensures, left_of n a b p k (omega arith), left_of n a b r k (omega arith)) in
    let next : c.if-larger.p ≡ cond c.larger.result r p =
    elim c.if-larger.branch [
      | then-larger w ↦ w.p-is ∙ ap (λ (b : Bool). cond b r p) (sym w.if-larger.true)
      | else-larger w ↦ w.p-is ∙ ap (λ (b : Bool). cond b r p) (sym w.if-larger.false)
    ] in (
      elim c.if-larger.branch [ then-larger w ↦ omega arith | else-larger w ↦ omega arith ],
      pivot_turn m k r p _ _ (omega arith) c.loop-r.invariant.1 test next,
    )
