-- `math::System::eliminate_row` meets its contract. Assumes nothing.
use Rattle.std.proofs.Common.{◌≡◌, sym, ap, ◌∙◌, arith}
use lib.Ieee.{Float, eq}
use Rattle.float.specs.Steps.{◌⧄◌}
use Rattle.float.specs.Constants.{d0}
use Rattle.math.specs.Solve.{Matrix, augmented, reduced}
use Rattle.math.proofs.Systems.{at, left_of}
use Rattle.math.proofs.Elimination.{row_left, row-reduced}
use Rattle.math.proofs.System.eliminate_row.Goals as goal

pub returns-then-f : goal.returns-then-f
returns-then-f g c =
    let n = g.row.N in
    let a = c.args.self.now.a in
    let b = c.args.self.now.b in
    let m : Matrix = augmented n a b in
    let k = c.args.c in
    let r = c.args.r in
    let factor : at a r k ⧄ at a k k ≡ m r k ⧄ m k k = cc (left_of n a b r k (omega arith), left_of n a b k k (omega arith)) in
    row_left m k r (ap (λ (f : Float). eq f d0) (sym factor) ∙ c.if-f.true)

pub returns : goal.returns
returns g c =
    let n = g.row.N in
    let a = c.args.self.now.a in
    let b = c.args.self.now.b in
    let m : Matrix = augmented n a b in
    let k = c.args.c in
    let r = c.args.r in
    let factor : at a r k ⧄ at a k k ≡ m r k ⧄ m k k = cc (left_of n a b r k (omega arith), left_of n a b k k (omega arith)) in
    c.reduce_row.ensures ∙ ap (reduced m k r) factor ∙ row-reduced m k r (ap (λ (f : Float). eq f d0) (sym factor) ∙ c.if-f.false)
