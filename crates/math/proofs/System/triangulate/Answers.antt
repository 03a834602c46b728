use Rattle.std.proofs.Common.{◌≡◌, ◌+◌, ◌-◌, not, sym, ap, ◌∙◌, arith}
use lib.Ieee.{lt}
use Rattle.float.specs.Floats.{abs_of}
use Rattle.float.specs.Constants.{d1e_12}
use Rattle.math.specs.Solve.{Matrix, augmented, pivoted, cleared, upper, singular, small_pivot}
use Rattle.math.proofs.Systems.{left_of}
use Rattle.math.proofs.Elimination.{turned, small_is, upper-none, upper_more, singular-none, singular_more, singular_on}
use Rattle.math.proofs.System.triangulate.Given.{Over}
use Rattle.math.proofs.System.triangulate.Goals.{After-abs}
use Rattle.math.proofs.System.triangulate.Goals as goal

held : (g : Over) (c : After-abs g) → let n = g.row.N in let j = c.loop-c.c in
    augmented n c.swap_rows.new.self.a c.swap_rows.new.self.b ≡ pivoted n (upper n (augmented n c.args.self.now.a c.args.self.now.b) j) j
held g c = turned g.row.N _ _ _ c.loop-c.c _ c.loop-c.invariant.1 c.pivot_row-p.ensures.value c.swap_rows.ensures

small : (g : Over) (c : After-abs g) → let n = g.row.N in
    lt c.abs.result d1e_12 ≡ small_pivot n (augmented n c.args.self.now.a c.args.self.now.b) c.loop-c.c
small g c =
    let j = c.loop-c.c in
    small_is g.row.N _ j _ (c.abs.ensures ∙ ap abs_of (sym (left_of g.row.N c.swap_rows.new.self.a c.swap_rows.new.self.b j j (omega arith)) ∙ ap (λ (m : Matrix). m j j) (held g c)))

pub loop-c-init : goal.loop-c-init
loop-c-init g c = (singular-none g.row.N _, sym (upper-none g.row.N _))

pub returns-then-abs-clause-value : goal.returns-then-abs-clause-value
returns-then-abs-clause-value g c =
    let d = (goal.at.returns-then-abs-clause-value g c).After-abs in
    let n = g.row.N in
    let m : Matrix = augmented n c.args.self.now.a c.args.self.now.b in
    let j = c.loop-c.c in
    let e : j + 1 + (n - (j + 1)) ≡ n = omega arith in
    ap not (sym (ap (singular n m) (sym e) ∙ singular_on n m (j + 1) (singular_more n m j c.loop-c.invariant.0 ∙ sym (small g d) ∙ c.if-abs.true) (n - (j + 1))))

pub loop-c-preserved : goal.loop-c-preserved
loop-c-preserved g c =
    let d = (goal.at.loop-c-preserved g c).After-abs in
    let n = g.row.N in
    let m : Matrix = augmented n c.args.self.now.a c.args.self.now.b in
    let j = c.loop-c.c in (
      singular_more n m j c.loop-c.invariant.0 ∙ sym (small g d) ∙ c.if-abs.false,
      c.eliminate.ensures ∙ ap (λ (u : Matrix). cleared u j n) (held g d) ∙ sym (upper_more n m j),
    )
