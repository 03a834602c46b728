use Rattle.std.proofs.Common.{◌≡◌, ◌+◌, ◌*◌, ◌/◌, ◌≤◌, sym, ap, ◌∙◌, subst, arith}
use Rattle.lists.specs.Lists.{range, folded}
use Rattle.lists.proofs.Folds.{fold_more, fold_end}
use Rattle.lcr_core.specs.Outcome.{max_side}
use Rattle.finders.specs.Held.{held, over}
use Rattle.finders.specs.Answer.{held_in}
use Rattle.finders.specs.Inner.{line_most, axis_most, line_count, scanned_at, axis}
use Rattle.finders.proofs.Tables.{ends_error, fine_mono, good_of, good_fine}
use Rattle.finders.proofs.Axes.{scanned_fine, count_small, lines_over}
use Rattle.finders.proofs.search.scan_axis.Goals.{After-div_ceil-half}
use Rattle.finders.proofs.search.scan_axis.Goals as goal

-- half of the lines of an axis
lines : (d : After-div_ceil-half) → let a = d.args in
    (d.div_ceil-half.result ≡ (line_count a.picture.width a.picture.height a.columns + 1) / 2) × (d.line_count.result ≤ max_side)
lines d =
    let a = d.args in
    (omega (arith, d.div_ceil-half.ensures, ap (λ n. (n + 1) / 2) d.line_count.ensures), subst (λ k. k ≤ max_side) (sym d.line_count.ensures) (count_small d.requires.sides a.columns))

pub returns-in_err-scan_line : goal.returns-in_err-scan_line
unfolding axis
returns-in_err-scan_line c =
    let a = c.args in
    let l = c.loop-k in
    let g = scanned_at a.picture.bits.now a.picture.width a.picture.height a.columns in
    let e = c.in_err-scan_line.ensures in
    let n = (lines (goal.at.returns-in_err-scan_line c).After-div_ceil-half).0 in
    ends_error _ c.in_err-scan_line.field-0.0 _ _ c.from_residual.ensures.1 e.1
    (ap (λ z. folded g (held (held_in a.t.now)) (range 0 z)) (sym n) ∙ fold_more g _ (held (held_in l.t)) over l.k _ c.loop-k-test.true l.invariant.left (sym e.0)
    ∙ lines_over a.picture.bits.now a.picture.width a.picture.height c.requires.sides a.columns _)

pub loop-k-preserved : goal.loop-k-preserved
loop-k-preserved c =
    let a = c.args in
    let l = c.loop-k in
    let g = scanned_at a.picture.bits.now a.picture.width a.picture.height a.columns in
    let e = c.in_ok-scan_line.ensures in record {
      good = good_of _ (g (held (held_in l.t)) l.k) _ e.0 e.1
          (fine_mono (g (held (held_in l.t)) l.k) (axis_most + line_most * l.k + line_most) _ (omega arith)
          (scanned_fine a.picture.bits.now a.picture.width a.picture.height c.requires.sides a.columns (held (held_in l.t)) (2 * l.k) _ (good_fine l.t _ l.invariant.good)));
      left = fold_more g _ (held (held_in l.t)) (held (held_in c.scan_line.new.t)) l.k _ c.loop-k-test.true l.invariant.left (sym e.1);
    }

pub returns : goal.returns
unfolding axis
returns c =
    let a = c.args in
    let l = c.loop-k in
    let g = scanned_at a.picture.bits.now a.picture.width a.picture.height a.columns in
    let n = (lines (goal.at.returns c).After-div_ceil-half).0 in
    (l.invariant.good.rest, ap (λ z. folded g (held (held_in a.t.now)) (range 0 z)) (sym n) ∙ fold_end g _ (held (held_in l.t)) l.k _ c.loop-k-test.false l.invariant.left)
