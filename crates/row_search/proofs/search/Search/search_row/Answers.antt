-- `row_search::search::Search::search_row` meets its contract. Assumes nothing.
use native.Mathlib.Omega.{arith}
use Rattle.row_search.proofs.RowLaws.{row_begins, row_skips, goes_on, walks, folds}
use Rattle.row_search.proofs.search.Search.search_row.Goals as goal

pub loop-x-init : goal.loop-x-init
loop-x-init c =
    let a = c.args in
    let s = a.self.now in
    let p = s.picture in
    let d = c.run_on in
    let l = c.run_on-light in
    let n = c.if-right-left.false in (
      row_begins p.bits.now p.width p.height s.«module» s.window s.predicted a.y _ c.row-row.ensures.pixels d.result l.result n d.ensures.run l.ensures.run
          d.ensures.most l.ensures.most,
      row_skips p.bits.now p.width p.height s.«module» s.window s.predicted a.y _ c.row-row.ensures.pixels d.result l.result n d.ensures.run l.ensures.run
          d.ensures.most l.ensures.most a.nearest,
    )

pub loop-x-smaller : goal.loop-x-smaller
loop-x-smaller c =
    let a = c.args in
    let s = a.self.now in
    let p = s.picture in
    let l = c.loop-x in
    let i = l.invariant in
    let r = c.row_runs-r in
    let e = r.ensures in
    let g = goes_on p.bits.now p.width p.height s.«module» s.window s.predicted a.y _ c.row-row.ensures.pixels l.nearest _ l.x l.light i.0 c.loop-x-test.true i.1
    r.result e.value e.dark_bound.0 e.dark_bound.1 in
    omega (arith, c.loop-x-test.true, g)

pub loop-x-preserved : goal.loop-x-preserved
loop-x-preserved c =
    let a = c.args in
    let s = a.self.now in
    let p = s.picture in
    let l = c.loop-x in
    let i = l.invariant in
    let r = c.row_runs-r in
    let e = r.ensures in (
      walks p.bits.now p.width p.height s.«module» s.window s.predicted a.y _ c.row-row.ensures.pixels l.nearest _ l.x l.light i.0 c.loop-x-test.true i.1
          r.result e.value e.dark_bound.0 e.dark_bound.1,
      folds p.bits.now p.width p.height s.«module» s.window s.predicted a.y _ c.row-row.ensures.pixels l.nearest _ l.x l.light i.0 c.loop-x-test.true i.1
          r.result e.value e.dark_bound.0 e.dark_bound.1 _ _ c.marker_by_runs.ensures c.nearer-nearest.ensures,
    )
