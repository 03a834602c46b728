use Rattle.std.proofs.Common.{◌∙◌, arith}
use Rattle.binary.specs.Line.{pixel}
use Rattle.finders.proofs.Windows.{Turn, progress, hits_hit, hits_skip, remaining_end}
use Rattle.finders.proofs.search.next_hit.Goals.{After-run_on-dark}
use Rattle.finders.proofs.search.next_hit.Goals as goal

-- the runs of a turn
turn : (c : After-run_on-dark) →
    let a = c.args in
    let w = c.loop-w.w in
    Turn (pixel a.line.bits.now a.line.start a.line.stride) a.line.len w.c w.d w.e w.at c.run_on-light.result c.run_on-dark.result
turn c = record {
  here = omega (arith, c.loop-w-test.true);
  fit = c.loop-w.invariant.fits.1;
  light = c.run_on-light.ensures.run;
  bound = omega (arith, c.run_on-light.ensures.most, c.loop-w-test.true);
  dark = c.run_on-dark.ensures.run;
}

pub returns-in-Some : goal.returns-in-Some
returns-in-Some c =
    let t = turn (goal.at.returns-in-Some c).After-run_on-dark in
    let l = c.loop-w in (
      l.invariant.left ∙ hits_hit t _ c.matches_finder.ensures _ c.in-Some.is,
      omega (arith, progress t, l.invariant.on),
      (omega (arith, c.run_on-light.ensures.most, c.run_on-dark.ensures.most, c.loop-w-test.true), omega (arith, l.invariant.fits.1)),
    )

pub loop-w-smaller : goal.loop-w-smaller
loop-w-smaller c = omega (arith, progress (turn (goal.at.loop-w-smaller c).After-run_on-dark), c.run_on-light.ensures.most, c.run_on-dark.ensures.most, c.loop-w-test.true)

pub loop-w-preserved : goal.loop-w-preserved
loop-w-preserved c =
    let l = c.loop-w in record {
      fits = (omega (arith, c.run_on-light.ensures.most, c.run_on-dark.ensures.most, c.loop-w-test.true), omega (arith, l.invariant.fits.1));
      on = omega (arith, l.invariant.on);
      left = l.invariant.left ∙ hits_skip (turn (goal.at.loop-w-preserved c).After-run_on-dark) _ c.matches_finder.ensures c.in_default.is;
    }

pub returns : goal.returns
returns c = c.loop-w.invariant.left ∙ remaining_end _ _ _ (omega (arith, c.loop-w-test.false))
