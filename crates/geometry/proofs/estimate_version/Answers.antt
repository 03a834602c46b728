-- `geometry::estimate_version` meets its contract. Assumes nothing.
use Rattle.geometry.proofs.Answers.{small-tl, small-tr, small-bl, estimated}
use Rattle.geometry.proofs.estimate_version.Goals as goal

pub returns-then-c : goal.returns-then-c
returns-then-c c = small-tl _ c.if-c.true

pub returns-then-c-2 : goal.returns-then-c-2
returns-then-c-2 c = small-tr _ c.if-c-2.true

pub returns-then-c-3 : goal.returns-then-c-3
returns-then-c-3 c = small-bl _ c.if-c-3.true

pub returns : goal.returns
returns c = estimated _ _ _ c.if-c.false c.if-c-2.false c.if-c-3.false c.side_in.ensures c.nearest_version.ensures
