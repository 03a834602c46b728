-- `version::Version/from_side` meets its contract. Assumes nothing.
use borrow.Author.Tests.{le-leb, lt-leb, eq-eqb, ne_eqb}
use Rattle.lcr_core.proofs.version.Version.from_side.Goals as goal

pub returns-then-side-lt21 : goal.returns-then-side-lt21
returns-then-side-lt21 c = rw (lt-leb 21 c.args.side c.if-side-lt21.true)

pub returns-then-side-gt273 : goal.returns-then-side-gt273
returns-then-side-gt273 c = let s = c.args.side in rw (le-leb 21 s c.if-side-lt21.false, lt-leb s 273 c.if-side-gt273.true)

pub returns-then-d-eq0 : goal.returns-then-d-eq0
returns-then-d-eq0 c = let s = c.args.side in rw (le-leb 21 s c.if-side-lt21.false, le-leb s 273 c.if-side-gt273.false, eq-eqb _ 0 c.if-d-eq0.true)

pub returns-else-d-eq0 : goal.returns-else-d-eq0
returns-else-d-eq0 c = let s = c.args.side in rw (le-leb 21 s c.if-side-lt21.false, le-leb s 273 c.if-side-gt273.false, ne_eqb _ 0 c.if-d-eq0.false)
