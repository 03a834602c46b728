-- `version::Version/new` meets its contract. Assumes nothing.
use borrow.Author.Tests.{le-leb, lt-leb}
use mathlib.Core.Path.{refl}
use Prim.Native.Nat.{◌≤◌, ◌<◌}
use native.Mathlib.Omega.{arith}
use Rattle.lcr_core.specs.Version.{version_refusal}
use Rattle.lcr_core.proofs.version.Version.new.Goals as goal

pub returns-then-v : goal.returns-then-v
unfolding version_refusal
returns-then-v c =
    let v = c.args.v in
    let low : v < 1 = omega (arith, c.if-v.true) in
    rw (lt-leb 1 v low) (record { version = refl; number = refl })

pub returns-then-v-2 : goal.returns-then-v-2
unfolding version_refusal
returns-then-v-2 c =
    let v = c.args.v in
    let low : 1 ≤ v = omega (arith, c.if-v.false) in
    let high : 64 < v = omega (arith, c.if-v-2.true) in
    rw (le-leb 1 v low, lt-leb v 64 high) (record { version = refl; number = refl })

pub returns : goal.returns
unfolding version_refusal
returns c =
    let v = c.args.v in
    let low : 1 ≤ v = omega (arith, c.if-v.false) in
    let high : v ≤ 64 = omega (arith, c.if-v-2.false) in
    rw (le-leb 1 v low, le-leb v 64 high) (record { version = refl; number = refl })
