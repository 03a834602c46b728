-- `version::Version/modules` meets its contract. Assumes nothing.
use mathlib.Core.Path.{ap}
use Prim.Native.Nat.{ℕ, ◌*◌, ◌≤◌}
use native.Mathlib.Nat.{mul-le-mul, lt_of_le_of_lt}
use native.Mathlib.Omega.{arith}
use lib.Dec.{lit<}
use Rattle.lcr_core.proofs.version.Version.modules.Goals as goal

pub overflow_mul-result : goal.overflow_mul-result
overflow_mul-result c =
    let h : c.side-s.result ≤ 65535 = omega arith in
    record { fits = lt_of_le_of_lt (mul-le-mul h h) (lit< tt) }

pub returns : goal.returns
returns c = ap (λ (s : ℕ). s * s) c.side-s.ensures
