-- `float::magnitude::half_up` meets its contract. Assumes nothing.
use mathlib.Core.Path.{sym, subst}
use Prim.Native.Nat.{ℕ, ◌+◌, ◌^◌, ◌<◌}
use native.Mathlib.Omega.{arith}
use Rattle.float.proofs.Casting.{below_31}
use Rattle.float.proofs.Rounding.{half_double}
use Rattle.float.proofs.magnitude.half_up.Goals as goal

pub overflow_add-result : goal.overflow_add-result
overflow_add-result c =
    let a = c.args.a in
    let l : a + 8388608 < 0x4f00_0000 = omega (arith, c.requires) in
    let r : c.whole.result < 2 ^ 31 = subst (λ (n : ℕ). n < 2 ^ 31) (sym c.whole.ensures) (below_31 (a + 8388608) l) in
    omega arith

pub returns : goal.returns
returns c = half_double c.args.a c.whole.result c.whole.ensures
