-- `float::nearest::nearest_shift` meets its contract. Assumes nothing.
use mathlib.Core.Path.{ap, ◌∙◌}
use Prim.Native.Nat.{ℕ, ◌+◌, ◌-◌, ◌/◌, ◌%◌, ◌^◌, ◌<◌}
use native.Mathlib.Omega.{arith}
use lib.Pow.{pow_pos}
use Rattle.float.proofs.Numbers.{half_pow, one_shl}
use Rattle.float.proofs.Narrowing.{nearest_by_half}
use Rattle.float.proofs.nearest.nearest_shift.Goals.{Start}
use Rattle.float.proofs.nearest.nearest_shift.Goals as goal

below : (c : Start) → c.args.d - 1 < 64
below c = omega arith

pub returns : goal.returns
returns c =
    let m = c.args.m in
    let d = c.args.d in
    ap (λ (h : ℕ). (m + m / 2 ^ d % 2 + h - 1) / 2 ^ d) (one_shl 64 (d - 1) (below c))
    ∙ nearest_by_half m (2 ^ d) (2 ^ (d - 1)) (half_pow d c.requires.d_nonzero) (pow_pos (d - 1))
