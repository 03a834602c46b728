-- Two i32s as i64s, and their difference, their sum and its successor: none is cut. Assumes nothing.
use mathlib.Core.Path.{◌≡◌}
use native.Mathlib.Omega.{arith}
use Prim.Native.Nat.{◌<◌, ◌^◌}
use lib.IntN.{ℤ, ◌+ℤ◌, ◌-ℤ◌, pos}
use lib.Signed.{mag}
use mir.Syntax.{w32, w64}
use mir.Val.{to_z, of_z}
use Rattle.std.proofs.lemmas.Int.{ints}

-- an i64, and an i32 as an i64
abbrev held : ℤ → ℤ
held z = to_z w64 (of_z w64 z)

abbrev widened : ℤ → ℤ
widened z = held (to_z w32 (of_z w32 z))

module _ (a b : ℤ) (p : mag a < 2 ^ 31) (q : mag b < 2 ^ 31) where
  pub difference_is : held (widened a -ℤ widened b) ≡ a -ℤ b
  difference_is = omega (arith, ints, p, q)

  pub sum_is : held (widened a +ℤ widened b) ≡ a +ℤ b
  sum_is = omega (arith, ints, p, q)

  pub next_is : held (held (widened a +ℤ widened b) +ℤ pos 1) ≡ a +ℤ b +ℤ pos 1
  next_is = omega (arith, ints, p, q)
