-- A colour's gray value is the nearest whole number, halves up (document 02, N3). Assumes nothing.
use mathlib.Core.Path.{◌≡◌}
use Prim.Native.Nat.{ℕ, ◌+◌, ◌*◌, ◌≤◌, ◌<◌}
use native.Mathlib.Omega.{arith}
use Rattle.gray.specs.Gray.{gray_rule}

-- a 256th of the weighted sum is at most a half below v, and less than a half above it
abbrev pub Nearest : ℕ → ℕ → ℕ → ℕ → Type 0
Nearest r g b v = let sum = 54 * r + 183 * g + 19 * b in (256 * v ≤ sum + 128) × (sum + 128 < 256 * (v + 1))

pub gray_nearest : (r g b : ℕ) → Nearest r g b (gray_rule r g b)
gray_nearest r g b = (omega arith, omega arith)

-- no other whole number is like that
pub gray_only : (r g b v : ℕ) → Nearest r g b v → gray_rule r g b ≡ v
gray_only r g b v n = omega (arith, n.0, n.1)

-- that of three bytes is a byte
pub gray_byte : (r g b : ℕ) → r < 256 → g < 256 → b < 256 → gray_rule r g b < 256
gray_byte r g b p q s = omega arith

-- equal red, green and blue give their own value, as the gray pixel of that value does
pub gray_of_equals : (v : ℕ) → gray_rule v v v ≡ v
gray_of_equals v = omega arith
