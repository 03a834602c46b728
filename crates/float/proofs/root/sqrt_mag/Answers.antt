-- `float::root::sqrt_mag` meets its contract. Assumes nothing.
use mathlib.Core.Path.{◌≡◌, sym, subst}
use Prim.Native.Nat.{ℕ, suc, ◌+◌, ◌-◌, ◌*◌, ◌%◌, ◌^◌, ◌≤◌, ◌<◌}
use native.Mathlib.Nat.{le_trans, lt_of_lt_of_le, lt_of_not-le, not-le_of_lt, mod-eq_of_lt}
use native.Mathlib.Omega.{arith}
use lib.Dec.{lit≤}
use lib.Pow.{pow_mono}
use lib.Count.{count_leading_zeros, leading_top}
use lib.Ieee.{binary32}
use Rattle.float.proofs.Magnitudes.{sig-lt, sig_pos}
use Rattle.float.proofs.Squares.{IsRoot}
use Rattle.float.proofs.Roots.{shifted_lt, sqrt_mag_is}
use Rattle.float.proofs.root.sqrt_mag.Goals.{After-sig-m, After-expo, After-isqrt-r}
use Rattle.float.proofs.root.sqrt_mag.Goals as goal

short : (c : After-sig-m) → c.sig-m.result < 2 ^ 24
short c = subst (λ (x : ℕ). x < 2 ^ 24) (sym c.sig-m.ensures) (sig-lt binary32 c.args.a)

digit_lt : (j m : ℕ) → 2 ^ j ≤ m → m < 2 ^ 24 → j < 24
digit_lt j m lo few = lt_of_not-le (λ (g : 24 ≤ j). not-le_of_lt few (le_trans (pow_mono g) lo))

-- the zeros before the leading digit in 32 bits, and where it is
abbrev z_of : After-sig-m → ℕ
z_of c = count_leading_zeros 64 c.sig-m.result - 32

lead : (c : After-sig-m) → (j : ℕ) × (z_of c + suc j ≡ 32) × (2 ^ j ≤ c.sig-m.result) × (c.sig-m.result < 2 ^ suc j) × (32 ≤ count_leading_zeros 64 c.sig-m.result)
lead c =
    let m = c.sig-m.result in
    let l = leading_top 64 m (subst (λ (x : ℕ). 0 < x) (sym c.sig-m.ensures) (sig_pos binary32 c.args.a c.requires.a_nonzero)) (lt_of_lt_of_le (short c) (lit≤ tt)) in
    let d : l.0 < 24 = digit_lt l.0 m l.2 (short c) in
    (l.0, omega (arith, l.1), l.2, l.3, omega (arith, l.1))

abbrev zs : After-expo → ℕ
zs c = 17 + z_of c.before + (c.expo.result + 132 - z_of c.before) % 2

fit : (c : After-expo) → c.sig-m.result * 2 ^ zs c < 2 ^ 50
fit c =
    let l = lead c.before in
    shifted_lt c.args.a c.sig-m.result c.expo.result (z_of c.before) c.sig-m.ensures c.expo.ensures l.0 l.1 l.2 l.3 (short c.before)

exact : (c : After-isqrt-r) → IsRoot (c.sig-m.result * 2 ^ zs c.before) c.isqrt-r.result
exact c = rw (mod-eq_of_lt (lt_of_lt_of_le (fit c.before) (lit≤ tt))) at c.isqrt-r.ensures

pub overflow_sub-z : goal.overflow_sub-z
overflow_sub-z c = (lead c).4

pub isqrt-r-requires : goal.isqrt-r-requires
isqrt-r-requires c = rw (mod-eq_of_lt (lt_of_lt_of_le (fit c) (lit≤ tt))) (fit c)

pub returns : goal.returns
returns c =
    let s = (goal.at.returns c).After-expo in
    let l = lead s.before in
    sqrt_mag_is s.args.a s.sig-m.result s.expo.result (z_of s.before) s.sig-m.ensures s.expo.ensures
    l.0 l.1 l.2 l.3 (short s.before) c.isqrt-r.result (exact c) (let e = s.expo.ensures in omega arith)
