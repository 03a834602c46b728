-- `float::nearest::narrow_mag` meets its contract. Assumes nothing.
use mathlib.Core.Path.{◌≡◌, sym, ap, ◌∙◌, subst}
use Prim.Native.Nat.{ℕ, suc, ◌+◌, ◌-◌, ◌*◌, ◌^◌, ◌≤◌, ◌<◌, min}
use native.Mathlib.Nat.{lt_of_lt_of_le}
use native.Mathlib.Omega.{arith}
use lib.Pow.{pow_mono}
use lib.Ieee.{binary32, binary64}
use lib.Ieee.Nearest.{closest}
use Rattle.float.specs.Fields.{val, pack, round_mag}
use Rattle.float.proofs.Magnitudes.{sig-lt}
use Rattle.float.proofs.Narrowing.{narrow_parts, nearest-none}
use Rattle.float.proofs.nearest.narrow_mag.Goals.{After-expo-e}
use Rattle.float.proofs.nearest.narrow_mag.Goals as goal

short : (c : After-expo-e) → c.sig-m.result < 2 ^ 53
short c = subst (λ (x : ℕ). x < 2 ^ 53) (sym c.sig-m.ensures) (sig-lt binary64 c.args.a)

-- with k = e - 896 digits of the f32 and d of the f64 dropped
parts : (c : After-expo-e) (d : ℕ) → c.expo-e.result - 896 + 925 ≡ c.expo-e.result + d
    → (closest c.sig-m.result (2 ^ d) ≤ 2 ^ 24)
    × (round_mag binary32 (val binary64 c.args.a) (2 ^ 1074) ≡ min ((c.expo-e.result - 896) * 8388608 + closest c.sig-m.result (2 ^ d)) 2139095040)
parts c d h = narrow_parts c.args.a c.sig-m.result c.expo-e.result d c.sig-m.ensures c.expo-e.ensures h

pub returns-then-e-lt862 : goal.returns-then-e-lt862
returns-then-e-lt862 c =
    let s = (goal.at.returns-then-e-lt862 c).After-expo-e in
    let m = s.sig-m.result in
    let e = s.expo-e.result in
    let l : 53 ≤ 924 - e = omega arith in
    let k : e - 896 ≡ 0 = omega arith in
    sym ((parts s (suc (924 - e)) (omega arith)).1 ∙ ap (λ (q : ℕ). pack binary32 q (e - 896)) (nearest-none m (924 - e) (lt_of_lt_of_le (short s) (pow_mono l))) ∙ ap (pack binary32 0) k)

pub overflow_cast-result : goal.overflow_cast-result
overflow_cast-result c =
    let s = (goal.at.overflow_cast-result c).After-expo-e in
    let e = s.expo-e.result in
    omega (arith, (parts s (925 - e) (omega arith)).0, c.nearest_shift.ensures)

pub returns-then-e-lt896 : goal.returns-then-e-lt896
returns-then-e-lt896 c =
    let s = (goal.at.returns-then-e-lt896 c).After-expo-e in
    let e = s.expo-e.result in
    omega (arith, parts s (925 - e) (omega arith), c.nearest_shift.ensures)

pub returns-then-n-lt2139095040 : goal.returns-then-n-lt2139095040
returns-then-n-lt2139095040 c =
    let s = (goal.at.returns-then-n-lt2139095040 c).After-expo-e in
    omega (arith, parts s 29 (omega arith), c.nearest_shift-2.ensures)

pub returns-else-n-lt2139095040 : goal.returns-else-n-lt2139095040
returns-else-n-lt2139095040 c =
    let s = (goal.at.returns-else-n-lt2139095040 c).After-expo-e in
    omega (arith, parts s 29 (omega arith), c.nearest_shift-2.ensures)
