-- Each constant is the float nearest to the number of its name, here as a fraction. Assumes nothing.
use mathlib.Core.Path.{◌≡◌, refl}
use mathlib.Core.Bool.{false}
use Prim.Native.Nat.{ℕ}
use lib.Ieee.{Float, binary32, binary64, of_bits, round}
use Rattle.float.specs.Constants.{f0, f1/32, f1/8, f1/4, f1/2, f0_55, f0_7, f1, f1_5, f1_6, f2, f3, f3_5, f4, f5, f6, f6_5, f7, f21, f0_0722, f0_2126, f0_7152, d0, d1, d1e_9, d1e_12}

abbrev single : ℕ → ℕ → Float
single n d = round binary32 false n d

abbrev double : ℕ → ℕ → Float
double n d = round binary64 false n d

pub singles : (f0 ≡ single 0 1)
    × (f1/32 ≡ single 1 32)
    × (f1/8 ≡ single 1 8)
    × (f1/4 ≡ single 1 4)
    × (f1/2 ≡ single 1 2)
    × (f0_55 ≡ single 55 100)
    × (f0_7 ≡ single 7 10)
    × (f1 ≡ single 1 1)
    × (f1_5 ≡ single 3 2)
    × (f1_6 ≡ single 16 10)
    × (f2 ≡ single 2 1)
    × (f3 ≡ single 3 1)
    × (f3_5 ≡ single 7 2)
    × (f4 ≡ single 4 1)
    × (f5 ≡ single 5 1)
    × (f6 ≡ single 6 1)
    × (f6_5 ≡ single 13 2)
    × (f7 ≡ single 7 1)
    × (f21 ≡ single 21 1)
    × (f0_0722 ≡ single 722 10000)
    × (f0_2126 ≡ single 2126 10000)
    × (f0_7152 ≡ single 7152 10000)
unfolding of_bits round
singles = (refl, refl, refl, refl, refl, refl, refl, refl, refl, refl, refl, refl, refl, refl, refl, refl, refl, refl, refl, refl, refl, refl)

pub doubles : (d0 ≡ double 0 1)
    × (d1 ≡ double 1 1)
    × (d1e_9 ≡ double 1 1000000000)
    × (d1e_12 ≡ double 1 1000000000000)
unfolding of_bits round
doubles = (refl, refl, refl, refl)
