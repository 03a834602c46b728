-- A sign goes through `round`: what negation and `abs_of` make of a rounded number. Assumes nothing.
use mathlib.Core.Path.{◌≡◌, refl, sym, ap, ◌∙◌}
use mathlib.Core.Bool.{Bool, true, false, not, cond}
use Prim.Native.Nat.{ℕ, zero, suc, ◌+◌, ◌*◌, ◌^◌}
use lib.Dec.{ltb}
use lib.IntN.{pos, negsuc}
use lib.Ieee.{Float, inf, Format, prec, low, emax, odd, units, round, neg, of_int}
use lib.Ieee.Fits.{round_is}
use Rattle.float.specs.Floats.{abs_of}

-- a function that makes the sign t of s, where the format holds the number and at an infinity
module _ (g : Float → Float) (s t : Bool) (held : (d q k l : ℕ) → g (odd d s q k l) ≡ odd d t q k l) (beyond : g (inf s) ≡ inf t) where
  through_units : (f : Format) (q k : ℕ) → g (units f s q k) ≡ units f t q k
  unfolding units
  through_units f q k = go (ltb (q * 2 ^ k) (2 ^ (low f + suc (emax f))))
    where
      go : (b : Bool) → g (cond b (odd (suc (prec f)) s q k (low f)) (inf s)) ≡ cond b (odd (suc (prec f)) t q k (low f)) (inf t)
      go true = held (suc (prec f)) q k (low f)
      go false = beyond

  through_round : (f : Format) (a c : ℕ) → g (round f s a c) ≡ round f t a c
  through_round f a c = ap g (round_is f s a c) ∙ through_units f _ _ ∙ sym (round_is f t a c)

neg_odd : (s : Bool) (d q k l : ℕ) → neg (odd d s q k l) ≡ odd d (not s) q k l
unfolding neg odd
neg_odd s d zero k l = refl
neg_odd s d (suc q) k l = refl

neg-inf : (s : Bool) → neg (inf s) ≡ inf (not s)
unfolding neg
neg-inf s = refl

pub neg-round : (f : Format) (s : Bool) (a c : ℕ) → neg (round f s a c) ≡ round f (not s) a c
neg-round f s = through_round neg s (not s) (neg_odd s) (neg-inf s) f

-- the float of a negative whole number
pub neg_int : (f : Format) (j m : ℕ) → j ≡ suc m → neg (of_int f (pos j)) ≡ of_int f (negsuc m)
unfolding of_int
neg_int f j m e = ap (λ n. neg (of_int f (pos n))) e ∙ neg-round f false (suc m) 1

pub abs_odd : (s : Bool) (d q k l : ℕ) → abs_of (odd d s q k l) ≡ odd d false q k l
unfolding odd
abs_odd s d zero k l = refl
abs_odd s d (suc q) k l = refl

pub abs_round : (f : Format) (s : Bool) (a c : ℕ) → abs_of (round f s a c) ≡ round f false a c
abs_round f s = through_round abs_of s false (abs_odd s) refl f
