-- Sums and squares that are numbers, no NaN. Assumes nothing.
use mathlib.Core.Path.{◌≡◌, refl, sym, subst}
use mathlib.Core.Bool.{Bool, true, false, ◌&&◌, cond, beq, true≢false}
use Prim.Native.Nat.{ℕ, zero, suc, ◌+◌, ◌-◌, ◌*◌, ◌^◌}
use lib.Dec.{ltb}
use lib.IntN.{ℤ, pos}
use lib.Ieee.{Float, nan, inf, fin, Format, binary32, prec, low, emax, up, down, odd, units, round, sum, add, mul, eq, ne}
use lib.Ieee.Fits.{round_is}
use borrow.Author.Tests.{eq-eqb}
use Rattle.float.specs.Floats.{is_number}
use Rattle.float.specs.Steps.{◌⊕◌, ◌⊗◌}

abbrev pub Number : Float → Type 0
Number nan = ⊥
Number (inf s) = Unit {0}
Number (fin s m e) = Unit {0}

-- a number with its sign clear
abbrev Clear : Float → Type 0
Clear nan = ⊥
Clear (inf true) = ⊥
Clear (inf false) = Unit {0}
Clear (fin true m e) = ⊥
Clear (fin false m e) = Unit {0}

abbrev pub finite : Float → Bool
finite nan = false
finite (inf s) = false
finite (fin s m e) = true

-- what holds of every finite float of a sign and of its infinity holds of what is rounded with that sign
module _ (P : Float → Type 0) (s : Bool) (held : (m : ℕ) (e : ℤ) → P (fin s m e)) (beyond : P (inf s)) where
  odd_has : (d q k l : ℕ) → P (odd d s q k l)
  unfolding odd
  odd_has d zero k l = held zero (pos zero)
  odd_has d (suc q) k l = held _ _

  units_has : (f : Format) (q k : ℕ) → P (units f s q k)
  unfolding units
  units_has f q k = go (ltb (q * 2 ^ k) (2 ^ (low f + suc (emax f))))
    where
      go : (b : Bool) → P (cond b (odd (suc (prec f)) s q k (low f)) (inf s))
      go true = odd_has (suc (prec f)) q k (low f)
      go false = beyond

  round_has : (f : Format) (a c : ℕ) → P (round f s a c)
  round_has f a c = subst P (sym (round_is f s a c)) (units_has f _ _)

round_number : (f : Format) (s : Bool) (a c : ℕ) → Number (round f s a c)
round_number f s = round_has Number s (λ m e. tt) tt f

sum_number : (f : Format) (s : Bool) (a : ℕ) (t : Bool) (b c : ℕ) → Number (sum f s a t b c)
unfolding sum
sum_number f s a t b c = go (beq s t) (ltb a b)
  where
    go : (v w : Bool) → Number (cond v (round f s (a + b) c) (cond w (round f t (b - a) c) (round f (s && ltb b a) (a - b) c)))
    go true w = round_number f s (a + b) c
    go false true = round_number f t (b - a) c
    go false false = round_number f (s && ltb b a) (a - b) c

pub plus_number : (f : Format) (x y : Float) → Number x → finite y ≡ true → Number (add f x y)
unfolding add
plus_number f nan y n h = n
plus_number f (inf s) nan n h = absurd (true≢false (sym h))
plus_number f (inf s) (inf t) n h = absurd (true≢false (sym h))
plus_number f (inf s) (fin t m e) n h = tt
plus_number f (fin s k d) nan n h = absurd (true≢false (sym h))
plus_number f (fin s k d) (inf t) n h = tt
plus_number f (fin s k d) (fin t m e) n h = sum_number f s _ t _ _

square_clear : (f : Format) (x : Float) → Number x → Clear (mul f x x)
unfolding mul
square_clear f nan n = n
square_clear f (inf true) n = tt
square_clear f (inf false) n = tt
square_clear f (fin true m e) n = round_has Clear false (λ k d. tt) tt f _ _
square_clear f (fin false m e) n = round_has Clear false (λ k d. tt) tt f _ _

clear_sum : (f : Format) (x y : Float) → Clear x → Clear y → Number (add f x y)
unfolding add
clear_sum f nan y h g = h
clear_sum f (inf true) y h g = absurd h
clear_sum f (inf false) nan h g = g
clear_sum f (inf false) (inf true) h g = g
clear_sum f (inf false) (inf false) h g = tt
clear_sum f (inf false) (fin t m e) h g = tt
clear_sum f (fin true k d) y h g = absurd h
clear_sum f (fin false k d) nan h g = g
clear_sum f (fin false k d) (inf t) h g = tt
clear_sum f (fin false k d) (fin t m e) h g = sum_number f false _ t _ _

beq_self : (s : Bool) → beq s s ≡ true
beq_self true = refl
beq_self false = refl

number_is : (x : Float) → Number x → is_number x ≡ true
unfolding is_number ne eq
number_is nan n = absurd n
number_is (inf s) n = rw (beq_self s)
number_is (fin s m e) n = rw (eq-eqb (m * up e * down e) (m * up e * down e) refl, beq_self s)

-- a sum of two squares
pub squares_number : (x y : Float) → Number x → Number y → is_number (x ⊗ x ⊕ y ⊗ y) ≡ true
squares_number x y n m = number_is _ (clear_sum binary32 (x ⊗ x) (y ⊗ y) (square_clear binary32 x n) (square_clear binary32 y m))
