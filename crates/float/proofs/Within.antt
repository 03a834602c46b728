-- A distance within a bound, by two comparisons in place of its size. Assumes nothing.
use Rattle.std.proofs.Common.{◌≡◌, ℕ, zero, suc, ◌+◌, ◌*◌, ◌<◌, ◌≤◌, Bool, true, false, not, ◌&&◌, ◌||◌, refl, ◌⊎◌, inl, inr, arith, le-ltb, lt-ltb, eq-eqb, ne_eqb}
use lib.Ieee.{Float, nan, inf, fin, neg, le, lt, eq, below, level, up, down}
use Rattle.std.proofs.lemmas.Bool.{cases_lt}
use Rattle.float.specs.Floats.{abs_of}

-- numbers a and b with signs: less or level
abbrev under : Bool → ℕ → Bool → ℕ → Bool
under s a t b = below s a t b || level s a t b

less : (s t : Bool) (a b : ℕ) → a < b → under false a t b ≡ under s a t b && under (not t) b s a
less false false a b h = rw (lt-ltb a b h, lt-ltb 0 (b + a) (omega arith)) refl
less false true a b h = rw (ne_eqb a b (λ e. omega arith)) refl
less true false a b h = rw (lt-ltb a b h, lt-ltb 0 (a + b) (omega arith)) refl
less true true a b h = rw (ne_eqb a b (λ e. omega arith), ne_eqb b a (λ e. omega arith), le-ltb b a (omega arith)) refl

more : (s t : Bool) (a b : ℕ) → b < a → under false a t b ≡ under s a t b && under (not t) b s a
more false false a b h = rw (le-ltb a b (omega arith), ne_eqb a b (λ e. omega arith)) refl
more false true a b h = rw (ne_eqb a b (λ e. omega arith)) refl
more true false a b h = rw (le-ltb a b (omega arith), ne_eqb a b (λ e. omega arith), ne_eqb b a (λ e. omega arith), lt-ltb 0 (a + b) (omega arith)) refl
more true true a b h = rw (ne_eqb a b (λ e. omega arith), ne_eqb b a (λ e. omega arith), lt-ltb b a h) refl

level_is : (s t : Bool) (a : ℕ) → under false a t a ≡ under s a t a && under (not t) a s a
level_is false false zero = refl
level_is false false (suc a) = rw (eq-eqb (suc a) (suc a) refl, lt-ltb 0 (suc a + suc a) (omega arith), le-ltb (suc a) (suc a) (omega arith)) refl
level_is false true zero = refl
level_is false true (suc a) = rw (eq-eqb (suc a) (suc a) refl, le-ltb (suc a) (suc a) (omega arith), ne_eqb (suc a) 0 (λ e. omega arith)) refl
level_is true false zero = refl
level_is true false (suc a) = rw (eq-eqb (suc a) (suc a) refl, lt-ltb 0 (suc a + suc a) (omega arith), le-ltb (suc a) (suc a) (omega arith)) refl
level_is true true zero = refl
level_is true true (suc a) = rw (eq-eqb (suc a) (suc a) refl, le-ltb (suc a) (suc a) (omega arith)) refl

any : (s t : Bool) (a b : ℕ) → under false a t b ≡ under s a t b && under (not t) b s a
any s t a b = go (cases_lt a b)
  where
    go : (a < b) ⊎ (b ≤ a) → under false a t b ≡ under s a t b && under (not t) b s a
    go (inl l) = less s t a b l
    go (inr l) = at (cases_lt b a)
      where
        at : (b < a) ⊎ (a ≤ b) → under false a t b ≡ under s a t b && under (not t) b s a
        at (inl m) = more s t a b m
        at (inr m) = let e : a ≡ b = omega arith in rw e (level_is s t b)

-- a distance d is at most m in size
pub within_both : (d m : Float) → le (abs_of d) m ≡ le d m && le (neg m) d
unfolding le lt eq neg
within_both nan m = refl
within_both (inf s) nan = refl
within_both (inf false) (inf false) = refl
within_both (inf false) (inf true) = refl
within_both (inf true) (inf false) = refl
within_both (inf true) (inf true) = refl
within_both (inf false) (fin t b g) = refl
within_both (inf true) (fin t b g) = refl
within_both (fin s a e) nan = refl
within_both (fin s a e) (inf false) = refl
within_both (fin s a e) (inf true) = refl
within_both (fin s a e) (fin t b g) = any s t (a * up e * down g) (b * up g * down e)
