-- One value, one way to write it: a value that a format holds is fixed by its sign and its size (`unique`). Assumes nothing.
use mathlib.Core.Path.{◌≡◌, refl, sym, ap, ◌∙◌, subst}
use Prim.Native.Nat.{ℕ, zero, suc, ◌+◌, ◌*◌, ◌%◌, ◌^◌, ◌<◌}
use native.Mathlib.Nat.{lt_irrefl, zero-lt-suc, zero-mul, mul-one, one-mul, mul_assoc, mul_left_comm, mul_right_comm, mul-pos, eq_of_mul-eq-mul_right, pow-suc, pow-succ'}
use native.Mathlib.Omega.{arith}
use mathlib.Core.Bool.{Bool, ◌&&◌}
use lib.IntN.{ℤ, pos, negsuc}
use lib.Dec.{T, leb, ltb, eqb, eqb→eq}
use lib.Pow.{pow-add, pow_pos}
use lib.Ieee.{Float, nan, inf, fin, Format, prec, emax, low, up, down, fits}
use lib.Ieee.Fits.{up_pos, down_pos, and_l}
use lib.Ieee.Exact.{HasValue}

even_odd : (m t : ℕ) → m % 2 ≡ 1 → m ≡ 2 * t → ⊥
even_odd m t o h = omega arith

odd_pow : (m n a b : ℕ) → m % 2 ≡ 1 → n % 2 ≡ 1 → m * 2 ^ a ≡ n * 2 ^ b → (m ≡ n) × (a ≡ b)
odd_pow m n zero zero o p h = (sym (mul-one m) ∙ h ∙ mul-one n, refl)
odd_pow m n zero (suc b) o p h = absurd (even_odd m (n * 2 ^ b) o (sym (mul-one m) ∙ h ∙ ap (λ (x : ℕ). n * x) (pow-succ' 2 b) ∙ mul_left_comm n 2 (2 ^ b)))
odd_pow m n (suc a) zero o p h = absurd (even_odd n (m * 2 ^ a) p (sym (mul-one n) ∙ sym h ∙ ap (λ (x : ℕ). m * x) (pow-succ' 2 a) ∙ mul_left_comm m 2 (2 ^ a)))
odd_pow m n (suc a) (suc b) o p h =
    let r = odd_pow m n a b o p (eq_of_mul-eq-mul_right 2 (zero-lt-suc 1) (m * 2 ^ a) (n * 2 ^ b)
    (mul_assoc m (2 ^ a) 2 ∙ ap (λ (x : ℕ). m * x) (sym (pow-suc 2 a)) ∙ h ∙ ap (λ (x : ℕ). n * x) (pow-suc 2 b) ∙ sym (mul_assoc n (2 ^ b) 2))) in
    (r.0, ap suc r.1)

flat_no : (y : ℕ) → 0 < y → 2 * y ≡ 1 → ⊥
flat_no y p h = omega arith

-- 2 ^ e is 1 / 1 only for e = 0
flat : (e : ℤ) → up e * down e ≡ 1 → e ≡ pos 0
flat (pos zero) h = refl
flat (pos (suc a)) h = absurd (flat_no (2 ^ a) (pow_pos a) (sym (pow-succ' 2 a) ∙ sym (mul-one (2 ^ suc a)) ∙ h))
flat (negsuc a) h = absurd (flat_no (2 ^ a) (pow_pos a) (sym (pow-succ' 2 a) ∙ sym (one-mul (2 ^ suc a)) ∙ h))

zero_exp : (f : Format) (s : Bool) (e : ℤ) → T (fits f (fin s zero e)) → e ≡ pos 0
unfolding fits
zero_exp f s e t = flat e (eqb→eq (up e * down e) 1 t)

is_odd : (f : Format) (s : Bool) (m : ℕ) (e : ℤ) → T (fits f (fin s (suc m) e)) → suc m % 2 ≡ 1
unfolding fits
is_odd f s m e t =
    eqb→eq (suc m % 2) 1 (and_l (eqb (suc m % 2) 1) (ltb (suc m) (2 ^ prec f)) (and_l (eqb (suc m % 2) 1 && ltb (suc m) (2 ^ prec f)) (leb (down e) (2 ^ low f))
    (and_l (eqb (suc m % 2) 1 && ltb (suc m) (2 ^ prec f) && leb (down e) (2 ^ low f)) (ltb (suc m * up e) (2 ^ suc (emax f) * down e)) t)))

no_power : (m n a : ℕ) → m % 2 ≡ 1 → n % 2 ≡ 1 → m * 2 ^ suc a ≡ n → ⊥
no_power m n a o p h = even_odd n (m * 2 ^ a) p (sym h ∙ ap (λ (x : ℕ). m * x) (pow-succ' 2 a) ∙ mul_left_comm m 2 (2 ^ a))

pow-join : (m a b : ℕ) → m * 2 ^ suc (a + b) ≡ m * 2 ^ a * 2 ^ suc b
pow-join m a b = simp (pow-succ', pow-add, mul_assoc, mul_left_comm)

same_odd : (m n : ℕ) (e g : ℤ) → m % 2 ≡ 1 → n % 2 ≡ 1 → m * up e * down g ≡ n * up g * down e → (m ≡ n) × (e ≡ g)
same_odd m n (pos a) (pos b) o p h =
    let r = odd_pow m n a b o p (sym (mul-one (m * 2 ^ a)) ∙ h ∙ mul-one (n * 2 ^ b)) in (r.0, ap pos r.1)
same_odd m n (pos a) (negsuc b) o p h =
    absurd (no_power (m * 2 ^ 0) n (a + b) (ap (λ (x : ℕ). x % 2) (mul-one m) ∙ o) p
    (ap (λ (x : ℕ). x * 2 ^ suc (a + b)) (mul-one m) ∙ pow-join m a b ∙ h ∙ mul-one (n * 1) ∙ mul-one n))
same_odd m n (negsuc a) (pos b) o p h =
    absurd (no_power (n * 2 ^ 0) m (b + a) (ap (λ (x : ℕ). x % 2) (mul-one n) ∙ p) o
    (ap (λ (x : ℕ). x * 2 ^ suc (b + a)) (mul-one n) ∙ pow-join n b a ∙ sym h ∙ mul-one (m * 1) ∙ mul-one m))
same_odd m n (negsuc a) (negsuc b) o p h =
    let r = odd_pow m n (suc b) (suc a) o p (ap (λ (x : ℕ). x * 2 ^ suc b) (sym (mul-one m)) ∙ h ∙ ap (λ (x : ℕ). x * 2 ^ suc a) (mul-one n)) in (r.0, ap negsuc (suc_back b a r.1))
  where
    suc_back : (b a : ℕ) → suc b ≡ suc a → a ≡ b
    suc_back b a h = omega arith

cross : (x y de dg a c : ℕ) → 0 < c → x * c ≡ a * de → y * c ≡ a * dg → x * dg ≡ y * de
cross x y de dg a c C p q =
    eq_of_mul-eq-mul_right c C (x * dg) (y * de)
    (mul_right_comm x dg c ∙ ap (λ (z : ℕ). z * dg) p ∙ mul_right_comm a de dg ∙ ap (λ (z : ℕ). z * de) (sym q) ∙ mul_right_comm y c de)

not_zero : (z n u d : ℕ) → 0 < u → 0 < d → zero * z ≡ suc n * u * d → ⊥
not_zero z n u d U D h = lt_irrefl 0 (subst (λ (x : ℕ). 0 < x) (sym h ∙ zero-mul z) (mul-pos (mul-pos (zero-lt-suc n) U) D))

pub unique : (f : Format) (x y : Float) (s : Bool) (a c : ℕ) → 0 < c → T (fits f x) → T (fits f y) → HasValue x s a c → HasValue y s a c → x ≡ y
unique f nan y s a c C p q v w = absurd v
unique f (inf t) y s a c C p q v w = absurd v
unique f (fin t m e) nan s a c C p q v w = absurd w
unique f (fin t m e) (inf u) s a c C p q v w = absurd w
unique f (fin t zero e) (fin u zero g) s a c C p q v w = λ i. fin ((v.0 ∙ sym w.0) i) zero ((zero_exp f t e p ∙ sym (zero_exp f u g q)) i)
unique f (fin t zero e) (fin u (suc n) g) s a c C p q v w =
    absurd (not_zero (up e * down g) n (up g) (down e) (up_pos g) (down_pos e) (sym (mul_assoc zero (up e) (down g)) ∙ cross (zero * up e) (suc n * up g) (down e) (down g) a c C v.1 w.1))
unique f (fin t (suc m) e) (fin u zero g) s a c C p q v w =
    absurd (not_zero (up g * down e) m (up e) (down g) (up_pos e) (down_pos g) (sym (mul_assoc zero (up g) (down e)) ∙ cross (zero * up g) (suc m * up e) (down g) (down e) a c C w.1 v.1))
unique f (fin t (suc m) e) (fin u (suc n) g) s a c C p q v w =
    let r = same_odd (suc m) (suc n) e g (is_odd f t m e p) (is_odd f u n g q) (cross (suc m * up e) (suc n * up g) (down e) (down g) a c C v.1 w.1) in
    λ i. fin ((v.0 ∙ sym w.0) i) (r.0 i) (r.1 i)
