-- Magnitudes as numbers, for both formats: their bounds, and the magnitude of a rounded number (`units_bits`, `round_bits`). A value that a format holds rounds to itself (`round_own`).
-- Assumes nothing.
use mathlib.Core.Path.{◌≡◌, refl, sym, ap, ◌∙◌, subst}
use mathlib.Core.Logic.{◌⊎◌, inl, inr}
use Prim.Native.Nat.{ℕ, zero, suc, zero-le, ◌+◌, ◌-◌, ◌*◌, ◌/◌, ◌%◌, ◌^◌, ◌≤◌, ◌<◌, compare, min}
use native.Mathlib.Nat.{le_refl, le-suc, le_of_suc-le-suc, not-le_of_lt, add-suc, le_trans, le_of_eq, le_of_lt, lt_of_lt_of_le, lt_of_le_of_lt, mul_assoc, mul_right_comm, mul-pos, mul-le-mul, mul-lt-mul_of_pos_right, eq_of_mul-eq-mul_right, pow-succ', le-div_iff_mul-le, div-div-eq-div-mul, eq-zero-or-pos, eq-or-lt_of_le}
use native.Mathlib.Omega.{arith}
use mathlib.Core.Bool.{Bool, true, false, not, cond}
use lib.Dec.{T, leb, ltb, ltb→lt, nltb→le}
use lib.Pow.{pow-add, pow_pos, pow_mono, pow-lt}
use lib.Ieee.{Float, nan, inf, fin, Format, binary32, binary64, prec, emax, low, up, down, size, odd, units, round, fits, hid, ones, top, of_bits, to_bits}
use lib.Ieee.Digits.{size_reaches}
use lib.Ieee.Fits.{down_pos, odd-fits, round-fits, round_is, nearest-le, kept-lt, two, two-le_pos}
use lib.Ieee.Scale.{round_same}
use lib.Ieee.Bits.{of_bits-to_bits, of_bits-fits}
use lib.Ieee.Exact.{HasValue, round_exact, units_val}
use lib.Ieee.Nearest.{nearest-ge}
use lib.Ieee.Order.{drop, kept}
use borrow.Author.Tests.{lt-ltb, le-ltb}
use Rattle.float.specs.Fields.{sig, expo, val, pack, round_mag}
use Rattle.float.proofs.Unique.{unique}
use Rattle.float.proofs.Patterns.{top_above, with_sign, sign_of, mag_of, bits_val, bits_inf, bits_nan}

-- ---- the finite magnitudes are those below 2 ^ (emax + 1)

abbrev pub limit : Format → ℕ
limit f = 2 ^ (low f + suc (emax f))

pub sig-lt : (f : Format) (a : ℕ) → sig f a < 2 ^ prec f
sig-lt f a = pick (ltb a (hid f)) (ltb→lt a (hid f)) (digit f a)
  where
    digit : (f : Format) (a : ℕ) → (hid f + a % hid f < 2 ^ prec f) × (hid f < 2 ^ prec f)
    digit binary32 a = omega arith
    digit binary64 a = omega arith

    pick : (t : Bool) → (T t → a < hid f) → (hid f + a % hid f < 2 ^ prec f) × (hid f < 2 ^ prec f) → cond t a (hid f + a % hid f) < 2 ^ prec f
    pick true k d = lt_of_lt_of_le (k tt) (le_of_lt d.1)
    pick false k d = d.0

pub sig_ge : (f : Format) (a : ℕ) → hid f ≤ a → hid f ≤ sig f a
sig_ge f a h = subst (λ (t : Bool). hid f ≤ cond t a (hid f + a % hid f)) (sym (le-ltb a (hid f) h)) (lead_in f a)
  where
    lead_in : (f : Format) (a : ℕ) → hid f ≤ hid f + a % hid f
    lead_in binary32 a = omega arith
    lead_in binary64 a = omega arith

pub sig_pos : (f : Format) (a : ℕ) → 0 < a → 0 < sig f a
sig_pos f a h = go (ltb a (hid f)) (ltb→lt a (hid f))
  where
    go : (t : Bool) → (T t → a < hid f) → 0 < cond t a (hid f + a % hid f)
    go true l = h
    go false l = lt_of_lt_of_le (pow_pos (prec f - 1)) (sum (hid f) (a % hid f))
      where
        sum : (x y : ℕ) → x ≤ x + y
        sum x y = omega arith

pub val_pos : (a : ℕ) → 0 < a → 0 < val binary32 a
val_pos a h = mul-pos (sig_pos binary32 a h) (pow_pos (expo binary32 a))

pub expo-le : (f : Format) (a : ℕ) → a < ones f * hid f → expo f a ≤ ones f - 2
expo-le binary32 a h = omega arith
expo-le binary64 a h = omega arith

pub limit_is : (f : Format) → 2 ^ prec f * 2 ^ (ones f - 2) ≡ limit f
limit_is f = sym (pow-add 2 (prec f) (ones f - 2)) ∙ ap (λ (x : ℕ). 2 ^ x) (exps f)
  where
    exps : (f : Format) → prec f + (ones f - 2) ≡ low f + suc (emax f)
    exps binary32 = refl
    exps binary64 = refl

pub limit_hid : (f : Format) → hid f * 2 ^ (ones f - 1) ≡ limit f
limit_hid f = sym (pow-add 2 (prec f - 1) (ones f - 1)) ∙ ap (λ (x : ℕ). 2 ^ x) (exps f)
  where
    exps : (f : Format) → prec f - 1 + (ones f - 1) ≡ low f + suc (emax f)
    exps binary32 = refl
    exps binary64 = refl

pub val-lt : (f : Format) (a : ℕ) → a < ones f * hid f → val f a < limit f
val-lt f a h =
    lt_of_lt_of_le (mul-lt-mul_of_pos_right (sig-lt f a) (pow_pos (expo f a))) (le_trans (mul-le-mul (le_refl (2 ^ prec f)) (pow_mono (expo-le f a h))) (le_of_eq (limit_is f)))

pub val_ge : (f : Format) (a : ℕ) → ones f * hid f ≤ a → limit f ≤ val f a
val_ge f a h =
    le_trans (le_of_eq (sym (limit_hid f)))
    (mul-le-mul (sig_ge f a (lead f a h)) (pow_mono (high f a h)))
  where
    lead : (f : Format) (a : ℕ) → ones f * hid f ≤ a → hid f ≤ a
    lead binary32 a h = omega arith
    lead binary64 a h = omega arith

    high : (f : Format) (a : ℕ) → ones f * hid f ≤ a → ones f - 1 ≤ expo f a
    high binary32 a h = omega arith
    high binary64 a h = omega arith

-- ---- the magnitude of q * 2 ^ k smallest values is k * hid + q: the leading digit of q, and its carry, add to the exponent's field

module _ (f : Format) (q k : ℕ) where
  abbrev Kept : Type 0
  Kept = (q ≤ 2 ^ prec f) × (0 < k → hid f ≤ q)

  split : (t : Bool) (a : ℕ) → ltb a (hid f) ≡ t → cond t a (hid f + a % hid f) * 2 ^ expo f a ≡ q * 2 ^ k → val f a ≡ q * 2 ^ k
  split t a e h = ap (λ (b : Bool). cond b a (hid f + a % hid f) * 2 ^ expo f a) e ∙ h

sub_field : (f : Format) (q : ℕ) → q < hid f → (0 * hid f + q ≡ q) × (expo f q ≡ 0)
sub_field binary32 q h = omega arith
sub_field binary64 q h = omega arith

mid_field : (f : Format) (q k : ℕ) → hid f ≤ q → q < 2 ^ prec f → (hid f ≤ k * hid f + q) × ((hid f + (k * hid f + q) % hid f ≡ q) × (expo f (k * hid f + q) ≡ k))
mid_field binary32 q k h l = omega arith
mid_field binary64 q k h l = omega arith

full_field : (f : Format) (q k : ℕ) → q ≡ 2 ^ prec f → (hid f ≤ k * hid f + q) × ((hid f + (k * hid f + q) % hid f ≡ hid f) × (expo f (k * hid f + q) ≡ suc k))
full_field binary32 q k h = omega arith
full_field binary64 q k h = omega arith

twice_hid : (f : Format) → hid f * 2 ≡ 2 ^ prec f
twice_hid binary32 = refl
twice_hid binary64 = refl

pub val-pack : (f : Format) (q k : ℕ) → Kept f q k → val f (k * hid f + q) ≡ q * 2 ^ k
val-pack f q k h = go (ltb q (hid f)) (ltb→lt q (hid f)) (nltb→le q (hid f)) (eq-zero-or-pos k)
  where
    no : (a b : ℕ) → a < b → b ≤ a → ⊥
    no a b x y = omega arith

    wide : hid f ≤ q → val f (k * hid f + q) ≡ q * 2 ^ k
    wide l = elim (eq-or-lt_of_le h.0) [
      | inl e ↦
          let r = full_field f q k e in
          split f q k false (k * hid f + q) (le-ltb (k * hid f + q) (hid f) r.0)
          (ap (λ (x : ℕ). x * 2 ^ expo f (k * hid f + q)) r.1.0 ∙ ap (λ (x : ℕ). hid f * 2 ^ x) r.1.1 ∙ ap (λ (x : ℕ). hid f * x) (pow-succ' 2 k)
          ∙ sym (mul_assoc (hid f) 2 (2 ^ k)) ∙ ap (λ (x : ℕ). x * 2 ^ k) (twice_hid f ∙ sym e))
      | inr m ↦
          let r = mid_field f q k l m in
          split f q k false (k * hid f + q) (le-ltb (k * hid f + q) (hid f) r.0)
          (ap (λ (x : ℕ). x * 2 ^ expo f (k * hid f + q)) r.1.0 ∙ ap (λ (x : ℕ). q * 2 ^ x) r.1.1)
    ]

    go : (t : Bool) → (T t → q < hid f) → (T (not t) → hid f ≤ q) → (k ≡ 0) ⊎ (0 < k) → val f (k * hid f + q) ≡ q * 2 ^ k
    go false a b c = wide (b tt)
    go true a b (inr p) = absurd (no q (hid f) (a tt) (h.1 p))
    go true a b (inl z) =
        let r = sub_field f q (a tt) in
        ap (λ (x : ℕ). val f (x * hid f + q)) z ∙ ap (λ (x : ℕ). val f x) r.0
        ∙ split f q 0 true q (lt-ltb q (hid f) (a tt)) (ap (λ (x : ℕ). q * 2 ^ x) r.1) ∙ ap (λ (x : ℕ). q * 2 ^ x) (sym z)

-- ---- a larger magnitude is a larger number
fields : (f : Format) (a : ℕ) → a ≡ expo f a * hid f + sig f a
fields f a = go (ltb a (hid f)) (ltb→lt a (hid f)) (nltb→le a (hid f))
  where
    low_part : (f : Format) (a : ℕ) → a < hid f → a ≡ expo f a * hid f + a
    low_part binary32 a h = omega arith
    low_part binary64 a h = omega arith

    high_part : (f : Format) (a : ℕ) → hid f ≤ a → a ≡ expo f a * hid f + (hid f + a % hid f)
    high_part binary32 a h = omega arith
    high_part binary64 a h = omega arith

    go : (t : Bool) → (T t → a < hid f) → (T (not t) → hid f ≤ a) → a ≡ expo f a * hid f + cond t a (hid f + a % hid f)
    go true l g = low_part f a (l tt)
    go false l g = high_part f a (g tt)

val_next : (f : Format) (a : ℕ) → val f a < val f (suc a)
val_next f a =
    let q = sig f a in
    let k = expo f a in
    lt_of_lt_of_le (mul-lt-mul_of_pos_right (le_refl (suc q)) (pow_pos k))
    (le_of_eq (sym (ap (val f) (ap suc (fields f a) ∙ sym (add-suc (k * hid f) q)) ∙ val-pack f (suc q) k (sig-lt f a, λ K. le_trans (sig_ge f a (normal f a K)) (le-suc q)))))
  where
    normal : (f : Format) (a : ℕ) → 0 < expo f a → hid f ≤ a
    normal binary32 a h = omega arith
    normal binary64 a h = omega arith

pub val_mono : (f : Format) (a b : ℕ) → a < b → val f a < val f b
val_mono f a zero h = absurd (not-le_of_lt h zero-le)
val_mono f a (suc b) h = elim (eq-or-lt_of_le (le_of_suc-le-suc h)) [
  | inl e ↦ subst (λ (x : ℕ). val f x < val f (suc b)) (sym e) (val_next f b)
  | inr l ↦ lt_of_lt_of_le (val_mono f a b l) (le_of_lt (val_next f b))
]

pub val-le : (f : Format) (a b : ℕ) → a ≤ b → val f a ≤ val f b
val-le f a b h = elim (eq-or-lt_of_le h) [ inl e ↦ le_of_eq (ap (val f) e) | inr l ↦ le_of_lt (val_mono f a b l) ]

-- ---- what `units` and `round` give, as a pattern

pub over : (f : Format) (s : Bool) (q k : ℕ) → limit f ≤ q * 2 ^ k → units f s q k ≡ inf s
unfolding units
over f s q k h = ap (λ (t : Bool). cond t (odd (suc (prec f)) s q k (low f)) (inf s)) (le-ltb (q * 2 ^ k) (limit f) h)

units_fits : (f : Format) (s : Bool) (q k : ℕ) → q ≤ 2 ^ prec f → q * 2 ^ k < limit f → T (fits f (units f s q k))
unfolding units
units_fits f s q k a h =
    subst (λ (t : Bool). T (fits f (cond t (odd (suc (prec f)) s q k (low f)) (inf s)))) (sym (lt-ltb (q * 2 ^ k) (limit f) h))
    (odd-fits f (suc (prec f)) s q k (lt_of_le_of_lt a (pow-lt (le_refl (suc (prec f))))) a h)

min_left : (a b : ℕ) → a < b → min a b ≡ a
min_left a b h = omega arith

min_right : (a b : ℕ) → b ≤ a → min a b ≡ b
min_right a b h = omega arith

pub units_bits : (f : Format) (s : Bool) (q k : ℕ) → Kept f q k → units f s q k ≡ of_bits f (with_sign f s (pack f q k))
units_bits f s q k h = go (ltb a I) (ltb→lt a I) (nltb→le a I)
  where
    a : ℕ
    a = k * hid f + q

    I : ℕ
    I = ones f * hid f

    is : val f a ≡ q * 2 ^ k
    is = val-pack f q k h

    go : (t : Bool) → (T t → a < I) → (T (not t) → I ≤ a) → units f s q k ≡ of_bits f (with_sign f s (pack f q k))
    go true l g =
        let fine : q * 2 ^ k < limit f = subst (λ (n : ℕ). n < limit f) is (val-lt f a (l tt)) in
        let in_top : a < top f = top_above f a (le_of_lt (l tt)) in
        let b = with_sign f s a in
        let v : HasValue (of_bits f b) s (q * 2 ^ k) (2 ^ low f) =
        subst (λ (n : ℕ). HasValue (of_bits f b) s n (2 ^ low f)) (ap (λ (x : ℕ). val f x) (mag_of f s a in_top) ∙ is)
        (subst (λ (t : Bool). HasValue (of_bits f b) t (val f (b % top f)) (2 ^ low f)) (sign_of f s a in_top)
        (bits_val f b (subst (λ (x : ℕ). x < I) (sym (mag_of f s a in_top)) (l tt)))) in
        unique f (units f s q k) (of_bits f b) s (q * 2 ^ k) (2 ^ low f) (pow_pos (low f)) (units_fits f s q k h.0 fine) (of_bits-fits f b) (units_val f s q k fine) v
        ∙ ap (λ (x : ℕ). of_bits f (with_sign f s x)) (sym (min_left a I (l tt)))
    go false l g =
        let in_top : I < top f = top_above f I (le_refl I) in
        over f s q k (subst (λ (n : ℕ). limit f ≤ n) is (val_ge f a (g tt)))
        ∙ ap inf (sym (sign_of f s I in_top))
        ∙ sym (bits_inf f (with_sign f s I) (mag_of f s I in_top))
        ∙ ap (λ (x : ℕ). of_bits f (with_sign f s x)) (sym (min_right a I (g tt)))

-- what `round` keeps: at most 2 ^ prec, and all of prec digits where any digit is dropped
all_in_use : (z p : ℕ) → 0 < p → 0 < z - p → p - 1 + (z - p) < z
all_in_use z p P h = omega arith

pub all_digits : (f : Format) (n den : ℕ) → 0 < drop (prec f) n den → hid f ≤ n / (den * 2 ^ drop (prec f) n den)
all_digits f n den K =
    let p = prec f in
    let k = drop p n den in
    let w = n / den in
    subst (λ (x : ℕ). 2 ^ (p - 1) ≤ x) (div-div-eq-div-mul n den (2 ^ k)) ((le-div_iff_mul-le (pow_pos k)).1
    (le_trans (le_of_eq (sym (pow-add 2 (p - 1) k))) (size_reaches w (p - 1 + k) (all_in_use (size w) p (two-le_pos p (two f)) K))))

pub round_keeps : (f : Format) (n den : ℕ) → Kept f (kept (prec f) n den) (drop (prec f) n den)
round_keeps f n den =
    let p = prec f in
    let k = drop p n den in
    let u = den * 2 ^ k in (
      le_trans (nearest-le (n / u) (compare (n % u * 2) u)) (subst (λ (x : ℕ). x < 2 ^ p) (div-div-eq-div-mul n den (2 ^ k)) (kept-lt p (n / den))),
      λ K. le_trans (all_digits f n den K) (nearest-ge (n / u) (compare (n % u * 2) u)),
    )

pub round_bits : (f : Format) (s : Bool) (num den : ℕ) → round f s num den ≡ of_bits f (with_sign f s (round_mag f num den))
round_bits f s num den =
    let n = num * 2 ^ low f in
    round_is f s num den ∙ units_bits f s (kept (prec f) n den) (drop (prec f) n den) (round_keeps f n den)

-- ---- a value that the format holds, as a magnitude

-- two fractions of one value
pub value_ratio : (x : Float) (s t : Bool) (a c b d : ℕ) → HasValue x s a c → HasValue x t b d → a * d ≡ b * c
value_ratio nan s t a c b d v w = absurd v
value_ratio (inf u) s t a c b d v w = absurd v
value_ratio (fin u m e) s t a c b d v w =
    eq_of_mul-eq-mul_right (down e) (down_pos e) (a * d) (b * c)
    (mul_right_comm a d (down e) ∙ ap (λ (z : ℕ). z * d) (sym v.1) ∙ mul_right_comm (m * up e) c d ∙ ap (λ (z : ℕ). z * c) w.1 ∙ mul_right_comm b (down e) c)

pub own_magnitude : (f : Format) (x : Float) (s : Bool) (n c : ℕ) → T (fits f x) → HasValue x s n c → (a : ℕ) × (a < ones f * hid f) × HasValue x s (val f a) (2 ^ low f)
own_magnitude f x s n c p v = go (ltb a I) (ltb→lt a I) (nltb→le a I)
  where
    b : ℕ
    b = to_bits f x

    a : ℕ
    a = b % top f

    I : ℕ
    I = ones f * hid f

    is : of_bits f b ≡ x
    is = of_bits-to_bits f x p

    signed : (x : Float) (t : Bool) (m : ℕ) → HasValue x s n c → HasValue x t m (2 ^ low f) → HasValue x s m (2 ^ low f)
    signed nan t m v w = v
    signed (inf u) t m v w = v
    signed (fin u k e) t m v w = (v.0, w.1)

    no : (y : Float) (t : Bool) → (y ≡ nan) ⊎ (y ≡ inf t) → HasValue y s n c → ⊥
    no y t (inl e) w = subst (λ (z : Float). HasValue z s n c) e w
    no y t (inr e) w = subst (λ (z : Float). HasValue z s n c) e w

    go : (t : Bool) → (T t → a < I) → (T (not t) → I ≤ a) → (a : ℕ) × (a < ones f * hid f) × HasValue x s (val f a) (2 ^ low f)
    go true l g = (a, l tt, signed x (leb (top f) b) (val f a) v (subst (λ (z : Float). HasValue z (leb (top f) b) (val f a) (2 ^ low f)) is (bits_val f b (l tt))))
    go false l g = elim (eq-or-lt_of_le (g tt)) [
      | inl e ↦ absurd (no x (leb (top f) b) (inr (sym is ∙ bits_inf f b (sym e))) v)
      | inr l ↦ absurd (no x true (inl (sym is ∙ bits_nan f b l)) v)
    ]

-- its size, in units of the format's smallest value, is that of a magnitude
pub size_of : (f : Format) (x : Float) (s : Bool) (n : ℕ) → T (fits f x) → HasValue x s n (2 ^ low f) → (a : ℕ) × (a < ones f * hid f) × (n ≡ val f a)
size_of f x s n p v =
    let z = own_magnitude f x s n (2 ^ low f) p v in
    (z.0, z.1, eq_of_mul-eq-mul_right (2 ^ low f) (pow_pos (low f)) n (val f z.0) (value_ratio x s s n (2 ^ low f) (val f z.0) (2 ^ low f) v z.2))

-- it rounds to itself
pub round_own : (f : Format) (x : Float) (s : Bool) (n c : ℕ) → 0 < c → T (fits f x) → HasValue x s n c → round f s n c ≡ x
round_own f x s n c C p v =
    let z = own_magnitude f x s n c p v in
    let m = val f z.0 in
    round_same f s n c m (2 ^ low f) C (pow_pos (low f)) (value_ratio x s s n c m (2 ^ low f) v z.2)
    ∙ unique f (round f s m (2 ^ low f)) x s m (2 ^ low f) (pow_pos (low f)) (round-fits f s m (2 ^ low f)) p
    (round_exact f s m (2 ^ low f) (sig f z.0) (expo f z.0) (pow_pos (low f)) (sig-lt f z.0) (val-lt f z.0 z.1) refl) z.2
