-- Laws of whole numbers: what `compare` says, binary digits, quotients, shifts, how many digits a number has, and how far two are apart. Assumes nothing.
use mathlib.Core.Path.{◌≡◌, refl, sym, ap, ◌∙◌, subst}
use mathlib.Core.Logic.{◌⊎◌, inl, inr}
use Prim.Native.Nat.{ℕ, zero, suc, ◌+◌, ◌-◌, ◌*◌, ◌/◌, ◌%◌, ◌^◌, ◌≤◌, ◌<◌, compare, Ordering}
use native.Mathlib.Nat.{le_trans, le_of_eq, le_of_lt, le_antisymm, lt_of_lt_of_le, not-le_of_lt, lt_of_not-le, add-sub_of_le, add-mul, one-mul, mul_assoc, mul-le-mul_right, lt_of_mul-lt-mul_right, mod-eq_of_lt, two-pow-succ}
use native.Mathlib.Omega.{arith}
use mathlib.Core.Bool.{Bool, true, false, not}
use lib.Dec.{T, leb, is_le, compare_is_eq, eqb, leb→le, nleb→lt, eqb→eq, eqb_refl}
use lib.Arith.{digits_div, lt_of_le-ne}
use lib.Pow.{pow-add, pow_mono, pow-lt, shl_lt}
use lib.Ieee.{size}
use lib.Ieee.Digits.{size-lt, size-le}

-- ---- what `compare` says
abbrev pub Cmp : Ordering → ℕ → ℕ → Type 0
Cmp Ordering.lt a b = a < b
Cmp Ordering.eq a b = a ≡ b
Cmp Ordering.gt a b = b < a

pub cmp : (a b : ℕ) → Cmp (compare a b) a b
cmp a b = go (compare a b) (leb→le a b) (nleb→lt a b) (eqb→eq a b) (λ (e : a ≡ b). subst (λ (x : ℕ). T (eqb a x)) e (eqb_refl a))
  where
    go : (o : Ordering) → (T (is_le o) → a ≤ b) → (T (not (is_le o)) → b < a) → (T (compare_is_eq o) → a ≡ b) → (a ≡ b → T (compare_is_eq o)) → Cmp o a b
    go Ordering.lt h k e n = lt_of_le-ne (h tt) n
    go Ordering.eq h k e n = e tt
    go Ordering.gt h k e n = k tt

-- ---- a binary digit
pub bit : (x : ℕ) → x % 2 < 2
bit x = omega arith

pub two_ways : (b : ℕ) → b < 2 → (b ≡ 0) ⊎ (b ≡ 1)
two_ways zero l = inl refl
two_ways (suc zero) l = inr refl
two_ways (suc (suc b)) l = absurd (no b l)
  where
    no : (b : ℕ) → suc (suc b) < 2 → ⊥
    no b l = omega arith

-- a number made even
pub plus_bit : (x b : ℕ) → x % 2 ≡ b → ((x + x % 2) % 2 ≡ 0) × (b ≡ 0 → x + x % 2 ≡ x) × (b ≡ 1 → x + x % 2 ≡ suc x)
plus_bit x b e = (omega arith, λ z. omega arith, λ z. omega arith)

-- ---- quotients and powers
pub quot : (x p k : ℕ) → k * p ≤ x → x < k * p + p → x / p ≡ k
quot x p k h l = ap (λ (z : ℕ). z / p) (sym (add-sub_of_le h)) ∙ digits_div k (rest (k * p) x p h l)
  where
    rest : (y x p : ℕ) → y ≤ x → x < y + p → x - y < p
    rest y x p h l = omega arith

pub half_pow : (d : ℕ) → 0 < d → 2 ^ d ≡ 2 ^ (d - 1) + 2 ^ (d - 1)
half_pow d h = ap (λ (x : ℕ). 2 ^ x) (back d h) ∙ two-pow-succ (d - 1)
  where
    back : (d : ℕ) → 0 < d → d ≡ suc (d - 1)
    back d h = omega arith

-- `1 << j` at a width of w bits
pub one_shl : (w j : ℕ) → j < w → 1 * 2 ^ j % 2 ^ w ≡ 2 ^ j
one_shl w j h = ap (λ (x : ℕ). x % 2 ^ w) (one-mul (2 ^ j)) ∙ mod-eq_of_lt (pow-lt h)

-- ---- how many digits a number has
pub size_gt : (n j : ℕ) → 2 ^ j ≤ n → j < size n
size_gt n j h = lt_of_not-le (λ (g : size n ≤ j). not-le_of_lt (lt_of_lt_of_le (size-lt n) (pow_mono g)) h)

pub size_at : (n j : ℕ) → 2 ^ j ≤ n → n < 2 ^ suc j → size n ≡ suc j
size_at n j lo hi = le_antisymm (size-le n (suc j) hi) (size_gt n j lo)

-- the next number of p digits above q * 2 ^ k is (q + 1) * 2 ^ k
pub gap : (p q k m j : ℕ) → 0 < p → (0 < k → 2 ^ (p - 1) ≤ q) → m < 2 ^ p → q * 2 ^ k < m * 2 ^ j → (q + 1) * 2 ^ k ≤ m * 2 ^ j
gap p q k m j P Q M l = go (leb k j) (leb→le k j) (nleb→lt k j)
  where
    back : (j k : ℕ) → k ≤ j → j ≡ j - k + k
    back j k h = omega arith

    step : {x : ℕ} → q < x → q + 1 ≤ x
    step h = omega arith

    some : (j k : ℕ) → j < k → 0 < k
    some j k h = omega arith

    room_for : (p j k : ℕ) → 0 < p → j < k → p + j ≤ p - 1 + k
    room_for p j k P h = omega arith

    go : (t : Bool) → (T t → k ≤ j) → (T (not t) → j < k) → (q + 1) * 2 ^ k ≤ m * 2 ^ j
    go true a b =
        let e : m * 2 ^ j ≡ m * 2 ^ (j - k) * 2 ^ k = ap (λ (x : ℕ). m * 2 ^ x) (back j k (a tt)) ∙ ap (λ (x : ℕ). m * x) (pow-add 2 (j - k) k) ∙ sym (mul_assoc m (2 ^ (j - k)) (2 ^ k)) in
        let c : q < m * 2 ^ (j - k) = lt_of_mul-lt-mul_right (2 ^ k) (lt_of_lt_of_le l (le_of_eq e)) in
        le_trans (mul-le-mul_right (2 ^ k) (step c)) (le_of_eq (sym e))
    go false a b =
        absurd (not-le_of_lt l (le_trans (le_of_lt (shl_lt p j M)) (le_trans (pow_mono (room_for p j k P (b tt))) (le_trans (le_of_eq (pow-add 2 (p - 1) k)) (mul-le-mul_right (2 ^ k) (Q (some j k (b tt))))))))

-- ---- how far two numbers are apart
abbrev pub dist : ℕ → ℕ → ℕ
dist a b = (a - b) + (b - a)

pub dist_scale : (a b k : ℕ) → dist (a * k) (b * k) ≡ dist a b * k
dist_scale a b k = go (leb a b) (leb→le a b) (nleb→lt a b)
  where
    less : (a d k : ℕ) → dist (a * k) ((a + d) * k) ≡ dist a (a + d) * k
    less a d k = ap (λ (x : ℕ). dist (a * k) x) (add-mul a d k) ∙ first (a * k) (d * k) ∙ ap (λ (x : ℕ). x * k) (sym (first a d))
      where
        first : (x y : ℕ) → dist x (x + y) ≡ y
        first x y = omega arith

    turn : (a b : ℕ) → dist a b ≡ dist b a
    turn a b = omega arith

    go : (t : Bool) → (T t → a ≤ b) → (T (not t) → b < a) → dist (a * k) (b * k) ≡ dist a b * k
    go true x y = subst (λ (z : ℕ). dist (a * k) (z * k) ≡ dist a z * k) (add-sub_of_le (x tt)) (less a (b - a) k)
    go false x y =
        turn (a * k) (b * k) ∙ subst (λ (z : ℕ). dist (b * k) (z * k) ≡ dist b z * k) (add-sub_of_le (le_of_lt (y tt))) (less b (a - b) k) ∙ ap (λ (x : ℕ). x * k) (turn b a)

pub dist_over : (n v a m c : ℕ) → a * m ≡ c → dist (n * m) (v * c) ≡ dist n (v * a) * m
dist_over n v a m c e = ap (λ (x : ℕ). dist (n * m) x) (ap (λ (x : ℕ). v * x) (sym e) ∙ sym (mul_assoc v a m)) ∙ dist_scale n (v * a) m

pub from_zero : (n : ℕ) → dist n 0 ≡ n
from_zero n = omega arith
