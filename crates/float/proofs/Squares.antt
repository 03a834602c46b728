-- Squares and whole roots: `root n` is the whole part of √n. Assumes nothing.
use mathlib.Core.Path.{◌≡◌, subst}
use Prim.Native.Nat.{ℕ, zero, suc, ◌+◌, ◌*◌, ◌/◌, ◌^◌, ◌≤◌, ◌<◌, zero-le}
use native.Mathlib.Nat.{le_refl, le_of_lt, lt_of_lt_of_le, lt_of_le_of_lt, not-le_of_lt, lt_of_not-le, zero-lt-suc, mul-add, add-mul, mul-mul-mul_comm, mul-le-mul, mul-lt-mul_of_pos_right, div-lt_iff_lt-mul, pow-suc, pow-le-pow_left}
use native.Mathlib.Omega.{arith}
use mathlib.Core.Bool.{Bool, true, false, not, cond}
use lib.Dec.{T, leb, leb→le, nleb→lt, lit≤}
use lib.Ieee.{size}
use lib.Ieee.Digits.{size-lt}
use Rattle.float.specs.Floats.{root_in, root}

-- ---- squares and order
pub sq_le : (a r n : ℕ) → a * a ≤ n → n < (r + 1) * (r + 1) → a ≤ r
sq_le a r n h k = flip (lt_of_not-le (λ (g : r + 1 ≤ a). not-le_of_lt (lt_of_le_of_lt h k) (mul-le-mul g g)))
  where
    flip : a < r + 1 → a ≤ r
    flip h = omega arith

pub sq_lt : (r b n : ℕ) → r * r ≤ n → n < b * b → r < b
sq_lt r b n h k = lt_of_not-le (λ (g : b ≤ r). not-le_of_lt (lt_of_le_of_lt h k) (mul-le-mul g g))

pub sq_mono : (s t : ℕ) → s < t → s * s < t * t
sq_mono s t h = lt_of_le_of_lt (mul-le-mul (le_refl s) (le_of_lt h)) (mul-lt-mul_of_pos_right h (lt_of_le_of_lt zero-le h))

pub sq_suc : (a : ℕ) → (a + 1) * (a + 1) ≡ a * a + 2 * a + 1
sq_suc a = simp (mul-add, add-mul) (omega arith)

pub sq_twice : (a : ℕ) → 2 * a * (2 * a) ≡ 4 * (a * a)
sq_twice a = mul-mul-mul_comm 2 a 2 a

-- r is the whole part of √n
abbrev pub IsRoot : ℕ → ℕ → Type 0
IsRoot n r = (r * r ≤ n) × (n < (r + 1) * (r + 1))

root_in_is : (k n : ℕ) → n < 4 ^ k → IsRoot n (root_in k n)
unfolding root_in
root_in_is zero n h = (small.0, small.1)
  where
    small : (0 * 0 ≤ n) × (n < (0 + 1) * (0 + 1))
    small = omega arith
root_in_is (suc k) n h = go (root_in k (n / 4)) (root_in_is k (n / 4) ((div-lt_iff_lt-mul (zero-lt-suc 3)).1 (subst (λ (x : ℕ). n < x) (pow-suc 4 k) h)))
  where
    go : (s : ℕ) → IsRoot (n / 4) s → IsRoot n (cond (leb ((2 * s + 1) * (2 * s + 1)) n) (2 * s + 1) (2 * s))
    go s i = pick (leb ((2 * s + 1) * (2 * s + 1)) n) (leb→le ((2 * s + 1) * (2 * s + 1)) n) (nleb→lt ((2 * s + 1) * (2 * s + 1)) n)
      where
        under : 2 * s * (2 * s) ≤ n
        under = let e = sq_twice s in let a = i.0 in omega arith

        over : n < (2 * s + 1 + 1) * (2 * s + 1 + 1)
        over =
            let e : (2 * s + 1 + 1) * (2 * s + 1 + 1) ≡ (2 * s + 1) * (2 * s + 1) + 2 * (2 * s + 1) + 1 = sq_suc (2 * s + 1) in
            let f : (2 * s + 1) * (2 * s + 1) ≡ 2 * s * (2 * s) + 2 * (2 * s) + 1 = sq_suc (2 * s) in
            let g = sq_twice s in
            let a : n / 4 < s * s + 2 * s + 1 = subst (λ (x : ℕ). n / 4 < x) (sq_suc s) i.1 in
            omega arith

        pick : (t : Bool) → (T t → (2 * s + 1) * (2 * s + 1) ≤ n) → (T (not t) → n < (2 * s + 1) * (2 * s + 1)) → IsRoot n (cond t (2 * s + 1) (2 * s))
        pick true a b = (a tt, over)
        pick false a b = (under, b tt)

pub root_is : (n : ℕ) → IsRoot n (root n)
unfolding root
root_is n = root_in_is (size n) n (lt_of_lt_of_le (size-lt n) (pow-le-pow_left (lit≤ tt) (size n)))
