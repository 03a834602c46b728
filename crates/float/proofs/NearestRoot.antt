-- The float nearest to a root, from the root's 25 leading digits. Assumes nothing.
use mathlib.Core.Path.{◌≡◌, refl, sym, ap, ◌∙◌, subst}
use mathlib.Core.Logic.{◌⊎◌, inl, inr}
use Prim.Native.Nat.{ℕ, suc, ◌+◌, ◌-◌, ◌*◌, ◌/◌, ◌%◌, ◌^◌, ◌≤◌, ◌<◌, compare, min, Ordering}
use native.Mathlib.Nat.{le_trans, le_of_eq, le_of_lt, lt_of_lt_of_le, lt_of_le_of_lt, not-le_of_lt, lt_of_not-le, le_of_suc-le-suc, add-mul, mul_comm, mul_assoc, mul_left_comm, mul-mul-mul_comm, mul-le-mul, mul-le-mul_right, mul-lt-mul_of_pos_right, lt_of_mul-lt-mul_right, eq_of_mul-eq-mul_right, mul-pos, div-div-eq-div-mul, eq-or-lt_of_le}
use native.Mathlib.Omega.{arith}
use mathlib.Core.Bool.{false}
use lib.Dec.{lit<}
use lib.Pow.{pow-add, pow_pos, pow_mono}
use lib.Ieee.{Float, binary32, size, nearest, units, of_bits}
use lib.Ieee.Exact.{HasValue, units_val}
use Rattle.float.specs.Floats.{root, sqrt_units}
use Rattle.float.proofs.Magnitudes.{units_bits}
use Rattle.float.proofs.Numbers.{Cmp, cmp, quot, bit, two_ways, size_at, gap}
use Rattle.float.proofs.Squares.{sq_le, sq_lt, sq_mono, sq_suc, sq_twice, IsRoot, root_is}

-- ---- The float nearest to √(p * 4 ^ h) smallest values, where the whole part r of √p has 25 digits. p is even, so that √p is no odd number and no root is half-way
module _ (p h r : ℕ) (i : IsRoot p r) (lo : 2 ^ 48 ≤ p) (hi : p < 2 ^ 50) (even : p % 2 ≡ 0) where
  n_of : ℕ
  n_of = p * (2 ^ h * 2 ^ h)

  r_ge : 2 ^ 24 ≤ r
  r_ge = sq_le (2 ^ 24) r p lo i.1

  r_lt : r < 2 ^ 25
  r_lt = sq_lt r (2 ^ 25) p i.0 hi

  scale : (a : ℕ) → a * 2 ^ h * (a * 2 ^ h) ≡ a * a * (2 ^ h * 2 ^ h)
  scale a = mul-mul-mul_comm a (2 ^ h) a (2 ^ h)

  room : 0 < 2 ^ h * 2 ^ h
  room = mul-pos (pow_pos h) (pow_pos h)

  R : ℕ
  R = root n_of

  R-ge : r * 2 ^ h ≤ R
  unfolding R n_of
  R-ge = sq_le (r * 2 ^ h) (root n_of) n_of (le_trans (le_of_eq (scale r)) (mul-le-mul_right (2 ^ h * 2 ^ h) i.0)) (root_is n_of).1

  R-lt : R < (r + 1) * 2 ^ h
  unfolding R n_of
  R-lt = sq_lt (root n_of) ((r + 1) * 2 ^ h) n_of (root_is n_of).0 (lt_of_lt_of_le (mul-lt-mul_of_pos_right i.1 room) (le_of_eq (sym (scale (r + 1)))))

  cut : R / 2 ^ h ≡ r
  cut = quot R (2 ^ h) r R-ge (subst (λ (x : ℕ). R < x) (add-mul r 1 (2 ^ h) ∙ ap (λ (x : ℕ). r * 2 ^ h + x) (one (2 ^ h))) R-lt)
    where
      one : (x : ℕ) → 1 * x ≡ x
      one x = omega arith

  digits : size R ≡ suc (24 + h)
  digits =
      size_at R (24 + h) (le_trans (le_of_eq (pow-add 2 24 h)) (le_trans (mul-le-mul_right (2 ^ h) r_ge) R-ge))
      (lt_of_lt_of_le R-lt (le_trans (mul-le-mul_right (2 ^ h) (next r_lt)) (le_of_eq (sym (pow-add 2 25 h) ∙ ap (λ (x : ℕ). 2 ^ x) (shape h)))))
    where
      shape : (h : ℕ) → 25 + h ≡ suc (24 + h)
      shape h = omega arith

      next : r < 2 ^ 25 → r + 1 ≤ 2 ^ 25
      next l = omega arith

  dropped : size R - 24 ≡ h + 1
  dropped = cut_off (size R) digits
    where
      cut_off : (z : ℕ) → z ≡ suc (24 + h) → z - 24 ≡ h + 1
      cut_off z e = omega arith

  pow_next : 2 ^ (h + 1) ≡ 2 ^ h * 2
  pow_next = pow-add 2 h 1

  quarter : R / 2 ^ (h + 1) ≡ r / 2
  quarter = ap (λ (x : ℕ). R / x) pow_next ∙ sym (div-div-eq-div-mul R (2 ^ h) 2) ∙ ap (λ (x : ℕ). x / 2) cut

  -- both sides of the comparison are multiples of 4 * 4 ^ h
  left : 4 * n_of ≡ p * (2 ^ (h + 1) * 2 ^ (h + 1))
  unfolding n_of
  left = mul_left_comm 4 p (2 ^ h * 2 ^ h) ∙ ap (λ (x : ℕ). p * x) (sym (ap (λ (x : ℕ). x * x) pow_next ∙ mul-mul-mul_comm (2 ^ h) 2 (2 ^ h) 2 ∙ mul_comm (2 ^ h * 2 ^ h) 4))

  right : (g : ℕ) → g * 2 ^ (h + 1) * (g * 2 ^ (h + 1)) ≡ g * g * (2 ^ (h + 1) * 2 ^ (h + 1))
  right g = mul-mul-mul_comm g (2 ^ (h + 1)) g (2 ^ (h + 1))

  W-pos : 0 < 2 ^ (h + 1) * 2 ^ (h + 1)
  W-pos = mul-pos (pow_pos (h + 1)) (pow_pos (h + 1))

  mid : ℕ
  mid = 2 * (r / 2) + 1

  odd_sq : (q : ℕ) → (2 * q + 1) * (2 * q + 1) % 2 ≡ 1
  odd_sq q = let e = sq_suc (2 * q) in let f = sq_twice q in omega arith

  picks : (o : Ordering) → Cmp o (4 * n_of) (mid * 2 ^ (h + 1) * (mid * 2 ^ (h + 1))) → nearest (r / 2) o ≡ (r + 1) / 2
  unfolding mid
  picks Ordering.lt c =
      let l : p < mid * mid = lt_of_mul-lt-mul_right (2 ^ (h + 1) * 2 ^ (h + 1)) (lt_of_le_of_lt (le_of_eq (sym left)) (lt_of_lt_of_le c (le_of_eq (right mid)))) in
      down_to r (sq_lt r mid p i.0 l)
    where
      down_to : (r : ℕ) → r < 2 * (r / 2) + 1 → r / 2 ≡ (r + 1) / 2
      down_to r l = omega arith
  picks Ordering.gt c =
      let l : mid * mid < p = lt_of_mul-lt-mul_right (2 ^ (h + 1) * 2 ^ (h + 1)) (lt_of_le_of_lt (le_of_eq (sym (right mid))) (lt_of_lt_of_le c (le_of_eq left))) in
      up_to r (sq_lt mid (r + 1) p (le_of_lt l) i.1)
    where
      up_to : (r : ℕ) → 2 * (r / 2) + 1 < r + 1 → suc (r / 2) ≡ (r + 1) / 2
      up_to r l = omega arith
  picks Ordering.eq c = absurd (clash (sym (ap (λ (x : ℕ). x % 2) same) ∙ even) (odd_sq (r / 2)))
    where
      same : p ≡ mid * mid
      same = eq_of_mul-eq-mul_right (2 ^ (h + 1) * 2 ^ (h + 1)) W-pos p (mid * mid) (sym left ∙ c ∙ right mid)

      clash : {a : ℕ} → a ≡ 0 → a ≡ 1 → ⊥
      clash a b = omega arith

  pub nearest-root : sqrt_units binary32 (p * (2 ^ h * 2 ^ h)) ≡ units binary32 false ((r + 1) / 2) (h + 1)
  unfolding sqrt_units n_of R mid
  nearest-root =
      ap (λ (k : ℕ). units binary32 false (nearest (R / 2 ^ k) (compare (4 * n_of) ((2 * (R / 2 ^ k) + 1) * 2 ^ k * ((2 * (R / 2 ^ k) + 1) * 2 ^ k)))) k) dropped
      ∙ ap (λ (q : ℕ). units binary32 false (nearest q (compare (4 * n_of) ((2 * q + 1) * 2 ^ (h + 1) * ((2 * q + 1) * 2 ^ (h + 1))))) (h + 1)) quarter
      ∙ ap (λ (q : ℕ). units binary32 false q (h + 1)) (picks (compare (4 * n_of) (mid * 2 ^ (h + 1) * (mid * 2 ^ (h + 1)))) (cmp (4 * n_of) (mid * 2 ^ (h + 1) * (mid * 2 ^ (h + 1)))))

  -- It is nearer to the root than any other number m * 2 ^ j of the format's digits: the mean of the two lies on that one's side of the root. Here by the squares of their sums
  abbrev pub near : ℕ
  near = (r + 1) / 2 * 2 ^ (h + 1)

  -- near is (the even one of r and r + 1) * 2 ^ h
  near_is : (b : ℕ) → b ≡ (r + 1) / 2 * 2 → near ≡ b * 2 ^ h
  near_is b e = ap (λ (x : ℕ). (r + 1) / 2 * x) (pow_next ∙ mul_comm (2 ^ h) 2) ∙ sym (mul_assoc ((r + 1) / 2) 2 (2 ^ h)) ∙ ap (λ (x : ℕ). x * 2 ^ h) (sym e)

  -- in units of 2 ^ h the root is √p
  to_root : (s g : ℕ) → s < g * 2 ^ h → g * g ≤ 4 * p → s * s < 4 * (p * (2 ^ h * 2 ^ h))
  to_root s g a b = lt_of_lt_of_le (sq_mono s (g * 2 ^ h) a) (le_trans (le_of_eq (scale g)) (le_trans (mul-le-mul_right (2 ^ h * 2 ^ h) b) (le_of_eq (mul_assoc 4 p (2 ^ h * 2 ^ h)))))

  below_root : (s g : ℕ) → s ≤ g * 2 ^ h → g * g < 4 * p → s * s < 4 * (p * (2 ^ h * 2 ^ h))
  below_root s g a b = lt_of_le_of_lt (mul-le-mul a a) (lt_of_le_of_lt (le_of_eq (scale g)) (lt_of_lt_of_le (mul-lt-mul_of_pos_right b room) (le_of_eq (mul_assoc 4 p (2 ^ h * 2 ^ h)))))

  above_root : (s g : ℕ) → g * 2 ^ h ≤ s → 4 * p < g * g → 4 * (p * (2 ^ h * 2 ^ h)) < s * s
  above_root s g a b = lt_of_lt_of_le (lt_of_le_of_lt (le_of_eq (sym (mul_assoc 4 p (2 ^ h * 2 ^ h)))) (lt_of_lt_of_le (mul-lt-mul_of_pos_right b room) (le_of_eq (sym (scale g))))) (mul-le-mul a a)

  strict : (g : ℕ) → g % 2 ≡ 1 → g * g ≤ p → g * g < p
  strict g o l = other (eq-or-lt_of_le l)
    where
      odd_one : (g : ℕ) → g % 2 ≡ 1 → g ≡ 2 * (g / 2) + 1
      odd_one g o = omega arith

      other : (g * g ≡ p) ⊎ (g * g < p) → g * g < p
      other (inr l) = l
      other (inl e) = absurd (clash (ap (λ (x : ℕ). x % 2) e ∙ even) (ap (λ (x : ℕ). x * x % 2) (odd_one g o) ∙ odd_sq (g / 2)))
        where
          clash : {a : ℕ} → a ≡ 0 → a ≡ 1 → ⊥
          clash a b = omega arith

  pub nearer : (m j : ℕ) → m < 2 ^ 24 → (near < m * 2 ^ j → 4 * (p * (2 ^ h * 2 ^ h)) < (near + m * 2 ^ j) * (near + m * 2 ^ j)) × (m * 2 ^ j < near → (near + m * 2 ^ j) * (near + m * 2 ^ j) < 4 * (p * (2 ^ h * 2 ^ h)))
  nearer m j M = go (two_ways (r % 2) (bit r))
    where
      w : ℕ
      w = m * 2 ^ j

      q : ℕ
      q = (r + 1) / 2

      even_above : (v w q P x r : ℕ) → v ≡ q * P → P ≡ x * 2 → v ≡ r * x → (q + 1) * P ≤ w → 2 * (r + 1) * x ≤ v + w
      even_above v w q P x r a b c d = omega arith

      even_below : (v w x r : ℕ) → v ≡ r * x → w < v → v + w < 2 * r * x
      even_below v w x r c d = omega arith

      odd_above : (v w x r : ℕ) → v ≡ (r + 1) * x → v < w → 2 * (r + 1) * x ≤ v + w
      odd_above v w x r c d = omega arith

      odd_below : (v w Q P x r : ℕ) → v ≡ (Q + 1) * P → P ≡ x * 2 → v ≡ (r + 1) * x → w ≤ Q * P → v + w ≤ 2 * r * x
      odd_below v w Q P x r a b c d = omega arith

      sq_over : p < (r + 1) * (r + 1) → 4 * p < 2 * (r + 1) * (2 * (r + 1))
      sq_over h = omega arith

      sq_under : r * r ≤ p → 2 * r * (2 * r) ≤ 4 * p
      sq_under h = omega arith

      sq_below : r * r < p → 2 * r * (2 * r) < 4 * p
      sq_below h = omega arith

      q_ge : 2 ^ 23 ≤ (r + 1) / 2
      q_ge = let a = r_ge in omega arith

      go : (r % 2 ≡ 0) ⊎ (r % 2 ≡ 1) → (near < w → 4 * (p * (2 ^ h * 2 ^ h)) < (near + w) * (near + w)) × (w < near → (near + w) * (near + w) < 4 * (p * (2 ^ h * 2 ^ h)))
      go (inl z) =
          let e : r ≡ (r + 1) / 2 * 2 = omega arith in (
            λ l. above_root (near + w) (2 * (r + 1)) (even_above near w q (2 ^ (h + 1)) (2 ^ h) r refl pow_next (near_is r e) (gap 24 q (h + 1) m j (lit< tt) (λ _. q_ge) M l)) (sq_over i.1),
            λ l. to_root (near + w) (2 * r) (even_below near w (2 ^ h) r (near_is r e) l) (sq_under i.0),
          )
      go (inr z) =
          let e : r + 1 ≡ (r + 1) / 2 * 2 = omega arith in
          let Q = (r + 1) / 2 - 1 in
          let a = r_ge in
          let Q-is : q ≡ Q + 1 = omega arith in
          let Q-ge : 2 ^ 23 ≤ Q = omega arith in (
            λ l. above_root (near + w) (2 * (r + 1)) (odd_above near w (2 ^ h) r (near_is (r + 1) e) l) (sq_over i.1),
            λ l. below_root (near + w) (2 * r) (odd_below near w Q (2 ^ (h + 1)) (2 ^ h) r (ap (λ (x : ℕ). x * 2 ^ (h + 1)) Q-is) pow_next (near_is (r + 1) e)
                (no_more (λ (g : Q * 2 ^ (h + 1) < w). not-le_of_lt l (le_trans (le_of_eq (ap (λ (x : ℕ). x * 2 ^ (h + 1)) Q-is)) (gap 24 Q (h + 1) m j (lit< tt) (λ _. Q-ge) M g))))) (sq_below (strict r z i.0)),
          )
        where
          no_more : {x y : ℕ} → (x < y → ⊥) → y ≤ x
          no_more {x} {y} n = le_of_suc-le-suc (lt_of_not-le n)

  keeps : ((r + 1) / 2 ≤ 2 ^ 24) × (2 ^ 23 ≤ (r + 1) / 2)
  keeps = let a = r_ge in let b = r_lt in omega arith

  pub root_value : h ≤ 200 → HasValue (sqrt_units binary32 (p * (2 ^ h * 2 ^ h))) false near (2 ^ 149)
  root_value l =
      subst (λ (x : Float). HasValue x false near (2 ^ 149)) (sym nearest-root)
      (units_val binary32 false ((r + 1) / 2) (h + 1)
      (lt_of_le_of_lt (mul-le-mul keeps.0 (pow_mono (more l))) (lit< tt)))
    where
      more : h ≤ 200 → h + 1 ≤ 201
      more l = omega arith

  -- and its pattern
  pub root_bits : h ≤ 200 → of_bits binary32 ((h + 1) * 8388608 + (r + 1) / 2) ≡ sqrt_units binary32 (p * (2 ^ h * 2 ^ h))
  root_bits l =
      sym (nearest-root ∙ units_bits binary32 false ((r + 1) / 2) (h + 1) (keeps.0, λ (_ : 0 < h + 1). keeps.1) ∙ ap (of_bits binary32) flat)
    where
      flat : 0 + min ((h + 1) * 8388608 + (r + 1) / 2) 2139095040 ≡ (h + 1) * 8388608 + (r + 1) / 2
      flat = let b = r_lt in omega arith
