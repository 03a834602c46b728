-- The f32 tolerance is between k and k + 1 of 1/1024, k the whole part of 1024 * 0.55 * s / 4. A distance is a multiple of 1/4, exact, so it is on the
-- same side of the rounded tolerance as of the true one. This holds for sums and runs up to 32,768. Assumes nothing.
use mathlib.Core.Path.{◌≡◌, refl, sym, ap, ◌∙◌, subst}
use mathlib.Core.Logic.{inl, inr}
use Prim.Native.Nat.{ℕ, ◌+◌, ◌-◌, ◌*◌, ◌/◌, ◌^◌, ◌≤◌, ◌<◌}
use native.Mathlib.Nat.{le_trans, lt_of_le_of_lt, mul-one, mul-le-mul_right, mul-lt-mul_of_pos_right, eq-or-lt_of_le}
use native.Mathlib.Omega.{arith}
use mathlib.Core.Bool.{Bool, true, false, not}
use lib.Dec.{T, leb, ltb, lit<, lit≤, le→leb, ltb→lt, nltb→le}
use lib.IntN.{pos}
use lib.Ieee.{Float, binary32, round, lt, le, of_bits, in_float}
use lib.Ieee.Exact.{HasValue}
use lib.Ieee.Order.{round_mono}
use lib.Ieee.Positive.{num, den, positive, den_pos, own_value, positive_of_value, values_of_le, between}
use borrow.Author.Tests.{lt-ltb, le-ltb, lt-leb, le-leb}
use Rattle.lists.specs.Lists.{dist}
use Rattle.float.specs.Floats.{abs_of}
use Rattle.float.specs.Steps.{◌⊖◌, ◌⊗◌, whole32}
use Rattle.float.specs.Constants.{f0_55, f3, f4}
use Rattle.ratio.specs.Ratio.{near_one, near_three, outer_of, tolerance_of, beyond}
use Rattle.float.proofs.Exactly.{rescale, small_exact, of_int_value, mul_is, div_is, abs_sub_is, lt_is}

-- a sum of runs goes to an f32 exactly
pub in_float_lem : (n : ℕ) → n ≤ 32768 → T (in_float binary32 (pos n))
unfolding in_float
in_float_lem n h = le→leb n 16777216 (le_trans h (lit≤ tt))

-- the constants' values
four : HasValue f4 false 4 1
unfolding of_bits
four = (refl, refl)

three : HasValue f3 false 3 1
unfolding of_bits
three = (refl, refl)

hundredths : HasValue f0_55 false 9227469 16777216
unfolding of_bits
hundredths = (refl, refl)

-- ---- a fraction n / d, rounded, between two fractions of 1/1024
abbrev Between : Float → ℕ → ℕ → Type 0
Between t lo hi = T (positive t) × (lo * den t ≤ num t * 1024) × (num t * 1024 ≤ hi * den t)

rounded : (n d lo hi : ℕ) → 0 < d → 0 < lo → lo < 2 ^ 24 → hi < 2 ^ 24 → 0 < hi → lo * d ≤ n * 1024 → n * 1024 ≤ hi * d → Between (round binary32 false n d) lo hi
rounded n d lo hi D L l h H a b =
    let t = round binary32 false n d in
    let x = round binary32 false lo 1024 in
    let y = round binary32 false hi 1024 in
    let vx : HasValue x false lo 1024 = small_exact false lo 10 l (lit≤ tt) in
    let vy : HasValue y false hi 1024 = small_exact false hi 10 h (lit≤ tt) in
    let px = positive_of_value x lo 1024 vx L in
    let py = positive_of_value y hi 1024 vy H in
    let below : T (le x t) = round_mono binary32 lo 1024 n d (lit< tt) D a in
    let above : T (le t y) = round_mono binary32 n d hi 1024 D (lit< tt) b in
    let pt = between x t y px py below above in
    (pt, values_of_le x t lo 1024 (num t) (den t) px pt vx (own_value t pt) below, values_of_le t y (num t) (den t) hi 1024 pt py (own_value t pt) vy above)

-- ---- a distance of D / 4 against it
far : (t x : Float) (lo hi D : ℕ) → Between t lo hi → HasValue x false D 4 → hi < 256 * D → lt t x ≡ true
far t x lo hi D b v h = lt_is t x (num t) (den t) D 4 (den_pos t) (lit< tt) (own_value t b.0) v ∙ lt-ltb (num t * 4) (D * den t) (over (num t) (den t) hi D (den_pos t) b.2 h)
  where
    over : (n d hi D : ℕ) → 0 < d → n * 1024 ≤ hi * d → hi < 256 * D → n * 4 < D * d
    over n d hi D P a h = let m : hi * d < 256 * D * d = mul-lt-mul_of_pos_right h P in omega arith

near : (t x : Float) (lo hi D : ℕ) → Between t lo hi → HasValue x false D 4 → 256 * D ≤ lo → lt t x ≡ false
near t x lo hi D b v h = lt_is t x (num t) (den t) D 4 (den_pos t) (lit< tt) (own_value t b.0) v ∙ le-ltb (num t * 4) (D * den t) (under (num t) (den t) lo D b.1 h)
  where
    under : (n d lo D : ℕ) → lo * d ≤ n * 1024 → 256 * D ≤ lo → D * d ≤ n * 4
    under n d lo D a h = let m : 256 * D * d ≤ lo * d = mul-le-mul_right d h in omega arith

not_ltb : (a b : ℕ) → not (ltb a b) ≡ leb b a
not_ltb a b = go (ltb a b) (ltb→lt a b) (nltb→le a b)
  where
    go : (t : Bool) → (T t → a < b) → (T (not t) → b ≤ a) → not t ≡ leb b a
    go true l g = sym (lt-leb b a (l tt))
    go false l g = sym (le-leb b a (g tt))

-- ---- s the sum of the four outer runs
module _ (s : ℕ) (P : 0 < s) (S : s ≤ 32768) where
  abbrev outer : Float
  outer = outer_of s

  abbrev tol : Float
  tol = tolerance_of outer

  pub outer_is : HasValue outer false s 4
  outer_is =
      subst (λ (x : Float). HasValue x false s 4)
      (ap (λ (n : ℕ). round binary32 false n 4) (sym (mul-one s)) ∙ sym (div_is binary32 (whole32 s) f4 false false s 1 4 1 (lit< tt) (lit< tt) (lit< tt) (of_int_value binary32 s (le_trans S (lit≤ tt))) four))
      (small_exact false s 2 (lt_of_le_of_lt S (lit< tt)) (lit≤ tt))

  outer3_is : HasValue (f3 ⊗ outer) false (3 * s) 4
  outer3_is =
      subst (λ (x : Float). HasValue x false (3 * s) 4) (sym (mul_is binary32 f3 outer false false 3 1 s 4 (lit< tt) (lit< tt) three outer_is))
      (small_exact false (3 * s) 2 (few s S) (lit≤ tt))
    where
      few : (s : ℕ) → s ≤ 32768 → 3 * s < 2 ^ 24
      few s S = omega arith

  tol_is : Between tol (704 * s / 5) (704 * s / 5 + 1)
  tol_is =
      subst (λ (t : Float). Between t (704 * s / 5) (704 * s / 5 + 1)) (sym (mul_is binary32 outer f0_55 false false s 4 9227469 16777216 (lit< tt) (lit< tt) outer_is hundredths))
      (rounded (s * 9227469) 67108864 (704 * s / 5) (704 * s / 5 + 1) (lit< tt) (omega arith) (omega arith) (omega arith) (omega arith) (omega arith) (omega arith))

  tol3_is : Between (f3 ⊗ tol) (3 * (704 * s / 5)) (3 * (704 * s / 5 + 1))
  tol3_is =
      let b = tol_is in
      let n = num tol in
      let d = den tol in
      subst (λ (t : Float). Between t (3 * (704 * s / 5)) (3 * (704 * s / 5 + 1))) (sym (mul_is binary32 f3 tol false false 3 1 n d (lit< tt) (den_pos tol) three (own_value tol b.0)))
      (rounded (3 * n) (1 * d) (3 * (704 * s / 5)) (3 * (704 * s / 5 + 1)) (one d (den_pos tol)) (omega arith) (omega arith) (omega arith) (omega arith) (thrice_l (704 * s / 5) n d b.1) (thrice_r (704 * s / 5 + 1) n d b.2))
    where
      one : (d : ℕ) → 0 < d → 0 < 1 * d
      one d h = omega arith

      thrice_l : (k n d : ℕ) → k * d ≤ n * 1024 → 3 * k * (1 * d) ≤ 3 * n * 1024
      thrice_l k n d h = omega arith

      thrice_r : (k n d : ℕ) → n * 1024 ≤ k * d → 3 * n * 1024 ≤ 3 * k * (1 * d)
      thrice_r k n d h = omega arith

  module _ (r : ℕ) (R : r ≤ 32768) where
    abbrev gap : Float → Float
    gap x = abs_of (whole32 r ⊖ x)

    -- the distance of r from q / 4
    gap_is : (x : Float) (q : ℕ) → q ≤ 98304 → HasValue x false q 4 → HasValue (gap x) false (dist (4 * r) q) 4
    gap_is x q Q v =
        subst (λ (y : Float). HasValue y false (dist (4 * r) q) 4)
        (sym (abs_sub_is binary32 (whole32 r) x (4 * r) q 4 (lit< tt) (rescale (whole32 r) false r 1 (4 * r) 4 (lit< tt) (quad r) (of_int_value binary32 r (le_trans R (lit≤ tt)))) v))
        (small_exact false (dist (4 * r) q) 2 (few r q R Q) (lit≤ tt))
      where
        quad : (r : ℕ) → r * 4 ≡ 4 * r * 1
        quad r = omega arith

        few : (r q : ℕ) → r ≤ 32768 → q ≤ 98304 → dist (4 * r) q < 2 ^ 24
        few r q R Q = omega arith

    pub one_test : not (beyond r outer tol) ≡ near_one s r
    one_test = ap not (go (ltb (11 * s) (20 * D)) (ltb→lt (11 * s) (20 * D)) (nltb→le (11 * s) (20 * D))) ∙ not_ltb (11 * s) (20 * D)
      where
        D : ℕ
        D = dist (4 * r) s

        v : HasValue (gap outer) false D 4
        v = gap_is outer s (le_trans S (lit≤ tt)) outer_is

        go : (t : Bool) → (T t → 11 * s < 20 * D) → (T (not t) → 20 * D ≤ 11 * s) → lt tol (gap outer) ≡ t
        go true l g = far tol (gap outer) (704 * s / 5) (704 * s / 5 + 1) D tol_is v (more s D (l tt))
          where
            more : (s D : ℕ) → 11 * s < 20 * D → 704 * s / 5 + 1 < 256 * D
            more s D h = omega arith
        go false l g = near tol (gap outer) (704 * s / 5) (704 * s / 5 + 1) D tol_is v (less s D (g tt))
          where
            less : (s D : ℕ) → 20 * D ≤ 11 * s → 256 * D ≤ 704 * s / 5
            less s D h = omega arith

    pub three_test : not (beyond r (f3 ⊗ outer) (f3 ⊗ tol)) ≡ near_three s r
    three_test = ap not (go (ltb (33 * s) (20 * D)) (ltb→lt (33 * s) (20 * D)) (nltb→le (33 * s) (20 * D))) ∙ not_ltb (33 * s) (20 * D)
      where
        D : ℕ
        D = dist (4 * r) (3 * s)

        v : HasValue (gap (f3 ⊗ outer)) false D 4
        v = gap_is (f3 ⊗ outer) (3 * s) (wide s S) outer3_is
          where
            wide : (s : ℕ) → s ≤ 32768 → 3 * s ≤ 98304
            wide s S = omega arith

        go : (t : Bool) → (T t → 33 * s < 20 * D) → (T (not t) → 20 * D ≤ 33 * s) → lt (f3 ⊗ tol) (gap (f3 ⊗ outer)) ≡ t
        go true l g = far (f3 ⊗ tol) (gap (f3 ⊗ outer)) (3 * (704 * s / 5)) (3 * (704 * s / 5 + 1)) D tol3_is v (more s D (l tt))
          where
            more : (s D : ℕ) → 33 * s < 20 * D → 3 * (704 * s / 5 + 1) < 256 * D
            more s D h = omega arith
        go false l g = near (f3 ⊗ tol) (gap (f3 ⊗ outer)) (3 * (704 * s / 5)) (3 * (704 * s / 5 + 1)) D tol3_is v (less s D (g tt))
          where
            -- at equality s is a multiple of 20, and 704 * s / 5 is exact
            less : (s x : ℕ) → 20 * x ≤ 33 * s → 256 * x ≤ 3 * (704 * s / 5)
            less s x h = elim (eq-or-lt_of_le h) [ inl e ↦ exact s x e | inr l ↦ slack s x l ]
              where
                exact : (s x : ℕ) → 20 * x ≡ 33 * s → 256 * x ≤ 3 * (704 * s / 5)
                exact s x e =
                    let f : s ≡ 5 * (8 * x - 13 * s) = omega arith in
                    let d : 704 * s / 5 ≡ 704 * (8 * x - 13 * s) = ap (λ (z : ℕ). 704 * z / 5) f ∙ fifth (8 * x - 13 * s) in
                    omega arith
                  where
                    fifth : (y : ℕ) → 704 * (5 * y) / 5 ≡ 704 * y
                    fifth y = omega arith

                slack : (s x : ℕ) → 20 * x < 33 * s → 256 * x ≤ 3 * (704 * s / 5)
                slack s x l = omega arith
