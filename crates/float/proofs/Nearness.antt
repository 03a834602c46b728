-- What `round` gives, said without its method, for both formats. num / den is n / den of the format's smallest value, and the result is v of it:
-- no value of the format is nearer, and of two as near the result is the one whose pattern is even (`round_near`). From the middle
-- between the largest value and the power of two above it on it is an infinity (`round_value`, `round_over`). Assumes nothing.
use mathlib.Core.Path.{◌≡◌, refl, sym, ap, ◌∙◌, subst}
use mathlib.Core.Logic.{◌⊎◌, inl, inr}
use Prim.Native.Nat.{ℕ, suc, ◌+◌, ◌-◌, ◌*◌, ◌/◌, ◌%◌, ◌^◌, ◌≤◌, ◌<◌, compare, min, Ordering}
use native.Mathlib.Nat.{le_trans, le_of_eq, lt_of_lt_of_le, lt_of_le_of_lt, not-le_of_lt, zero-lt-suc, zero-mul, suc-mul, mul_assoc, mul_comm, mul-pos, mul-le-mul, mul-le-mul_right, mul-lt-mul_of_pos_right, mul-lt-mul_of_pos_left, mod-lt, div-add-mod', div-lt_iff_lt-mul, le-div_iff_mul-le, eq-or-lt_of_le, eq_of_mul-eq-mul_right}
use native.Mathlib.Omega.{arith}
use mathlib.Core.Bool.{Bool, true, false, not}
use lib.Dec.{T, ltb, ltb→lt, nltb→le, lit<}
use lib.Pow.{pow-add, pow_pos, pow_mono, pow-lt}
use lib.Ieee.{Float, nan, inf, fin, Format, binary32, binary64, prec, low, emax, hid, ones, top, size, nearest, round, fits, is_nan, of_bits, to_bits}
use lib.Ieee.Digits.{size-lt, size-le}
use lib.Ieee.Fits.{round_is, nearest-le, two, two-le_pos}
use lib.Ieee.Exact.{HasValue, units_val}
use lib.Ieee.Bits.{to_bits-of_bits}
use lib.Ieee.Nearest.{closest, nearest-ge}
use lib.Ieee.Order.{drop, kept}
use Rattle.float.specs.Fields.{sig, expo, val, round_mag}
use Rattle.float.proofs.Patterns.{with_sign}
use Rattle.float.proofs.Magnitudes.{limit, limit_is, limit_hid, sig-lt, size_of, over, all_digits, round_keeps, round_bits}
use Rattle.float.proofs.Numbers.{Cmp, cmp, bit, two_ways, plus_bit, gap, dist}

-- ---- n to the nearest multiple of u, against a w that is not between the two multiples beside n. y is the one at or below n
below_half : (n y u r w : ℕ) → y + r ≡ n → r * 2 < u → (w ≤ y) ⊎ (y + u ≤ w) → (dist n y ≤ dist n w) × (dist n y ≡ dist n w → w ≡ y)
below_half n y u r w e h (inl a) = (omega arith, λ d. omega arith)
below_half n y u r w e h (inr a) = (omega arith, λ d. omega arith)

above_half : (n y u r w : ℕ) → y + r ≡ n → r < u → u < r * 2 → (w ≤ y) ⊎ (y + u ≤ w) → (dist n (y + u) ≤ dist n w) × (dist n (y + u) ≡ dist n w → w ≡ y + u)
above_half n y u r w e l h (inl a) = (omega arith, λ d. omega arith)
above_half n y u r w e l h (inr a) = (omega arith, λ d. omega arith)

at-half : (n y u r w : ℕ) → y + r ≡ n → r * 2 ≡ u → (w ≤ y) ⊎ (y + u ≤ w) → (dist n y ≤ dist n w) × (dist n (y + u) ≤ dist n w)
at-half n y u r w e h (inl a) = omega arith
at-half n y u r w e h (inr a) = omega arith

module _ (n u w : ℕ) (U : 0 < u) (beside : (w ≤ n / u * u) ⊎ (n / u * u + u ≤ w)) where
  abbrev Near : ℕ → Type 0
  Near q = (dist n (q * u) ≤ dist n w) × (dist n (q * u) ≡ dist n w → (w ≡ q * u) ⊎ (q % 2 ≡ 0))

  closest_near : Near (closest n u)
  closest_near = go (compare (n % u * 2) u) (cmp (n % u * 2) u)
    where
      q : ℕ
      q = n / u

      whole : q * u + n % u ≡ n
      whole = div-add-mod' n u

      next : q * u + u ≡ suc q * u
      next = sym (suc-mul q u)

      go : (o : Ordering) → Cmp o (n % u * 2) u → Near (nearest q o)
      go Ordering.lt c = let k = below_half n (q * u) u (n % u) w whole c beside in (k.0, λ d. inl (k.1 d))
      go Ordering.gt c =
          let k = above_half n (q * u) u (n % u) w whole (mod-lt n U) c beside in
          subst (λ (x : ℕ). (dist n x ≤ dist n w) × (dist n x ≡ dist n w → (w ≡ x) ⊎ (suc q % 2 ≡ 0))) next (k.0, λ d. inl (k.1 d))
      go Ordering.eq c =
          let k = at-half n (q * u) u (n % u) w whole c beside in
          let b = plus_bit q (q % 2) refl in (
            elim (two_ways (q % 2) (bit q)) [
              | inl z ↦ subst (λ (x : ℕ). dist n (x * u) ≤ dist n w) (sym (b.1 z)) k.0
              | inr z ↦ subst (λ (x : ℕ). dist n (x * u) ≤ dist n w) (sym (b.2 z)) (subst (λ (x : ℕ). dist n x ≤ dist n w) next k.1)
            ],
            λ d. inr b.0,
          )

-- ---- n to the nearest multiple of 2g, against the middle g below P * 2g
closest_lt : (n g P : ℕ) → 0 < g → n + g < P * (g * 2) → closest n (g * 2) < P
closest_lt n g P G h = go (eq-or-lt_of_le q_lt)
  where
    u : ℕ
    u = g * 2

    q : ℕ
    q = n / u

    q_lt : q < P
    q_lt = (div-lt_iff_lt-mul (mul-pos G (zero-lt-suc 1))).1 (lt_of_le_of_lt (less n g) h)
      where
        less : (n g : ℕ) → n ≤ n + g
        less n g = omega arith

    rest : (n g y r : ℕ) → y + r ≡ n → n + g < g * 2 + y → r * 2 < g * 2
    rest n g y r e h = omega arith

    no : (a b : ℕ) → a < b → (b < a) ⊎ (a ≡ b) → ⊥
    no a b h (inl c) = omega arith
    no a b h (inr c) = omega arith

    stay : (o : Ordering) → Cmp o (n % u * 2) u → n % u * 2 < u → nearest q o ≡ q
    stay Ordering.lt c l = refl
    stay Ordering.gt c l = absurd (no (n % u * 2) u l (inl c))
    stay Ordering.eq c l = absurd (no (n % u * 2) u l (inr c))

    go : (suc q ≡ P) ⊎ (suc q < P) → closest n u < P
    go (inr l) = lt_of_le_of_lt (nearest-le q (compare (n % u * 2) u)) l
    go (inl e) =
        lt_of_le_of_lt (le_of_eq (stay (compare (n % u * 2) u) (cmp (n % u * 2) u) (rest n g (q * u) (n % u) (div-add-mod' n u) (subst (λ (x : ℕ). n + g < x) (sym (ap (λ (x : ℕ). x * u) e) ∙ suc-mul q u ∙ turn (q * u) u) h)))) q_lt
      where
        turn : (a b : ℕ) → a + b ≡ b + a
        turn a b = omega arith

closest_ge : (n g P : ℕ) → 0 < g → P % 2 ≡ 0 → 0 < P → P * (g * 2) ≤ n + g → P ≤ closest n (g * 2)
closest_ge n g P G even some h = go (ltb q P) (ltb→lt q P) (nltb→le q P)
  where
    u : ℕ
    u = g * 2

    q : ℕ
    q = n / u

    pred : (P : ℕ) → 0 < P → P ≡ suc (P - 1)
    pred P h = omega arith

    q_ge : P - 1 ≤ q
    q_ge = (le-div_iff_mul-le (mul-pos G (zero-lt-suc 1))).1 (less ((P - 1) * u) n g (subst (λ (x : ℕ). x ≤ n + g) (ap (λ (x : ℕ). x * u) (pred P some) ∙ suc-mul (P - 1) u) h))
      where
        less : (y n g : ℕ) → y + g * 2 ≤ n + g → y ≤ n
        less y n g h = omega arith

    last : (q P : ℕ) → P - 1 ≤ q → q < P → suc q ≡ P
    last q P a b = omega arith

    odd_one : (q P : ℕ) → suc q ≡ P → P % 2 ≡ 0 → q % 2 ≡ 1
    odd_one q P e h = omega arith

    rest : (n g y r : ℕ) → y + r ≡ n → y + g * 2 ≤ n + g → g * 2 ≤ r * 2
    rest n g y r e h = omega arith

    step : suc q ≡ P → (o : Ordering) → Cmp o (n % u * 2) u → u ≤ n % u * 2 → P ≤ nearest q o
    step e Ordering.lt c l = absurd (not-le_of_lt c l)
    step e Ordering.gt c l = le_of_eq (sym e)
    step e Ordering.eq c l = le_of_eq (sym ((plus_bit q (q % 2) refl).2 (odd_one q P e even) ∙ e))

    go : (t : Bool) → (T t → q < P) → (T (not t) → P ≤ q) → P ≤ closest n u
    go false a b = le_trans (b tt) (nearest-ge q (compare (n % u * 2) u))
    go true a b =
        let e = last q P q_ge (a tt) in
        step e (compare (n % u * 2) u) (cmp (n % u * 2) u)
        (rest n g (q * u) (n % u) (div-add-mod' n u) (subst (λ (x : ℕ). x ≤ n + g) (ap (λ (x : ℕ). x * u) (sym e) ∙ suc-mul q u) h))

-- ---- the numbers of the two formats. The largest values have the unit 2 ^ (ones - 2), of which `edge` is the half
abbrev pub edge : Format → ℕ
edge f = 2 ^ (ones f - 3)

unit_is : (f : Format) → 2 ^ (ones f - 2) ≡ edge f * 2
unit_is binary32 = pow-add 2 252 1
unit_is binary64 = pow-add 2 2044 1

digits_even : (f : Format) → (2 ^ prec f % 2 ≡ 0) × (0 < 2 ^ prec f)
digits_even binary32 = (refl, lit< tt)
digits_even binary64 = (refl, lit< tt)

pattern_even : (f : Format) (s : Bool) (q k : ℕ) → q % 2 ≡ 0 → with_sign f s (min (k * hid f + q) (ones f * hid f)) % 2 ≡ 0
pattern_even binary32 true q k h = omega arith
pattern_even binary32 false q k h = omega arith
pattern_even binary64 true q k h = omega arith
pattern_even binary64 false q k h = omega arith

pattern_lt : (f : Format) (s : Bool) (a : ℕ) → with_sign f s (min a (ones f * hid f)) < 2 * top f
pattern_lt binary32 true a = omega arith
pattern_lt binary32 false a = omega arith
pattern_lt binary64 true a = omega arith
pattern_lt binary64 false a = omega arith

number : (x : Float) (s : Bool) (v c : ℕ) → HasValue x s v c → T (not (is_nan x))
unfolding is_nan
number nan s v c h = absurd h
number (inf t) s v c h = absurd h
number (fin t m e) s v c h = tt

-- ---- num / den in units of the smallest value, and what `round` makes of it
module _ (f : Format) (s : Bool) (num den : ℕ) (D : 0 < den) where
  abbrev n_of : ℕ
  n_of = num * 2 ^ low f

  abbrev k_of : ℕ
  k_of = drop (prec f) n_of den

  abbrev q_of : ℕ
  q_of = kept (prec f) n_of den

  abbrev pub v_of : ℕ
  v_of = q_of * 2 ^ k_of

  in_units : (q : ℕ) → q * (den * 2 ^ k_of) ≡ q * 2 ^ k_of * den
  in_units q = ap (λ (x : ℕ). q * x) (mul_comm den (2 ^ k_of)) ∙ sym (mul_assoc q (2 ^ k_of) den)

  -- no value of the format is between the two multiples of the unit beside num / den
  beside : (m j : ℕ) → m < 2 ^ prec f → (m * 2 ^ j * den ≤ n_of / (den * 2 ^ k_of) * (den * 2 ^ k_of)) ⊎ (n_of / (den * 2 ^ k_of) * (den * 2 ^ k_of) + den * 2 ^ k_of ≤ m * 2 ^ j * den)
  beside m j M = go (ltb (q * 2 ^ k_of) (m * 2 ^ j)) (ltb→lt (q * 2 ^ k_of) (m * 2 ^ j)) (nltb→le (q * 2 ^ k_of) (m * 2 ^ j))
    where
      q : ℕ
      q = n_of / (den * 2 ^ k_of)

      go : (t : Bool) → (T t → q * 2 ^ k_of < m * 2 ^ j) → (T (not t) → m * 2 ^ j ≤ q * 2 ^ k_of) → (m * 2 ^ j * den ≤ q * (den * 2 ^ k_of)) ⊎ (q * (den * 2 ^ k_of) + den * 2 ^ k_of ≤ m * 2 ^ j * den)
      go false a b = inl (le_trans (mul-le-mul_right den (b tt)) (le_of_eq (sym (in_units q))))
      go true a b = inr (le_trans (le_of_eq (next q (den * 2 ^ k_of) ∙ in_units (q + 1))) (mul-le-mul_right den (gap (prec f) q k_of m j (two-le_pos (prec f) (two f)) (all_digits f n_of den) M (a tt))))
        where
          next : (q u : ℕ) → q * u + u ≡ (q + 1) * u
          next q u = omega arith

  kept_near : (y : Float) (t : Bool) (w : ℕ) → T (fits f y) → HasValue y t w (2 ^ low f)
      → (dist n_of (v_of * den) ≤ dist n_of (w * den)) × (dist n_of (v_of * den) ≡ dist n_of (w * den) → (w ≡ v_of) ⊎ (q_of % 2 ≡ 0))
  kept_near y t w p h =
      let z = size_of f y t w p h in
      let a = z.0 in
      let g = closest_near n_of (den * 2 ^ k_of) (val f a * den) (mul-pos D (pow_pos k_of)) (beside (sig f a) (expo f a) (sig-lt f a)) in
      let is : q_of * (den * 2 ^ k_of) ≡ v_of * den = in_units q_of in
      subst (λ (w : ℕ). (dist n_of (v_of * den) ≤ dist n_of (w * den)) × (dist n_of (v_of * den) ≡ dist n_of (w * den) → (w ≡ v_of) ⊎ (q_of % 2 ≡ 0))) (sym z.2) (
        subst (λ (x : ℕ). dist n_of x ≤ dist n_of (val f a * den)) is g.0,
        λ d. elim (g.1 (ap (dist n_of) is ∙ d)) [
          | inl e ↦ inl (eq_of_mul-eq-mul_right den D (val f a) v_of (e ∙ is))
          | inr e ↦ inr e
        ],
      )

  -- ---- below the edge of the format, and from there on
  abbrev Below : Type 0
  Below = n_of + edge f * den < limit f * den

  abbrev Beyond : Type 0
  Beyond = limit f * den ≤ n_of + edge f * den

  limit_edge : limit f * den ≡ 2 ^ prec f * (edge f * den * 2)
  limit_edge = ap (λ (x : ℕ). x * den) (sym (limit_is f) ∙ ap (λ (x : ℕ). 2 ^ prec f * x) (unit_is f)) ∙ turn (2 ^ prec f) (edge f) den
    where
      turn : (p g d : ℕ) → p * (g * 2) * d ≡ p * (g * d * 2)
      turn p g d = omega arith

  edge_pos : 0 < edge f * den
  edge_pos = mul-pos (pow_pos (ones f - 3)) D

  -- what is dropped there
  few : n_of < limit f * den → k_of ≤ ones f - 2
  few h = less f (size (n_of / den)) (size-le (n_of / den) (low f + suc (emax f)) ((div-lt_iff_lt-mul D).1 h))
    where
      less : (f : Format) (z : ℕ) → z ≤ low f + suc (emax f) → z - prec f ≤ ones f - 2
      less binary32 z h = omega arith
      less binary64 z h = omega arith

  unit_at : k_of ≡ ones f - 2 → den * 2 ^ k_of ≡ edge f * den * 2
  unit_at e = ap (λ (x : ℕ). den * 2 ^ x) e ∙ ap (λ (x : ℕ). den * x) (unit_is f) ∙ turn den (edge f)
    where
      turn : (d g : ℕ) → d * (g * 2) ≡ g * d * 2
      turn d g = omega arith

  below_limit : Below → v_of < limit f
  below_limit h = go (eq-or-lt_of_le (few (lt_of_le_of_lt (less n_of (edge f * den)) h)))
    where
      less : (n g : ℕ) → n ≤ n + g
      less n g = omega arith

      go : (k_of ≡ ones f - 2) ⊎ (k_of < ones f - 2) → v_of < limit f
      go (inl e) =
          lt_of_lt_of_le (mul-lt-mul_of_pos_right
          (subst (λ (x : ℕ). closest n_of x < 2 ^ prec f) (sym (unit_at e)) (closest_lt n_of (edge f * den) (2 ^ prec f) edge_pos (lt_of_lt_of_le h (le_of_eq limit_edge)))) (pow_pos k_of))
          (le_of_eq (ap (λ (x : ℕ). 2 ^ prec f * 2 ^ x) e ∙ limit_is f))
      go (inr l) =
          lt_of_le_of_lt (mul-le-mul_right (2 ^ k_of) (round_keeps f n_of den).0)
          (lt_of_lt_of_le (mul-lt-mul_of_pos_left (pow-lt l) (pow_pos (prec f))) (le_of_eq (limit_is f)))

  beyond_limit : Beyond → limit f ≤ v_of
  beyond_limit h = go (ltb k_of (ones f - 2)) (ltb→lt k_of (ones f - 2)) (nltb→le k_of (ones f - 2))
    where
      E : ℕ
      E = edge f * den

      far : 2 ^ prec f * (E * 2) ≤ n_of + E
      far = le_trans (le_of_eq (sym limit_edge)) h

      cover : (f : Format) (z : ℕ) → z - prec f < ones f - 2 → z ≤ prec f + (ones f - 3)
      cover binary32 z l = omega arith
      cover binary64 z l = omega arith

      no : (P E n : ℕ) → 0 < P → P * (E * 2) ≤ n + E → n < P * E → ⊥
      no P E n p a b = let c : 1 * E ≤ P * E = mul-le-mul_right E p in omega arith

      near : k_of < ones f - 2 → n_of < 2 ^ prec f * E
      near l =
          lt_of_lt_of_le ((div-lt_iff_lt-mul D).0 (lt_of_lt_of_le (size-lt (n_of / den)) (pow_mono (cover f (size (n_of / den)) l))))
          (le_of_eq (ap (λ (x : ℕ). x * den) (pow-add 2 (prec f) (ones f - 3)) ∙ mul_assoc (2 ^ prec f) (edge f) den))

      more : (f : Format) (k : ℕ) → ones f - 2 < k → (ones f - 1 ≤ k) × (0 < k)
      more binary32 k l = omega arith
      more binary64 k l = omega arith

      reach : (ones f - 2 ≡ k_of) ⊎ (ones f - 2 < k_of) → limit f ≤ v_of
      reach (inl e) =
          le_trans (le_of_eq (sym (limit_is f) ∙ ap (λ (x : ℕ). 2 ^ prec f * 2 ^ x) e))
          (mul-le-mul_right (2 ^ k_of) (subst (λ (x : ℕ). 2 ^ prec f ≤ closest n_of x) (sym (unit_at (sym e))) (closest_ge n_of E (2 ^ prec f) edge_pos (digits_even f).0 (digits_even f).1 far)))
      reach (inr l) =
          le_trans (le_of_eq (sym (limit_hid f))) (mul-le-mul ((round_keeps f n_of den).1 (more f k_of l).1) (pow_mono (more f k_of l).0))

      go : (t : Bool) → (T t → k_of < ones f - 2) → (T (not t) → ones f - 2 ≤ k_of) → limit f ≤ v_of
      go true a b = absurd (no (2 ^ prec f) E n_of (digits_even f).1 far (near (a tt)))
      go false a b = reach (eq-or-lt_of_le (b tt))

  pub round_value : Below → HasValue (round f s num den) s v_of (2 ^ low f)
  round_value h = subst (λ (x : Float). HasValue x s v_of (2 ^ low f)) (sym (round_is f s num den)) (units_val f s q_of k_of (below_limit h))

  pub round_over : Beyond → round f s num den ≡ inf s
  round_over h = round_is f s num den ∙ over f s q_of k_of (beyond_limit h)

  pattern : Below → q_of % 2 ≡ 0 → to_bits f (round f s num den) % 2 ≡ 0
  pattern h e =
      let b = with_sign f s (round_mag f num den) in
      ap (λ (x : Float). to_bits f x % 2) (round_bits f s num den)
      ∙ ap (λ (x : ℕ). x % 2) (to_bits-of_bits f b (pattern_lt f s (k_of * hid f + q_of)) (number (of_bits f b) s v_of (2 ^ low f) (subst (λ (x : Float). HasValue x s v_of (2 ^ low f)) (round_bits f s num den) (round_value h))))
      ∙ pattern_even f s q_of k_of e

  pub round_near : Below → (y : Float) (t : Bool) (w : ℕ) → T (fits f y) → HasValue y t w (2 ^ low f)
      → (dist (num * 2 ^ low f) (v_of * den) ≤ dist (num * 2 ^ low f) (w * den))
      × (dist (num * 2 ^ low f) (v_of * den) ≡ dist (num * 2 ^ low f) (w * den) → (w ≡ v_of) ⊎ (to_bits f (round f s num den) % 2 ≡ 0))
  round_near h y t w p v =
      let z = kept_near y t w p v in
      (z.0, λ d. elim (z.1 d) [ inl e ↦ inl e | inr e ↦ inr (pattern h e) ])

  -- a zero's pattern is even too
  pub round-zero : Below → v_of ≡ 0 → to_bits f (round f s num den) % 2 ≡ 0
  round-zero h e = pattern h (ap (λ (x : ℕ). x % 2) (eq_of_mul-eq-mul_right (2 ^ k_of) (pow_pos k_of) q_of 0 (e ∙ sym (zero-mul (2 ^ k_of)))))
