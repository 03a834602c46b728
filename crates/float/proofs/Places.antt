-- The order of two f32 is that of their patterns' places: so far above or below both zeros as the magnitude is large (`lt_places`). Assumes nothing.
use mathlib.Core.Path.{◌≡◌, refl, sym, ap, ◌∙◌}
use mathlib.Core.Logic.{◌⊎◌, inl, inr}
use mathlib.Core.Bool.{Bool, true, false, not, cond}
use Prim.Native.Nat.{ℕ, ◌+◌, ◌-◌, ◌*◌, ◌%◌, ◌^◌, ◌≤◌, ◌<◌}
use native.Mathlib.Nat.{eq-or-lt_of_le, mod-lt}
use native.Mathlib.Omega.{arith}
use lib.Dec.{leb, ltb, lit<}
use lib.Pow.{pow_pos}
use lib.Ieee.{Float, nan, inf, fin, binary32, hid, ones, top, is_nan, of_bits, below, lt}
use lib.Ieee.Bits.{nan_bits_is, nan_bits_above}
use lib.Ieee.Exact.{HasValue}
use borrow.Author.Tests.{ltb-true, ltb-false, lt-ltb, le-ltb}
use Rattle.float.specs.Fields.{val, place_of}
use Rattle.float.proofs.Patterns.{bits_val, bits_inf}
use Rattle.float.proofs.Magnitudes.{val_mono, val-le, val_pos}
use Rattle.float.proofs.Order.{below_scale}
use Rattle.float.proofs.Exactly.{lt_at}

-- ---- whether a pattern is a NaN's
pub nan_test : (m : ℕ) → is_nan (of_bits binary32 m) ≡ ltb (ones binary32 * hid binary32) (m % top binary32)
nan_test m = sym (nan_bits_is binary32 m) ∙ nan_bits_above binary32 m

-- two tests of which each follows from the other
alike : (a b c d : ℕ) → (a < b → c < d) → (b ≤ a → d ≤ c) → ltb c d ≡ ltb a b
alike a b c d h k = go (ltb a b) refl
  where
    go : (t : Bool) → ltb a b ≡ t → ltb c d ≡ t
    go true e = lt-ltb c d (h (ltb-true a b e))
    go false e = le-ltb c d (k (ltb-false a b e))

-- ---- numbers are in the order of their magnitudes
below_val : (s : Bool) (a : ℕ) (t : Bool) (b : ℕ) → below s (val binary32 a) t (val binary32 b) ≡ below s a t b
below_val false a false b = alike a b (val binary32 a) (val binary32 b) (val_mono binary32 a b) (val-le binary32 b a)
below_val false a true b = refl
below_val true a true b = alike b a (val binary32 b) (val binary32 a) (val_mono binary32 b a) (val-le binary32 a b)
below_val true a false b = alike 0 (a + b) 0 (val binary32 a + val binary32 b) some none
  where
    either : (a b : ℕ) → 0 < a + b → (0 < a) ⊎ (0 < b)
    either a b h = go (ltb 0 a) refl
      where
        go : (t : Bool) → ltb 0 a ≡ t → (0 < a) ⊎ (0 < b)
        go true e = inl (ltb-true 0 a e)
        go false e = inr (let k = ltb-false 0 a e in omega arith)

    first : (x y : ℕ) → 0 < x → 0 < x + y
    first x y h = omega arith

    second : (x y : ℕ) → 0 < y → 0 < x + y
    second x y h = omega arith

    some : 0 < a + b → 0 < val binary32 a + val binary32 b
    some h = elim (either a b h) [
      | inl l ↦ first (val binary32 a) (val binary32 b) (val_pos a l)
      | inr l ↦ second (val binary32 a) (val binary32 b) (val_pos b l)
    ]

    both : (x y : ℕ) → x ≤ 0 → y ≤ 0 → x + y ≤ 0
    both x y h k = omega arith

    parts : (a b : ℕ) → a + b ≤ 0 → (a ≤ 0) × (b ≤ 0)
    parts a b h = omega arith

    none : a + b ≤ 0 → val binary32 a + val binary32 b ≤ 0
    none h = both (val binary32 a) (val binary32 b) (val-le binary32 a 0 (parts a b h).0) (val-le binary32 b 0 (parts a b h).1)

-- ---- and so are the infinities
abbrev I : ℕ
I = ones binary32 * hid binary32

lt-beyond : (x : Float) (s t : Bool) (n c : ℕ) → HasValue x s n c → (lt x (inf t) ≡ not t) × (lt (inf t) x ≡ t)
unfolding lt
lt-beyond nan s t n c v = absurd v
lt-beyond (inf u) s t n c v = absurd v
lt-beyond (fin u m e) s t n c v = (refl, refl)

lt_both : (s t : Bool) → lt (inf s) (inf t) ≡ below s I t I
unfolding lt
lt_both true true = refl
lt_both true false = refl
lt_both false true = refl
lt_both false false = refl

under : (s : Bool) (a : ℕ) (t : Bool) → a < I → not t ≡ below s a t I
under false a false h = sym (lt-ltb a I h)
under false a true h = refl
under true a false h = sym (lt-ltb 0 (a + I) (omega arith))
under true a true h = sym (le-ltb I a (omega arith))

above : (s t : Bool) (b : ℕ) → b < I → s ≡ below s I t b
above false false b h = sym (le-ltb I b (omega arith))
above false true b h = refl
above true false b h = sym (lt-ltb 0 (I + b) (omega arith))
above true true b h = sym (lt-ltb b I h)

lt_bits : (m n : ℕ) → m % top binary32 ≤ I → n % top binary32 ≤ I → lt (of_bits binary32 m) (of_bits binary32 n) ≡ below (leb (top binary32) m) (m % top binary32) (leb (top binary32) n) (n % top binary32)
lt_bits m n h k = go (eq-or-lt_of_le h) (eq-or-lt_of_le k)
  where
    a : ℕ
    a = m % top binary32

    b : ℕ
    b = n % top binary32

    s : Bool
    s = leb (top binary32) m

    t : Bool
    t = leb (top binary32) n

    go : (a ≡ I) ⊎ (a < I) → (b ≡ I) ⊎ (b < I) → lt (of_bits binary32 m) (of_bits binary32 n) ≡ below s a t b
    go (inr x) (inr y) =
        lt_at (of_bits binary32 m) (of_bits binary32 n) s t (val binary32 a) (2 ^ 149) (val binary32 b) (2 ^ 149) (pow_pos 149) (pow_pos 149) (bits_val binary32 m x) (bits_val binary32 n y)
        ∙ below_scale s (val binary32 a) t (val binary32 b) (2 ^ 149) (pow_pos 149) ∙ below_val s a t b
    go (inr x) (inl e) =
        ap (lt (of_bits binary32 m)) (bits_inf binary32 n e) ∙ (lt-beyond (of_bits binary32 m) s t (val binary32 a) (2 ^ 149) (bits_val binary32 m x)).0 ∙ under s a t x ∙ ap (below s a t) (sym e)
    go (inl e) (inr y) =
        ap (λ (x : Float). lt x (of_bits binary32 n)) (bits_inf binary32 m e) ∙ (lt-beyond (of_bits binary32 n) t s (val binary32 b) (2 ^ 149) (bits_val binary32 n y)).1 ∙ above s t b y ∙ ap (λ (x : ℕ). below s x t b) (sym e)
    go (inl e) (inl f) =
        ap (λ (x : Float). lt x (of_bits binary32 n)) (bits_inf binary32 m e) ∙ ap (lt (inf s)) (bits_inf binary32 n f) ∙ lt_both s t ∙ ap (λ (x : ℕ). below s x t I) (sym e) ∙ ap (below s a t) (sym f)

-- ---- places
places : (s : Bool) (a : ℕ) (t : Bool) (b : ℕ) → a < 2147483648 → b < 2147483648
    → ltb (cond s (2147483648 - a) (2147483648 + a)) (cond t (2147483648 - b) (2147483648 + b)) ≡ below s a t b
places false a false b h k = alike a b (2147483648 + a) (2147483648 + b) (λ l. omega arith) (λ l. omega arith)
places false a true b h k = le-ltb (2147483648 + a) (2147483648 - b) (omega arith)
places true a false b h k = alike 0 (a + b) (2147483648 - a) (2147483648 + b) (λ l. omega arith) (λ l. omega arith)
places true a true b h k = alike b a (2147483648 - a) (2147483648 - b) (λ l. omega arith) (λ l. omega arith)

-- a pattern of no NaN has a magnitude up to the infinity's
number : (m : ℕ) → is_nan (of_bits binary32 m) ≡ false → m % top binary32 ≤ ones binary32 * hid binary32
number m e = ltb-false (ones binary32 * hid binary32) (m % top binary32) (sym (nan_test m) ∙ e)

pub lt_places : (m n : ℕ) → is_nan (of_bits binary32 m) ≡ false → is_nan (of_bits binary32 n) ≡ false → ltb (place_of m) (place_of n) ≡ lt (of_bits binary32 m) (of_bits binary32 n)
lt_places m n h k =
    places (leb (top binary32) m) (m % top binary32) (leb (top binary32) n) (n % top binary32) (mod-lt m (lit< tt)) (mod-lt n (lit< tt)) ∙ sym (lt_bits m n (number m h) (number n k))
