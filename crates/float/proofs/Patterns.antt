-- What a bit pattern stands for, by its sign and its magnitude, for both formats: a finite value, an infinity or a NaN. Assumes nothing.
use mathlib.Core.Path.{◌≡◌, refl, sym, ap, ◌∙◌, subst}
use Prim.Native.Nat.{ℕ, zero, suc, ◌+◌, ◌-◌, ◌*◌, ◌/◌, ◌%◌, ◌^◌, ◌≤◌, ◌<◌}
use native.Mathlib.Omega.{arith}
use mathlib.Core.Bool.{Bool, true, false, cond, true≢false}
use lib.Dec.{leb, eqb}
use lib.Ieee.{Float, nan, inf, fin, Format, binary32, binary64, prec, low, odd, is_nan, hid, ones, top, of_fields, of_bits}
use lib.Ieee.Bits.{nan_bits_is, nan_bits_above}
use lib.Ieee.Exact.{HasValue, odd_sign}
use borrow.Author.Tests.{lt-ltb, le-ltb, le-leb, lt-leb, ne_eqb}
use Rattle.float.specs.Fields.{expo, val}

-- ---- numbers of the two formats, by computing. hid is 2 ^ (prec - 1), top is hid * (ones + 1), and the infinity's magnitude is ones * hid

low_part : (f : Format) (b : ℕ) → b % hid f ≡ b % top f % hid f
low_part binary32 b = omega arith
low_part binary64 b = omega arith

pub top_above : (f : Format) (a : ℕ) → a ≤ ones f * hid f → a < top f
top_above binary32 a h = omega arith
top_above binary64 a h = omega arith

sign_clear : (f : Format) (a : ℕ) → a < top f → (0 + a) % top f ≡ a
sign_clear binary32 a h = omega arith
sign_clear binary64 a h = omega arith

sign_set : (f : Format) (a : ℕ) → a < top f → (top f + a) % top f ≡ a
sign_set binary32 a h = omega arith
sign_set binary64 a h = omega arith

top-le : (f : Format) (a : ℕ) → top f ≤ top f + a
top-le binary32 a = omega arith
top-le binary64 a = omega arith

plain : (a c : ℕ) → a < c → 0 + a < c
plain a c h = omega arith

-- a pattern made of a sign and a magnitude
abbrev pub with_sign : Format → Bool → ℕ → ℕ
with_sign f s a = cond s (top f) 0 + a

pub sign_of : (f : Format) (s : Bool) (a : ℕ) → a < top f → leb (top f) (with_sign f s a) ≡ s
sign_of f true a h = le-leb (top f) (top f + a) (top-le f a)
sign_of f false a h = lt-leb (top f) (0 + a) (plain a (top f) h)

pub mag_of : (f : Format) (s : Bool) (a : ℕ) → a < top f → with_sign f s a % top f ≡ a
mag_of f true a h = sign_set f a h
mag_of f false a h = sign_clear f a h

-- ---- a magnitude by its two fields

abbrev at : Format → ℕ → ℕ → ℕ
at f zero t = t * 2 ^ 0
at f (suc x) t = (hid f + t) * 2 ^ x

first_field : (f : Format) (a : ℕ) → a / hid f ≡ 0 → (a < hid f) × (a ≡ a % hid f)
first_field binary32 a h = omega arith
first_field binary64 a h = omega arith

later_field : (f : Format) (a x : ℕ) → a / hid f ≡ suc x → hid f ≤ a
later_field binary32 a x h = omega arith
later_field binary64 a x h = omega arith

pred-suc : (y x : ℕ) → y ≡ suc x → y - 1 ≡ x
pred-suc y x h = omega arith

val_at : (f : Format) (a x : ℕ) → a / hid f ≡ x → val f a ≡ at f x (a % hid f)
val_at f a zero e =
    let k = first_field f a e in
    ap (λ (b : Bool). cond b a (hid f + a % hid f) * 2 ^ expo f a) (lt-ltb a (hid f) k.0) ∙ ap (λ (y : ℕ). a * 2 ^ (y - 1)) e ∙ ap (λ (y : ℕ). y * 2 ^ 0) k.1
val_at f a (suc x) e =
    ap (λ (b : Bool). cond b a (hid f + a % hid f) * 2 ^ expo f a) (le-ltb a (hid f) (later_field f a x e)) ∙ ap (λ (y : ℕ). (hid f + a % hid f) * 2 ^ y) (pred-suc (a / hid f) x e)

below_ones : (f : Format) (a : ℕ) → a < ones f * hid f → a / hid f < ones f
below_ones binary32 a h = omega arith
below_ones binary64 a h = omega arith

differ : (x c : ℕ) → x < c → x ≡ c → ⊥
differ x c h e = omega arith

fields_val : (f : Format) (s : Bool) (x t : ℕ) → x < ones f → HasValue (of_fields f s x t) s (at f x t) (2 ^ low f)
unfolding of_fields
fields_val f s zero t h = odd_sign (prec f) s t 0 (low f)
fields_val f s (suc x) t h =
    subst (λ (b : Bool). HasValue (cond b (cond (eqb t 0) (inf s) nan) (odd (prec f) s (hid f + t) x (low f))) s ((hid f + t) * 2 ^ x) (2 ^ low f))
    (sym (ne_eqb (suc x) (ones f) (differ (suc x) (ones f) h)))
    (odd_sign (prec f) s (hid f + t) x (low f))

pub of_bits_is : (f : Format) (b : ℕ) → of_bits f b ≡ of_fields f (leb (top f) b) (b % top f / hid f) (b % top f % hid f)
unfolding of_bits
of_bits_is f b = ap (λ (t : ℕ). of_fields f (leb (top f) b) (b % top f / hid f) t) (low_part f b)

-- what a pattern stands for: a finite value, an infinity or a NaN, by its magnitude
pub bits_val : (f : Format) (b : ℕ) → b % top f < ones f * hid f → HasValue (of_bits f b) (leb (top f) b) (val f (b % top f)) (2 ^ low f)
bits_val f b h =
    let a = b % top f in
    subst (λ (v : Float). HasValue v (leb (top f) b) (val f a) (2 ^ low f)) (sym (of_bits_is f b))
    (subst (λ (n : ℕ). HasValue (of_fields f (leb (top f) b) (a / hid f) (a % hid f)) (leb (top f) b) n (2 ^ low f)) (sym (val_at f a (a / hid f) refl))
    (fields_val f (leb (top f) b) (a / hid f) (a % hid f) (below_ones f a h)))

-- where the sign's bit is clear
pub plain-val : (b : ℕ) → b < ones binary32 * hid binary32 → HasValue (of_bits binary32 b) false (val binary32 b) (2 ^ 149)
plain-val b l =
    let w : b < top binary32 = omega arith in
    let e : b % top binary32 ≡ b = omega arith in
    subst (λ (x : ℕ). HasValue (of_bits binary32 b) false (val binary32 x) (2 ^ 149)) e
    (subst (λ (s : Bool). HasValue (of_bits binary32 b) s (val binary32 (b % top binary32)) (2 ^ 149)) (lt-leb (top binary32) b w)
    (bits_val binary32 b (subst (λ (x : ℕ). x < ones binary32 * hid binary32) (sym e) l)))

inf_fields : (f : Format) (s : Bool) (a : ℕ) → a ≡ ones f * hid f → of_fields f s (a / hid f) (a % hid f) ≡ inf s
unfolding of_fields
inf_fields binary32 s a e = ap (λ (x : ℕ). of_fields binary32 s (x / hid binary32) (x % hid binary32)) e
inf_fields binary64 s a e = ap (λ (x : ℕ). of_fields binary64 s (x / hid binary64) (x % hid binary64)) e

pub bits_inf : (f : Format) (b : ℕ) → b % top f ≡ ones f * hid f → of_bits f b ≡ inf (leb (top f) b)
bits_inf f b e = of_bits_is f b ∙ inf_fields f (leb (top f) b) (b % top f) e

nan_only : (v : Float) → is_nan v ≡ true → v ≡ nan
unfolding is_nan
nan_only nan h = refl
nan_only (inf s) h = absurd (true≢false (sym h))
nan_only (fin s m e) h = absurd (true≢false (sym h))

pub bits_nan : (f : Format) (b : ℕ) → ones f * hid f < b % top f → of_bits f b ≡ nan
bits_nan f b h = nan_only (of_bits f b) (sym (nan_bits_is f b) ∙ nan_bits_above f b ∙ lt-ltb (ones f * hid f) (b % top f) h)
