-- The places of the first sweep's modules are whole halves, and their sums are exact: each is one of 21 places on its axis. Assumes nothing.
use mathlib.Core.Path.{◌≡◌, refl, sym, ap, ◌∙◌, subst}
use mathlib.Core.Bool.{Bool, true, false, cond}
use Prim.Native.Nat.{ℕ, suc, ◌+◌, ◌-◌, ◌*◌, ◌≤◌, ◌<◌}
use native.Mathlib.Nat.{zero-add, sub-zero}
use native.Mathlib.Omega.{arith}
use lib.Dec.{ltb, lit<, lit≤}
use lib.Ieee.{Float, binary32, round, neg, sub, of_int, of_bits, of_fields, odd}
use lib.Ieee.Exact.{HasValue}
use lib.Ieee.Back.{round_whole}
use lib.Count.{count_trailing_zeros}
use borrow.Author.Tests.{ltb-true, ltb-false, lt-ltb, le-ltb, le-leb, lt-leb}
use Rattle.float.specs.Steps.{◌⊕◌, ◌⊖◌, ◌⊗◌, whole32}
use Rattle.float.specs.Constants.{f0, f1/2, f6_5}
use Rattle.float.proofs.Exactly.{rescale, small_exact, mul_is, add_is, of_int_value}
use Rattle.alignment.specs.Template.{signed32, along}
use Rattle.alignment.specs.Known.{half_at}

-- ---- values

less_low : (k n : ℕ) → k < n → n ≤ 16777216 → HasValue (signed32 k n) true (n - k) 1
unfolding signed32 of_int
less_low k n h l = rw (lt-leb n k h) (subst (λ (z : ℕ). HasValue (round binary32 true z 1) true (n - k) 1) e (round_whole binary32 true (n - k) (omega arith)))
  where
    e : n - k ≡ suc (n - suc k)
    e = omega arith

less_high : (k n : ℕ) → n ≤ k → k ≤ 16777216 → HasValue (signed32 k n) false (k - n) 1
unfolding signed32 of_int
less_high k n h l = rw (le-leb n k h) (round_whole binary32 false (k - n) (omega arith))

half_value : HasValue f1/2 false 1 2
unfolding of_bits of_fields odd count_trailing_zeros
half_value = (refl, refl)

none_value : HasValue f0 false 0 2
unfolding of_bits of_fields odd count_trailing_zeros
none_value = (refl, refl)

six_value : HasValue (neg f6_5) true 13 2
unfolding of_bits of_fields odd count_trailing_zeros neg
six_value = (refl, refl)

-- n / 2, with a sign
halved : (s : Bool) (x : Float) (n : ℕ) → n < 16777216 → HasValue x s n 1 → x ⊗ f1/2 ≡ round binary32 s n 2
halved true x n l v = mul_is binary32 x f1/2 true false n 1 1 2 (lit< tt) (lit< tt) v half_value ∙ ap (λ (z : ℕ). round binary32 true z 2) (omega arith)
halved false x n l v = mul_is binary32 x f1/2 false false n 1 1 2 (lit< tt) (lit< tt) v half_value ∙ ap (λ (z : ℕ). round binary32 false z 2) (omega arith)

halves_value : (s : Bool) (n : ℕ) → n < 16777216 → HasValue (round binary32 s n 2) s n 2
halves_value s n l = small_exact s n 1 l (lit≤ tt)

-- a half place moved by so many halves
moved : (n r b : ℕ) (y : Float) (s : Bool) → HasValue y s b 2 → cond s (r + b) (n + b) ≡ cond s n r → n < 16777216 → round binary32 false n 2 ⊕ y ≡ round binary32 false r 2
moved n r b y false v e l = add_is binary32 (round binary32 false n 2) y false n b 2 (lit< tt) (halves_value false n l) v ∙ ap (λ (z : ℕ). round binary32 false z 2) e
moved n r b y true v e l =
    add_is binary32 (round binary32 false n 2) y true n b 2 (lit< tt) (halves_value false n l) v
    ∙ ap (λ (z : Bool). cond z (round binary32 true (b - n) 2) (round binary32 false (n - b) 2)) (le-ltb n b (omega arith))
    ∙ ap (λ (z : ℕ). round binary32 false z 2) (omega arith)

-- ---- the places

pub half_is : (n : ℕ) → n < 16777216 → half_at n ≡ round binary32 false n 2
half_is n l = halved false (whole32 n) n l (of_int_value binary32 n (omega arith))

centre_is : (side : ℕ) → 7 ≤ side → side ≤ 4096 → whole32 side ⊖ f6_5 ≡ round binary32 false (2 * side - 13) 2
unfolding sub
centre_is side h l =
    add_is binary32 (whole32 side) (neg f6_5) true (2 * side) 13 2 (lit< tt) (rescale (whole32 side) false side 1 (2 * side) 2 (lit< tt) (omega arith) (of_int_value binary32 side (omega arith))) six_value
    ∙ ap (λ (z : Bool). cond z (round binary32 true (13 - 2 * side) 2) (round binary32 false (2 * side - 13) 2)) (le-ltb (2 * side) 13 (omega arith))

-- place k of 13, half a module apart, about 0
along_value : (k : ℕ) → k < 13 → HasValue (along 13 f1/2 f0 k) (ltb k 6) ((k - 6) + (6 - k)) 2
along_value k l = go (ltb k 6) refl
  where
    go : (v : Bool) → ltb k 6 ≡ v → HasValue (along 13 f1/2 f0 k) v ((k - 6) + (6 - k)) 2
    go true h =
        let g = ltb-true k 6 h in
        let e : (k - 6) + (6 - k) ≡ 6 - k = omega arith in
        let p = halved true (signed32 k 6) (6 - k) (omega arith) (less_low k 6 g (omega arith)) in
        let q = add_is binary32 f0 (round binary32 true (6 - k) 2) true 0 (6 - k) 2 (lit< tt) none_value (halves_value true (6 - k) (omega arith)) in
        rw (p, q, lt-ltb 0 (6 - k) (omega arith), sub-zero (6 - k), e) (halves_value true (6 - k) (omega arith))
    go false h =
        let g = ltb-false k 6 h in
        let e : (k - 6) + (6 - k) ≡ k - 6 = omega arith in
        let p = halved false (signed32 k 6) (k - 6) (omega arith) (less_high k 6 g (omega arith)) in
        let q = add_is binary32 f0 (round binary32 false (k - 6) 2) false 0 (k - 6) 2 (lit< tt) none_value (halves_value false (k - 6) (omega arith)) in
        rw (p, q, zero-add (k - 6), e) (halves_value false (k - 6) (omega arith))

-- column i of the marker, in halves
column_value : (i : ℕ) → i < 5 → HasValue (signed32 i 2) (ltb i 2) (2 * ((i - 2) + (2 - i))) 2
column_value i l = go (ltb i 2) refl
  where
    go : (v : Bool) → ltb i 2 ≡ v → HasValue (signed32 i 2) v (2 * ((i - 2) + (2 - i))) 2
    go true h = let g = ltb-true i 2 h in rescale (signed32 i 2) true (2 - i) 1 (2 * ((i - 2) + (2 - i))) 2 (lit< tt) (omega arith) (less_low i 2 g (omega arith))
    go false h = let g = ltb-false i 2 h in rescale (signed32 i 2) false (i - 2) 1 (2 * ((i - 2) + (2 - i))) 2 (lit< tt) (omega arith) (less_high i 2 g (omega arith))

-- n moved to r by k - 6, and by 2 * (i - 2)
by_place : (n r k : ℕ) → n + k ≡ r + 6 → 6 ≤ n → cond (ltb k 6) (r + ((k - 6) + (6 - k))) (n + ((k - 6) + (6 - k))) ≡ cond (ltb k 6) n r
by_place n r k e l = go (ltb k 6) refl
  where
    go : (v : Bool) → ltb k 6 ≡ v → cond v (r + ((k - 6) + (6 - k))) (n + ((k - 6) + (6 - k))) ≡ cond v n r
    go true h = let g = ltb-true k 6 h in omega arith
    go false h = let g = ltb-false k 6 h in omega arith

by_column : (n r i : ℕ) → n + 2 * i ≡ r + 4 → 4 ≤ n → cond (ltb i 2) (r + 2 * ((i - 2) + (2 - i))) (n + 2 * ((i - 2) + (2 - i))) ≡ cond (ltb i 2) n r
by_column n r i e l = go (ltb i 2) refl
  where
    go : (v : Bool) → ltb i 2 ≡ v → cond v (r + 2 * ((i - 2) + (2 - i))) (n + 2 * ((i - 2) + (2 - i))) ≡ cond v n r
    go true h = let g = ltb-true i 2 h in omega arith
    go false h = let g = ltb-false i 2 h in omega arith

-- column i of a marker at place k of the first sweep
pub place_is : (side k i : ℕ) → 12 ≤ side → side ≤ 4096 → k < 13 → i < 5
    → whole32 side ⊖ f6_5 ⊕ along 13 f1/2 f0 k ⊕ signed32 i 2 ≡ half_at (2 * side - 23 + (k + 2 * i))
place_is side k i h l p q =
    let n = 2 * side - 13 in
    let m = 2 * side - 19 + k in
    let r = 2 * side - 23 + (k + 2 * i) in
    ap (λ (z : Float). z ⊕ along 13 f1/2 f0 k ⊕ signed32 i 2) (centre_is side (omega arith) l)
    ∙ ap (λ (z : Float). z ⊕ signed32 i 2) (moved n m _ (along 13 f1/2 f0 k) (ltb k 6) (along_value k p) (by_place n m k (omega arith) (omega arith)) (omega arith))
    ∙ moved m r _ (signed32 i 2) (ltb i 2) (column_value i q) (by_column m r i (omega arith) (omega arith)) (omega arith)
    ∙ sym (half_is r (omega arith))
