-- The digits that `io` gives, and those of the definitions. Assumes nothing.
use mathlib.Core.Path.{◌≡◌, refl, ap, ◌∙◌}
use mathlib.Core.Bool.{Bool, true, false}
use mathlib.Core.List.{List, [], ◌∷◌, ◌++◌}
use Prim.Native.Nat.{ℕ, zero, suc, ◌+◌, ◌-◌, ◌*◌, ◌/◌, ◌%◌, ◌^◌, ◌≤◌, ◌<◌}
use native.Mathlib.Nat.{pow-suc, pow-le-pow_right}
use native.Mathlib.Omega.{arith}
use lib.Dec.{ltb}
use lib.ListN.{length, take, length-append}
use borrow.Author.Tests.{lt-ltb, le-ltb, ltb-true, ltb-false}
use Rattle.io.specs.Digits.{hex_digit_ascii, last_digits, IsDigitCount}
use Rattle.listing_text.specs.declared.pieces.Text.{Text}
use Rattle.listing_text.specs.Inner.{Adds}
use Rattle.listing_text.proofs.Writing.{adds_as}
use Rattle.listing_text.specs.Text.{hex_text, decimal_up_to, decimal_text}

length_digits : (b k n : ℕ) → length (last_digits b k n) ≡ k
length_digits b zero n = refl
length_digits b (suc k) n = omega (arith, length-append (last_digits b k (n / b)) (hex_digit_ascii (n % b) ∷ []), length_digits b k (n / b))

-- ---- how many: as many as hold the number, and no fewer than are asked for
at_most : (b m w n k : ℕ) → IsDigitCount b w n k → 1 < b → w ≤ m → n < b ^ m → k ≤ m
at_most b m w n k f p l h = go (ltb m k) refl
  where
    go : (t : Bool) → ltb m k ≡ t → k ≤ m
    go false e = ltb-false m k e
    go true e =
        let u = ltb-true m k e in
        let v : m ≤ k - 1 = omega (arith, u) in
        let q : b ^ m ≤ b ^ (k - 1) = pow-le-pow_right (omega arith) v in
        let g : b ^ (k - 1) ≤ n = f.2 (omega (arith, u, l)) in
        absurd (omega (arith, q, g, h))

few : (b w n k : ℕ) → 1 < b → n < b ^ w → IsDigitCount b w n k → k ≡ w
few b w n k p h f = omega (arith, f.0, at_most b w w n k f p (omega arith) h)

-- ---- decimal
decimal_step : (k m n : ℕ) → k < m → n < 10 ^ suc k → (0 < k → 10 ^ k ≤ n) → last_digits 10 (suc k) n ≡ decimal_up_to m n
unfolding decimal_up_to
decimal_step k zero n h l g = absurd (omega arith)
decimal_step zero (suc m) n h l g =
    let p : n < 10 = l in
    rw (lt-ltb n 10 p)
decimal_step (suc k) (suc m) n h l g =
    let s : 10 ^ suc k ≡ 10 ^ k * 10 = pow-suc 10 k in
    let t : 10 ^ suc (suc k) ≡ 10 ^ suc k * 10 = pow-suc 10 (suc k) in
    let one : 1 ≤ 10 ^ k = pow-le-pow_right {n = 10} (omega arith) {i = 0} {j = k} (omega arith) in
    let big : 10 ^ suc k ≤ n = g (omega arith) in
    let q : 10 ≤ n = omega (arith, s, one, big) in
    let u : n / 10 < 10 ^ suc k = omega (arith, t, l) in
    let v : 10 ^ k ≤ n / 10 = omega (arith, s, big) in
    rw (le-ltb n 10 q) (ap (λ z. z ++ (hex_digit_ascii (n % 10) ∷ [])) (decimal_step k m (n / 10) (omega arith) u (λ _. v)))

decimal_is : (n k : ℕ) → k ≤ 20 → IsDigitCount 10 1 n k → last_digits 10 k n ≡ decimal_text n
decimal_is n zero h f = absurd (omega (arith, f.0))
decimal_is n (suc k) h f =
    let e : suc k - 1 ≡ k = omega arith in
    let g : 0 < k → 10 ^ k ≤ n = λ p. (rw e at (f.2 (omega arith))) in
    decimal_step k 20 n (omega arith) f.1 g

-- a number of 64 bits has twenty digits at most
twenty_at_most : (n k : ℕ) → n < 2 ^ 64 → IsDigitCount 10 1 n k → k ≤ 20
twenty_at_most n k h f = at_most 10 20 1 n k f (omega arith) (omega arith) (omega (arith, h))

-- ---- the fields
pub decimal_adds : (n k end : ℕ) (out : List ℕ) {a b : Text} → n < 2 ^ 64 → IsDigitCount 10 1 n k → take k out ≡ last_digits 10 k n
    → Adds (take k out ++ (end ∷ [])) (length (take k out) + 1) a b → Adds (decimal_text n ++ (end ∷ [])) 21 a b
decimal_adds n k end out h f e w =
    let t = twenty_at_most n k h f in
    let x : length (take k out) ≡ k = ap length e ∙ length_digits 10 k n in
    adds_as (ap (λ z. z ++ (end ∷ [])) (e ∙ decimal_is n k t f)) (omega (arith, t, x)) w

pub hex_adds : (w n k end : ℕ) (out : List ℕ) {a b : Text} → n < 16 ^ w → IsDigitCount 16 w n k → take k out ≡ last_digits 16 k n
    → Adds (take k out ++ (end ∷ [])) (length (take k out) + 1) a b → Adds (hex_text w n ++ (end ∷ [])) (w + 1) a b
unfolding hex_text
hex_adds w n k end out h f e p =
    let t = few 16 w n k (omega arith) h f in
    let x : length (take k out) ≡ k = ap length e ∙ length_digits 16 k n in
    adds_as (ap (λ z. z ++ (end ∷ [])) (e ∙ ap (λ z. last_digits 16 z n) t)) (omega (arith, t, x)) p
