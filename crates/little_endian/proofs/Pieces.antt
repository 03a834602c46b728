-- Pieces of bytes put one after the other. Assumes nothing.
use mathlib.Core.Path.{◌≡◌, refl, sym, ap, ◌∙◌}
use mathlib.Core.List.{List, [], ◌∷◌, ◌++◌}
use Prim.Native.Nat.{ℕ, zero, suc, ◌+◌, ◌*◌, ◌/◌, ◌%◌, ◌^◌, ◌≤◌, ◌<◌}
use native.Mathlib.Nat.{add-zero, one-le-pow, pow-suc}
use native.Mathlib.Omega.{arith}
use lib.Arith.{mod-mul}
use lib.ListN.{length, take, get_or, set, length-append}
use lib.Seq.{length-take-le}
use Rattle.lists.specs.Lists.{flat_map}
use Rattle.lists.proofs.Folds.{flat_map-take}
use Rattle.little_endian.specs.Bytes.{bytes_le, put}
use Rattle.little_endian.proofs.Round.{length_bytes}

pub put-append : (xs ys : List ℕ) (i : ℕ) (l : List ℕ) → put (xs ++ ys) i l ≡ put ys (i + length xs) (put xs i l)
unfolding put
put-append [] ys i l = rw add-zero
put-append (x ∷ xs) ys i l = put-append xs ys (i + 1) (set l i x) ∙ ap (λ (k : ℕ). put ys k (put xs (i + 1) (set l i x))) (let e : i + 1 + length xs ≡ i + suc (length xs) = omega arith in e)

-- the second where the first ends
pub put_then : (n : ℕ) (xs ys : List ℕ) (i j : ℕ) (l : List ℕ) → length xs ≡ n → j ≡ i + n → put ys j (put xs i l) ≡ put (xs ++ ys) i l
put_then n xs ys i j l e p = ap (λ z. put ys z (put xs i l)) (p ∙ ap (λ z. i + z) (sym e)) ∙ sym (put-append xs ys i l)

-- pieces g x of n bytes each, those of the first k elements put from a place on: with the next one behind them, those of one element more
abbrev pub OneMore : {A : Type 0} → (A → List ℕ) → ℕ → Type 0
OneMore {A} g n = (xs : List A) (base k : ℕ) (d : A) (l out : List ℕ) → k < length xs → out ≡ put (flat_map g (take k xs)) base l
    → put (g (get_or xs k d)) (base + n * k) out ≡ put (flat_map g (take (k + 1) xs)) base l

module _ {A : Type 0} (g : A → List ℕ) (n : ℕ) (long : (a : A) → length (g a) ≡ n) where
  pub length_flat : (xs : List A) → length (flat_map g xs) ≡ n * length xs
  unfolding flat_map
  length_flat [] = omega arith
  length_flat (x ∷ xs) = omega (arith, length-append (g x) (flat_map g xs), long x, length_flat xs)

  pub piece_more : OneMore g n
  piece_more xs base k d l out h e =
      let m : k ≤ length xs = omega arith in
      let z : length (flat_map g (take k xs)) ≡ n * k = length_flat (take k xs) ∙ ap (λ z. n * z) (length-take-le k xs m) in
      ap (put (g (get_or xs k d)) (base + n * k)) e
      ∙ put_then (n * k) (flat_map g (take k xs)) (g (get_or xs k d)) base (base + n * k) l z refl
      ∙ ap (λ z. put z base l) (sym (flat_map-take g xs k d h))

-- ---- two numbers of four bytes
pub length_pair : (a b : ℕ) → length (bytes_le 4 a ++ bytes_le 4 b) ≡ 8
length_pair a b = length-append (bytes_le 4 a) (bytes_le 4 b) ∙ rw (length_bytes 4 a, length_bytes 4 b)

pub pair_is : (a b i : ℕ) (l : List ℕ) → put (bytes_le 4 b) (i + 4) (put (bytes_le 4 a) i l) ≡ put (bytes_le 4 a ++ bytes_le 4 b) i l
pair_is a b i l = put_then 4 (bytes_le 4 a) (bytes_le 4 b) i (i + 4) l (length_bytes 4 a) refl

-- ---- a count by its lowest bytes, and what stands behind it
lowest : (k n : ℕ) → bytes_le k (n % 256 ^ k) ≡ bytes_le k n
unfolding bytes_le
lowest zero n = refl
lowest (suc k) n =
    let s : n % 256 ^ suc k ≡ n / 256 % 256 ^ k * 256 + n % 256 = rw (pow-suc 256 k) (mod-mul n (one-le-pow k 256 (omega arith)) (omega arith)) in
    let a : n % 256 ^ suc k % 256 ≡ n % 256 = omega (arith, s) in
    let b : n % 256 ^ suc k / 256 ≡ n / 256 % 256 ^ k = omega (arith, s) in
    rw (a, b, lowest k (n / 256))

pub counted : (k n : ℕ) (bs : List ℕ) (at : ℕ) (l : List ℕ) → put bs (at + k) (put (bytes_le k (n % 256 ^ k)) at l) ≡ put (bytes_le k n ++ bs) at l
counted k n bs at l = rw (lowest k n) (put_then k (bytes_le k n) bs at (at + k) l (length_bytes k n) refl)

pub length_counted : (k n : ℕ) (bs : List ℕ) → length (bytes_le k n ++ bs) ≡ k + length bs
length_counted k n bs = omega (arith, length-append (bytes_le k n) bs, length_bytes k n)
