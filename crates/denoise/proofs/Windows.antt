-- Laws of the nine-bit window, and of eight pixels at a time. Assumes nothing.
use mathlib.Core.Path.{◌≡◌, refl, ap, ◌∙◌}
use mathlib.Core.Bool.{Bool, true, false, cond}
use mathlib.Core.List.{List}
use Prim.Native.Nat.{ℕ, ◌+◌, ◌-◌, ◌*◌, ◌/◌, ◌%◌, ◌^◌, ◌≤◌, ◌<◌}
use native.Mathlib.Nat.{zero-add, mod-eq_of_lt, div-add-mod'}
use native.Mathlib.Numerals.{add-one}
use native.Mathlib.Omega.{arith}
use lib.ListN.{length, get_or}
use lib.Pow.{shr-shr, low}
use lib.Arith.{digits_div, digits_mod}
use borrow.Author.Tests.{lt-ltb, le-ltb}
use Rattle.binary.specs.Binary.{bit, dark_bit, word, byte_of}
use Rattle.binary.proofs.Bits.{bit_one, word_bound, word_low, dark_past, digit}
use Rattle.binary.proofs.Words.{word_same, word_light, word-append, word_part, word_digit, word_digits, byte_word}
use Rattle.denoise.specs.Denoise.{inside}
use Rattle.denoise.specs.Window.{behind_pad, bit_at, chosen_at, pad_of, stretch}

-- ---- the picture behind light bytes
module _ (pad : ℕ) (b : List ℕ) where
  pub behind-at : (k : ℕ) → behind_pad pad b (pad * 8 + k) ≡ dark_bit b k
  unfolding behind_pad
  behind-at k = let e : pad * 8 + k - pad * 8 ≡ k = omega arith in rw (le-ltb (pad * 8 + k) (pad * 8) (omega arith), e)

  pub front_byte : (i : ℕ) → i < pad → byte_of (behind_pad pad b) i ≡ 0
  unfolding behind_pad
  front_byte i h = word_light (behind_pad pad b) (i * 8) 8 (λ k l. rw (lt-ltb (i * 8 + k) (pad * 8) (omega arith)))

  -- byte i of it is the picture's byte i - pad
  later_byte : (i : ℕ) → pad ≤ i → byte_of (behind_pad pad b) i ≡ byte_of (dark_bit b) (i - pad)
  later_byte i h = word_same (behind_pad pad b) (dark_bit b) (i * 8) ((i - pad) * 8) 8 (λ k l.
      let e : i * 8 + k ≡ pad * 8 + ((i - pad) * 8 + k) = omega arith in
      ap (behind_pad pad b) e ∙ behind-at ((i - pad) * 8 + k))

  pub past_byte : (i : ℕ) → pad ≤ i → length b ≤ i - pad → byte_of (behind_pad pad b) i ≡ 0
  past_byte i h l = later_byte i h ∙ word_light (dark_bit b) ((i - pad) * 8) 8 (λ k m. dark_past b ((i - pad) * 8 + k) (omega arith))

  pub inner_byte : (i : ℕ) → pad ≤ i → get_or b (i - pad) 0 < 256 → byte_of (behind_pad pad b) i ≡ get_or b (i - pad) 0
  inner_byte i h l = later_byte i h ∙ byte_word b (i - pad) l

pub ruleset byte_steps = (front_byte, past_byte, inner_byte)

-- ---- bytes in a row
module _ (p : ℕ → Bool) (i : ℕ) where
  pub byte_small : byte_of p i < 256
  byte_small = word_bound p (i * 8) 8

  pub two_bytes : word p (i * 8) 16 ≡ byte_of p i * 256 + byte_of p (i + 1)
  two_bytes = let e : i * 8 + 8 ≡ (i + 1) * 8 = omega arith in word-append p (i * 8) 8 8 ∙ rw e

  pub three_bytes_lem : word p (i * 8) 24 ≡ word p (i * 8) 16 * 256 + byte_of p (i + 2)
  three_bytes_lem = let e : i * 8 + 16 ≡ (i + 2) * 8 = omega arith in word-append p (i * 8) 16 8 ∙ rw e

  -- the last two of three bytes
  pub last_two : (two last : ℕ) → two ≡ word p (i * 8) 16 → last ≡ byte_of p (i + 2) → (two * 256 + last) % 65536 ≡ word p ((i + 1) * 8) 16
  last_two two last e q =
      let next : i * 8 + 8 ≡ (i + 1) * 8 = omega arith in
      rw (e, q, ← three_bytes_lem, word-append p (i * 8) 8 16, next) (low (word p (i * 8) 8) 16 (word_bound p ((i + 1) * 8) 16))

  -- three pixels of three bytes, of which those after the tenth from pixel f on are cut off
  pub three_pixels : (f k : ℕ) → f < 8 → k < 8 → word p (i * 8) 24 / 2 ^ (14 - f) / 2 ^ (7 - k) % 8 ≡ word p (i * 8 + f + k) 3
  three_pixels f k h l =
      let all : 24 ≡ f + k + 3 + (14 - f + (7 - k)) = omega arith in
      let at : i * 8 + (f + k) ≡ i * 8 + f + k = omega arith in
      rw (shr-shr, all) (word_part p (i * 8) (f + k) 3 (14 - f + (7 - k)) ∙ rw at)

-- ---- a row's bytes as they are read, where pad light bytes are in front and the row starts at pixel f
module _ (b : List ℕ) (w pad first f bytes : ℕ) (p : pad ≡ pad_of w) (q : first ≡ f) where
  pub read_two : bytes ≡ word (behind_pad pad b) (first / 8 * 8) 16 → bytes % 65536 ≡ stretch b w 0 16 f
  read_two e = rw (zero-add, ← p, ← q, e) (mod-eq_of_lt (word_bound (behind_pad pad b) (first / 8 * 8) 16))

  pub read_three : (j : ℕ) → bytes ≡ word (behind_pad pad b) ((j + first / 8) * 8) 24 → bytes ≡ stretch b w j 24 f
  read_three j e = rw (← p, ← q) e

  pub next_two : (j : ℕ) → bytes % 65536 ≡ word (behind_pad pad b) ((j + first / 8 + 1) * 8) 16 → bytes % 65536 ≡ stretch b w (j + 1) 16 f
  next_two j e = let s : j + 1 + first / 8 ≡ j + first / 8 + 1 = omega arith in rw (← p, ← q, s) e

  pub have_two : (j : ℕ) → bytes % 65536 ≡ stretch b w j 16 f → bytes % 65536 ≡ word (behind_pad pad b) ((j + first / 8) * 8) 16
  have_two j e = rw (p, q) e

pub ruleset next_steps = (read_three, next_two, have_two)

-- ---- eight pixels, voted or copied

-- bit i of a word of eight
pub bit-at : (p : ℕ → Bool) (v i : ℕ) → i < 8 → v ≡ word p 0 8 → bit_at v i ≡ p i
bit-at p v i l e =
    let all : 8 ≡ i + 1 + (7 - i) = omega arith in
    let one = ap (λ (n : ℕ). word p 0 n / 2 ^ (7 - i) % 2) all ∙ word_digit p 0 i (7 - i) in
    rw (e, one, zero-add i) (bit_one (p i))

-- bit i of a byte of the picture
pub copy_at : (b : List ℕ) (j i : ℕ) → i < 8 → bit_at (get_or b j 0) i ≡ dark_bit b (j * 8 + i)
unfolding dark_bit
copy_at b j i l =
    let at : (j * 8 + i) / 8 ≡ j = omega arith in
    let place : (j * 8 + i) % 8 ≡ i = omega arith in
    rw (at, place)

-- pixel number n + i of the row in which n stands
row_on : (w n i : ℕ) → n % w + i < w → ((n + i) / w ≡ n / w) × ((n + i) % w ≡ n % w + i)
row_on w n i h =
    let e : n + i ≡ n / w * w + (n % w + i) = omega (arith, div-add-mod' n w) in
    (ap (λ (k : ℕ). k / w) e ∙ digits_div (n / w) h, ap (λ (k : ℕ). k % w) e ∙ digits_mod (n / w) h)

pub all_inside_lem : (w h n : ℕ) → n % w + 8 < w → (n % w ≡ 0 → ⊥) → (n / w ≡ 0 → ⊥) → n / w + 1 < h
    → (i : ℕ) → i < 8 → inside w h ((n + i) % w) ((n + i) / w) ≡ true
unfolding inside
all_inside_lem w h n right left top bottom i l =
    let e = row_on w n i (omega arith) in
    simp (e.0, e.1, lt-ltb 0 (n % w + i) (omega arith), lt-ltb (n % w + i + 1) w (omega arith), lt-ltb 0 (n / w) (omega arith), lt-ltb (n / w + 1) h bottom)

module _ (voted copied w h n : ℕ) where
  -- where all are inside
  pub chosen_all : voted < 256 → ((i : ℕ) → i < 8 → inside w h ((n + i) % w) ((n + i) / w) ≡ true) → word (chosen_at voted copied w h n) 0 8 ≡ voted
  chosen_all small all = word_digits (chosen_at voted copied w h n) 0 8 voted small (λ i r e.
      let place : 7 - i ≡ r = omega arith in
      rw (zero-add i, all i (omega arith), place))

  -- no pixel yet
  pub chosen_none : 0 ≡ word (chosen_at voted copied w h n) 0 0
  unfolding word
  chosen_none = refl

  -- one pixel more
  pub chosen_more : (i byte from : ℕ) → i < 8 → byte ≡ word (chosen_at voted copied w h n) 0 i → from ≡ cond (inside w h ((n + i) % w) ((n + i) / w)) voted copied
      → byte % 128 * 2 + from / 2 ^ (7 - i) % 2 ≡ word (chosen_at voted copied w h n) 0 (i + 1)
  unfolding word
  chosen_more i byte from l e q =
      rw (add-one, zero-add i, e, word_low (chosen_at voted copied w h n) 0 i l, q) (ap (λ (k : ℕ). word (chosen_at voted copied w h n) 0 i * 2 + k) (go (inside w h ((n + i) % w) ((n + i) / w))))
    where
      go : (t : Bool) → cond t voted copied / 2 ^ (7 - i) % 2 ≡ bit (cond t (bit_at voted i) (bit_at copied i))
      go true = digit _ (omega arith)
      go false = digit _ (omega arith)
