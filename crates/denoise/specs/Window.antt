-- For inner contracts and proofs. The nine-bit window, and eight pixels at a time.
use Rattle.std.specs.Prelude.{ℕ, ◌+◌, ◌-◌, ◌*◌, ◌/◌, ◌%◌, ◌^◌, ◌≡◌, Bool, false, cond, List, eqb, leb, ltb}
use Rattle.std.specs.Int.Count.{ones}
use Rattle.binary.specs.Binary.{dark_bit, word}
use Rattle.denoise.specs.Denoise.{inside}
use Rattle.denoise.specs.declared.Rows.{Rows}

-- pixel k of a picture behind so many light bytes
unfoldable pub behind_pad : ℕ → List ℕ → ℕ → Bool
behind_pad pad b k = cond (ltb k (pad * 8)) false (dark_bit b (k - pad * 8))

-- nine bits: three of each row, those that have t others to their right
abbrev pub nine_bits : ℕ → ℕ → ℕ → ℕ → ℕ
nine_bits above row below t = above / 2 ^ t % 8 * 64 + row / 2 ^ t % 8 * 8 + below / 2 ^ t % 8

-- whether five or more of them are dark
abbrev pub majority_of : ℕ → ℕ → ℕ → ℕ → Bool
majority_of above row below t = leb 5 (ones (nine_bits above row below t))

-- bit i of a byte, the first highest
abbrev pub bit_at : ℕ → ℕ → Bool
bit_at v i = eqb (v / 2 ^ (7 - i) % 2) 1

-- of pixel number n + i the vote, or outside the copy
abbrev pub chosen_at : ℕ → ℕ → ℕ → ℕ → ℕ → ℕ → Bool
chosen_at voted copied w h n i = cond (inside w h ((n + i) % w) ((n + i) / w)) (bit_at voted i) (bit_at copied i)

-- the light bytes in front of a picture of w columns, and the first pixel of each of the three rows of pixel 0's window behind them
abbrev pub pad_of : ℕ → ℕ
pad_of w = (w + 8) / 8

abbrev pub up_of : ℕ → ℕ
up_of w = pad_of w * 8 - w - 1

abbrev pub mid_of : ℕ → ℕ
mid_of w = pad_of w * 8 - 1

abbrev pub down_of : ℕ → ℕ
down_of w = pad_of w * 8 + w - 1

-- n pixels of a row, from the start of the byte of its first pixel for byte j on
abbrev pub stretch : List ℕ → ℕ → ℕ → ℕ → ℕ → ℕ
stretch b w j n first = word (behind_pad (pad_of w) b) ((j + first / 8) * 8) n

-- three bytes of each row, for byte j
pub record ThreeBytes (b : List ℕ) (w j : ℕ) (s : Rows) : Type 0 where
  pub above : s.above ≡ stretch b w j 24 (up_of w)
  pub row : s.row ≡ stretch b w j 24 (mid_of w)
  pub below : s.below ≡ stretch b w j 24 (down_of w)

-- the first two of them
pub record TwoBytes (b : List ℕ) (w j : ℕ) (s : Rows) : Type 0 where
  pub above : s.above % 65536 ≡ stretch b w j 16 (up_of w)
  pub row : s.row % 65536 ≡ stretch b w j 16 (mid_of w)
  pub below : s.below % 65536 ≡ stretch b w j 16 (down_of w)

-- the majority about pixel i of a byte whose rows are at hand
abbrev pub voted_at : ℕ → Rows → ℕ → Bool
voted_at w s i = majority_of (s.above / 2 ^ (14 - up_of w % 8)) (s.row / 2 ^ (14 - mid_of w % 8)) (s.below / 2 ^ (14 - down_of w % 8)) (7 - i)
