-- For inner contracts and proofs. A bit picture written pixel by pixel in order: what `put_bit` leaves, and what is written so far.
use Rattle.std.specs.Prelude.{ℕ, ◌+◌, ◌*◌, ◌/◌, ◌%◌, ◌≡◌, Bool, cond, List, set, eqb}
use Rattle.lists.specs.Lists.{filled}
use Rattle.binary.specs.Binary.{word, byte_of}

-- a byte under construction takes one more bit
abbrev pub pushed : ℕ → ℕ → ℕ
pushed acc b = acc % 128 * 2 + b % 2

-- the bits that are not stored after pixel number n: none where it is the last of its eight
abbrev pub rest_after : ℕ → ℕ → ℕ → ℕ
rest_after n acc b = cond (eqb (n % 8) 7) 0 (pushed acc b)

-- the bytes after it: where it is the last of its eight, they are stored
abbrev pub bytes_after : ℕ → ℕ → ℕ → List ℕ → List ℕ
bytes_after n acc b l = cond (eqb (n % 8) 7) (set l (n / 8) (pushed acc b)) l

-- the pixels before number n of the picture p are written over old: l has their whole bytes, and acc the bits that are left
pub record Written (p : ℕ → Bool) (n : ℕ) (old l : List ℕ) (acc : ℕ) : Type 0 where
  pub bytes : l ≡ filled (n / 8) (byte_of p) old
  pub rest : acc ≡ word p (n / 8 * 8) (n % 8)
