-- Eight pixels at once. Assumes nothing.
use mathlib.Core.Path.{◌≡◌, refl, sym, ap, ◌∙◌}
use mathlib.Core.Bool.{Bool, true, false}
use mathlib.Core.List.{List}
use Prim.Native.Nat.{ℕ, ◌+◌, ◌*◌, ◌/◌, ◌%◌, ◌^◌, ◌<◌}
use native.Mathlib.Nat.{mod-eq_of_lt, add_comm}
use native.Mathlib.Numerals.{add-one}
use native.Mathlib.Omega.{arith}
use lib.ListN.{length, set}
use lib.Dec.{ltb}
use lib.Pow.{high, low}
use Rattle.lists.proofs.Tabulate.{filled_step}
use Rattle.std.specs.Int.{from_bool}
use Rattle.binary.specs.Binary.{bit, word, byte_of}
use Rattle.binarize.specs.Writing.{rest_after, bytes_after, Written}
use Rattle.binary.proofs.Bits.{word_bound}
use Rattle.binary.proofs.Bits.{word_low}
use Rattle.binarize.proofs.Written.{written_step}
use Rattle.binary.proofs.Words.{word-append, word_same}
use Rattle.lists.specs.Lists.{at}
use Rattle.binarize.specs.declared.writing.Writer.{Writer}
use Rattle.binarize.specs.Splits.{Puts, byte_of_eight, rest_of_eight}

-- a test as a number
pub from_is : (b : Bool) → from_bool b ≡ bit b
unfolding bit
from_is true = refl
from_is false = refl

-- one pixel of eight more
pub word_next : (p : ℕ → Bool) (s i acc v : ℕ) → i < 8 → acc ≡ word p s i → v ≡ bit (p (s + i)) → acc % 128 * 2 + v ≡ word p s (i + 1)
unfolding word
word_next p s i acc v h e q = rw (e, q, word_low p s i h, add-one)

module _ (p : ℕ → Bool) (n acc b : ℕ) (r : acc ≡ word p (n / 8 * 8) (n % 8)) (q : b ≡ word p n 8) where
  -- the pending bits and the eight pixels, cut after the first eight
  both : acc * 256 + b ≡ byte_of p (n / 8) * 2 ^ (n % 8) + word p (n / 8 * 8 + 8) (n % 8)
  both =
      let at : n / 8 * 8 + n % 8 ≡ n = omega arith in
      let here : word p (n / 8 * 8) (n % 8 + 8) ≡ acc * 256 + b = word-append p (n / 8 * 8) (n % 8) 8 ∙ rw (at, r, q) in
      sym here ∙ ap (word p (n / 8 * 8)) (add_comm (n % 8) 8) ∙ word-append p (n / 8 * 8) 8 (n % 8)

  byte_of_eight_lem : byte_of_eight n acc b ≡ byte_of p (n / 8)
  byte_of_eight_lem =
      rw (both, high (byte_of p (n / 8)) (n % 8) (word_bound p (n / 8 * 8 + 8) (n % 8))) (mod-eq_of_lt (word_bound p (n / 8 * 8) 8))

  rest_of_eight_lem : rest_of_eight n acc b ≡ word p (n / 8 * 8 + 8) (n % 8)
  rest_of_eight_lem = rw both (low (byte_of p (n / 8)) (n % 8) (word_bound p (n / 8 * 8 + 8) (n % 8)))

-- eight pixels more
pub written-eight : (p : ℕ → Bool) (n : ℕ) (old l l' : List ℕ) (acc acc' b : ℕ) → n / 8 < length old → acc' ≡ rest_of_eight n acc b → l' ≡ set l (n / 8) (byte_of_eight n acc b)
    → b ≡ word p n 8 → Written p n old l acc → Written p (n + 8) old l' acc'
written-eight p n old l l' acc acc' b room r s q w =
    let up : (n + 8) / 8 ≡ n / 8 + 1 = omega arith in
    let same : (n + 8) % 8 ≡ n % 8 = omega arith in
    let next : (n / 8 + 1) * 8 ≡ n / 8 * 8 + 8 = omega arith in
    record {
      bytes = s ∙ rw up (filled_step (n / 8) (byte_of p) old l _ room w.bytes (byte_of_eight_lem p n acc b w.rest q));
      rest = r ∙ rw (up, same, next) (rest_of_eight_lem p n acc b w.rest q);
    }

-- one pixel more
pub puts_one : (a n b : ℕ) (old w w' : Writer) (A B : (ℕ → Bool) → Type 0) → n / 8 < length old.bits.now → w'.bits.ghost_name ≡ w.bits.ghost_name → length w'.bits.now ≡ length w.bits.now
    → w'.pending ≡ rest_after n w.pending b → w'.bits.now ≡ bytes_after n w.pending b w.bits.now → ((p : ℕ → Bool) → B p → (b ≡ bit (p n)) × A p)
    → Puts a n old w A → Puts a (n + 1) old w' B
puts_one a n b old w w' A B room same long r s agree so = record {
  same = same ∙ so.same;
  long = long ∙ so.long;
  written = λ p first l o g.
      let h = agree p g in
      let q : n / 8 < length first = omega (arith, l) in
      written_step p n first _ _ _ _ b q r s h.0 (so.written p first l o h.1);
}

-- eight pixels of a row, from column 8 j on, have the level of block j
pub same_eight : (p : ℕ → Bool) (g levels : List ℕ) (from w j : ℕ) → ((x : ℕ) → x < w → p (from + x) ≡ ltb (at g (from + x)) (at levels (x / 8))) → j < w / 8
    → word (λ k. ltb (at g k) (at levels j)) (from + j * 8) 8 ≡ word p (from + j * 8) 8
same_eight p g levels from w j agree h =
    word_same (λ k. ltb (at g k) (at levels j)) p (from + j * 8) (from + j * 8) 8
    (λ i l.
    let e : from + (j * 8 + i) ≡ from + j * 8 + i = omega arith in
    let q : (j * 8 + i) / 8 ≡ j = omega arith in
    sym (rw (e, q) at (agree (j * 8 + i) (omega arith))))
