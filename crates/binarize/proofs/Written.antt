-- Laws of a bit picture that is written in pixel order. Assumes nothing.
use mathlib.Core.Path.{◌≡◌, refl, ap, ◌∙◌}
use mathlib.Core.Bool.{Bool, true, false}
use mathlib.Core.List.{List}
use Prim.Native.Nat.{ℕ, ◌+◌, ◌*◌, ◌/◌, ◌%◌, ◌<◌}
use native.Mathlib.Nat.{mod-eq_of_lt}
use native.Mathlib.Numerals.{add-one}
use native.Mathlib.Omega.{arith}
use lib.ListN.{length}
use lib.Dec.{eqb}
use borrow.Author.Tests.{eqb-true, eqb-false}
use Rattle.lists.specs.Lists.{filled}
use Rattle.lists.proofs.Tabulate.{filled_none, filled_step}
use Rattle.binary.specs.Binary.{bit, bytes_of, word, byte_of}
use Rattle.binarize.specs.Writing.{pushed, rest_after, bytes_after, Written}
use Rattle.binary.proofs.Bits.{bit_small, word_low}

pub written_none : (p : ℕ → Bool) (old : List ℕ) → Written p 0 old old 0
unfolding word
written_none p old = record { bytes = filled_none _ _; rest = refl }

-- the byte under construction with one pixel more
word_more : (p : ℕ → Bool) (n acc b : ℕ) → acc ≡ word p (n / 8 * 8) (n % 8) → b ≡ bit (p n) → pushed acc b ≡ word p (n / 8 * 8) (n % 8 + 1)
unfolding word
word_more p n acc b e q =
    let d = bit_small (p n) in
    let at : n / 8 * 8 + n % 8 ≡ n = omega arith in
    rw (e, q, word_low p (n / 8 * 8) (n % 8) (omega arith), mod-eq_of_lt d, add-one, at) refl

-- one pixel more
pub written_step : (p : ℕ → Bool) (n : ℕ) (old l l' : List ℕ) (acc acc' b : ℕ) → n / 8 < length old → acc' ≡ rest_after n acc b → l' ≡ bytes_after n acc b l
    → b ≡ bit (p n) → Written p n old l acc → Written p (n + 1) old l' acc'
unfolding word
written_step p n old l l' acc acc' b room r s q w = rw (r, s) (go (eqb (n % 8) 7) refl)
  where
    go : (t : Bool) → eqb (n % 8) 7 ≡ t → Written p (n + 1) old (bytes_after n acc b l) (rest_after n acc b)
    go true e =
        let h = eqb-true (n % 8) 7 e in
        let full : n % 8 + 1 ≡ 8 = omega arith in
        let up : (n + 1) / 8 ≡ n / 8 + 1 = omega arith in
        let none : (n + 1) % 8 ≡ 0 = omega arith in
        rw e (record {
          bytes = rw up (filled_step (n / 8) (byte_of p) old l (pushed acc b) room w.bytes (word_more p n acc b w.rest q ∙ ap (word p (n / 8 * 8)) full));
          rest = rw none;
        })
    go false e =
        let h = eqb-false (n % 8) 7 e in
        let same : (n + 1) / 8 ≡ n / 8 = omega arith in
        let next : (n + 1) % 8 ≡ n % 8 + 1 = omega arith in
        rw e (record { bytes = rw same w.bytes; rest = rw (same, next) (word_more p n acc b w.rest q) })

-- all is written
pub written_all : (p : ℕ → Bool) (n acc : ℕ) (old l : List ℕ) → Written p (bytes_of n * 8) old l acc → l ≡ filled (bytes_of n) (byte_of p) old
written_all p n acc old l w = let e : bytes_of n * 8 / 8 ≡ bytes_of n = omega arith in rw e at w.bytes
