-- For inner contracts and proofs. The loops over a window, as folds, eight pixels at once, and what is known where they run.
use Rattle.std.specs.Prelude.{ℕ, ◌+◌, ◌*◌, ◌/◌, ◌%◌, ◌^◌, ◌≤◌, ◌≡◌, Bool, cond, Option, None, Some, List, [], ◌∷◌, length, eqb, leb, ltb}
use Rattle.lists.specs.Lists.{range, folded, those, sum}
use Rattle.binary.specs.Binary.{bytes_of}
use Rattle.binarize.specs.Writing.{Written}
use Rattle.blocks.specs.declared.rect.Rect.{Rect}
use Rattle.blocks.specs.Blocks.{blocks_refusal}
use Rattle.binarize.specs.declared.writing.Writer.{Writer}
use Rattle.binarize.specs.declared.split.Split.{Split}
use Rattle.binarize.specs.Levels.{level}

-- the level of a window, or none where it holds no marked block
abbrev pub level_of : List ℕ → Option ℕ
level_of [] = None
level_of (v ∷ l) = Some (level (v ∷ l))

-- what a split counts
pub record Tally : Type 0 where
  pub low : ℕ
  pub lows : ℕ
  pub high : ℕ
  pub highs : ℕ

abbrev pub tally_of : Split → Tally
tally_of t = record { low = t.low; lows = t.lows; high = t.high; highs = t.highs }

-- one mean more, among those up to m or those above
abbrev pub with_mean : ℕ → Tally → ℕ → Tally
with_mean m t v =
    cond (leb v m) (record { low = t.low + v; lows = t.lows + 1; high = t.high; highs = t.highs })
    (record { low = t.low; lows = t.lows; high = t.high + v; highs = t.highs + 1 })

-- one block more, of mean v, which counts if its mark is 1
unfoldable pub with_block : ℕ → Tally → ℕ → ℕ → Tally
with_block m t v mark = cond (eqb mark 1) (with_mean m t v) t

-- block number i more, which counts if it is marked
unfoldable pub split_block : (ℕ → ℕ) → (ℕ → ℕ) → ℕ → Tally → ℕ → Tally
split_block means mark m t i = with_block m t (means i) (mark i)

-- the block in column x more, where its row begins at block number `from`
unfoldable pub split_column : (ℕ → ℕ) → (ℕ → ℕ) → ℕ → ℕ → Tally → ℕ → Tally
split_column means mark m from t x = split_block means mark m t (from + x)

-- the blocks of row y in the columns from a on below b more, where a row has bw blocks
unfoldable pub split_row : (ℕ → ℕ) → (ℕ → ℕ) → ℕ → ℕ → ℕ → ℕ → Tally → ℕ → Tally
split_row means mark m bw a b t y = folded (split_column means mark m (y * bw)) t (range a b)

-- no block yet
abbrev pub no_block : Tally
no_block = record { low = 0; lows = 0; high = 0; highs = 0 }

-- what a split of the means l at m holds: the sum and the number of those up to m, and of those above
pub record Tallied (l : List ℕ) (m : ℕ) (t : Tally) : Type 0 where
  pub low : t.low ≡ sum (those (λ v. leb v m) l)
  pub lows : t.lows ≡ length (those (λ v. leb v m) l)
  pub high : t.high ≡ sum (those (λ v. ltb m v) l)
  pub highs : t.highs ≡ length (those (λ v. ltb m v) l)
  pub total : t.low + t.high ≡ sum l
  pub count : t.lows + t.highs ≡ length l

-- a window lies in rows of w blocks, of which a list of len values has one for each, and there are at most 512 × 512
pub record InGrid (len w : ℕ) (r : Rect) : Type 0 where
  pub cols : r.right ≤ w
  pub all : r.bottom * w ≤ len
  pub few : r.bottom * w ≤ 262144

-- the pixels from number a on below b are put: what is written in order of each picture p that agrees goes on
pub record Puts (a b : ℕ) (old new : Writer) (Agrees : (ℕ → Bool) → Type 0) : Type 0 where
  pub same : new.bits.ghost_name ≡ old.bits.ghost_name
  pub long : length new.bits.now ≡ length old.bits.now
  pub written : (p : ℕ → Bool) (first : List ℕ) → length first ≡ length old.bits.now → Written p a first old.bits.now old.pending → Agrees p → Written p b first new.bits.now new.pending

-- eight pixels b after n, of which the last n mod 8 stand in acc: the byte that is complete, and the bits that are left
abbrev pub byte_of_eight : ℕ → ℕ → ℕ → ℕ
byte_of_eight n acc b = (acc * 256 + b) / 2 ^ (n % 8) % 256

abbrev pub rest_of_eight : ℕ → ℕ → ℕ → ℕ
rest_of_eight n acc b = (acc * 256 + b) % 2 ^ (n % 8)

-- what black and white conversion needs is there: what `block_values` needs, and room for the bits
pub record BinarizePassed (len w h room : ℕ) (work : List ℕ) : Type 0 where
  pub values : blocks_refusal len w h work ≡ 0
  pub bits : bytes_of (w * h) ≤ room
