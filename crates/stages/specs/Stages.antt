-- To be believed. All picture stages in one call, the first part of the whole chain. Document 01: "Whole chain (added: gray, `binarize`, `denoised`,
-- `detect_candidates`): 1, 2, 3, 4, 5, 6"; here are its 1 to 5.
use Rattle.std.specs.Prelude.{ℕ, ◌*◌, Bool, ◌||◌, List, [], ◌∷◌, map, ltb, length, ◌++◌}
use Rattle.lcr_core.specs.Outcome.{Check, first_of, side_checks}
use Rattle.lcr_core.specs.declared.Refusal.TheVariants.{UnknownFormat, ShortPicture, ShortOutput}
use Rattle.binary.specs.Binary.{bytes_of}
use Rattle.blocks.specs.Blocks.{blocks_in, under}
use Rattle.gray.specs.Gray.{unknown_format, short_picture}
use Rattle.stages.specs.Pictures.{Picture}

-- how many bytes each of the slices has that the stages write: gray values, bits, denoised bits, and the five work slices
pub record Room : Type 0 where
  pub gray : ℕ
  pub bits : ℕ
  pub denoised : ℕ
  pub work : List ℕ

-- that of slices which hold these
abbrev pub room_of : List ℕ → List ℕ → List ℕ → List (List ℕ) → Room
room_of gray bits denoised work = record { gray = length gray; bits = length bits; denoised = length denoised; work = map length work }

-- 5: gray is under width × height bytes, bits or denoised under (width × height + 7) / 8, rounded down, or a work slice under one byte per block
unfoldable pub short_room : ℕ → ℕ → Room → Bool
short_room w h r = ltb r.gray (w * h) || ltb r.bits (bytes_of (w * h)) || ltb r.denoised (bytes_of (w * h)) || under (blocks_in w h) r.work

-- what is refused of len bytes of w × h pixels, in rows of s bytes and with format byte f, with so much room: 1, 2, 3, 4, 5, in this order
abbrev pub checks_of : ℕ → ℕ → ℕ → ℕ → ℕ → Room → List Check
checks_of len w h s f r =
    side_checks w h
    ++ (record { refuses = unknown_format f; refusal = UnknownFormat }
    ∷ record { refuses = short_picture len w h s f; refusal = ShortPicture }
    ∷ record { refuses = short_room w h r; refusal = ShortOutput }
    ∷ [])

-- the number of the first that refuses
unfoldable pub refusal_of : ℕ → ℕ → ℕ → ℕ → ℕ → Room → ℕ
refusal_of len w h s f r = first_of (checks_of len w h s f r)

-- the same of a picture
abbrev pub stages_checks : Picture → Room → List Check
stages_checks p r = checks_of (length p.bytes) p.width p.height p.stride p.format r

unfoldable pub stages_refusal : Picture → Room → ℕ
stages_refusal p r = first_of (stages_checks p r)
