-- To be believed. Black and white conversion. Document 01, "From picture to bits": "Dark means gray below the level. Unused bits are 0"; and its refusals:
-- "`binarize`: 1, 2, 4 below width × height gray bytes, 5 if the bit output is under (width × height + 7) / 8 bytes, rounded down, or one of five work slices
-- .. is under one byte per block".
use Rattle.std.specs.Prelude.{ℕ, ◌*◌, ◌/◌, ◌%◌, Bool, ◌&&◌, ◌||◌, List, [], ◌∷◌, ltb, ◌++◌}
use Rattle.lists.specs.Lists.{filled, at}
use Rattle.lcr_core.specs.Outcome.{Check, first_of, if_refused, side_checks}
use Rattle.lcr_core.specs.declared.Refusal.TheVariants.{ShortPicture, ShortOutput}
use Rattle.binary.specs.Binary.{byte_of, bytes_of}
use Rattle.blocks.specs.Blocks.{blocks_on, blocks_in, mean_at, edge_at, near_at, under}
use Rattle.binarize.specs.Levels.{level_at}

-- whether pixel number k is dark, from the means and marks of the blocks: its gray value is below its block's level
unfoldable pub dark_by : (ℕ → ℕ) → (ℕ → ℕ) → (ℕ → ℕ) → List ℕ → ℕ → ℕ → ℕ → Bool
dark_by means edge near g w h k = ltb k (w * h) && ltb (at g k) (level_at means edge near (blocks_on w) (blocks_on h) (k % w / 8) (k / w / 8))

-- the same, from the gray picture g of w × h pixels
abbrev pub is_dark : List ℕ → ℕ → ℕ → ℕ → Bool
is_dark g w h = dark_by (mean_at g w h) (edge_at g w h) (near_at g w h) g w h

-- what is refused of len gray bytes, with room bytes for the bits, and work slices of these lengths
abbrev pub binarize_checks : ℕ → ℕ → ℕ → ℕ → List ℕ → List Check
binarize_checks len w h room work =
    side_checks w h
    ++ (record { refuses = ltb len (w * h); refusal = ShortPicture }
    ∷ record { refuses = ltb room (bytes_of (w * h)) || under (blocks_in w h) work; refusal = ShortOutput }
    ∷ [])

-- the number of the first that refuses
unfoldable pub binarize_refusal : ℕ → ℕ → ℕ → ℕ → List ℕ → ℕ
binarize_refusal len w h room work = first_of (binarize_checks len w h room work)

-- what a call that answers n leaves of the bit slice: after 0 a bit for each pixel and the rest as it was, else all as it was
abbrev pub dark_after : ℕ → List ℕ → ℕ → ℕ → List ℕ → List ℕ
dark_after n g w h old = if_refused n old (filled (bytes_of (w * h)) (byte_of (is_dark g w h)) old)
