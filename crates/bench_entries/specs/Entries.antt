-- To be believed. What the C entries of the single stages answer beyond the functions that they call.
use Rattle.std.specs.Prelude.{ℕ, List, [], ◌∷◌, ◌++◌, ltb, length}
use Rattle.lcr_core.specs.Outcome.{Check, first_of}
use Rattle.lcr_core.specs.declared.Refusal.TheVariants.{ShortOutput, FullTable}
use Rattle.binary.specs.Refusal.{bits_checks}
use Rattle.finders.specs.Search.{found}
use Rattle.finders.specs.Answer.{is_over, find_checks, finders_of}
use Rattle.stored.specs.Stored.{short_output}
use Rattle.firmware.specs.Firmware.{firmware_size}

-- `plate_finders`, with len bytes for the stored list: what the search refuses, 1, 2, 4, 6, and then 5 where the list of what it finds is longer
abbrev pub list_checks : List ℕ → ℕ → ℕ → ℕ → List Check
list_checks bits w h len =
    find_checks (length bits) w h (found bits w h) ++ (record { refuses = short_output len (length (finders_of bits w h)); refusal = ShortOutput } ∷ [])

-- the number of the first that refuses
unfoldable pub list_refusal : List ℕ → ℕ → ℕ → ℕ → ℕ
list_refusal bits w h len = first_of (list_checks bits w h len)

-- `plate_candidates`, with room bytes for the detections: before the search 1, 2 and 4, of len bytes of bits, and 5 where the room is under 367
abbrev pub room_checks : ℕ → ℕ → ℕ → ℕ → List Check
room_checks len w h room = bits_checks len w h ++ (record { refuses = ltb room firmware_size; refusal = ShortOutput } ∷ [])

-- and then 6, as in the whole chain
abbrev pub candidates_checks : List ℕ → ℕ → ℕ → ℕ → List Check
candidates_checks bits w h room = room_checks (length bits) w h room ++ (record { refuses = is_over (found bits w h); refusal = FullTable } ∷ [])

-- the number of the first that refuses
unfoldable pub candidates_refusal : List ℕ → ℕ → ℕ → ℕ → ℕ
candidates_refusal bits w h room = first_of (candidates_checks bits w h room)
