-- To be believed. The whole chain in one call. Document 01: "Whole chain (added: gray, `binarize`, `denoised`, `detect_candidates`): 1, 2, 3, 4, 5, 6. After
-- 6 the lent slices hold the finished gray, bits, denoised bits and block values." The firmware's entry has "one more lent slice of at least 367 bytes (5 if
-- shorter, untouched after 6)".
use Rattle.std.specs.Prelude.{ℕ, List, [], ◌∷◌, ◌++◌, ltb, Result}
use Rattle.lists.specs.Lists.{written}
use Rattle.lcr_core.specs.Answer.{behind}
use Rattle.lcr_core.specs.Outcome.{Check, if_refused}
use Rattle.lcr_core.specs.declared.Refusal.{Refusal}
use Rattle.lcr_core.specs.declared.Refusal.TheVariants.{ShortOutput}
use Rattle.candidates.specs.declared.Detections.{Detections}
use Rattle.candidates.specs.Candidates.{table_in, detect_answer}
use Rattle.firmware.specs.Firmware.{firmware_bytes, firmware_size}
use Rattle.stages.specs.Stages.{Room, stages_checks}
use Rattle.stages.specs.Pictures.{Picture, denoised_picture}

-- what is answered for a picture that no check refuses: the detections in its denoised bits, or 6 (proofs/Theorems.antt: no other refusal)
unfoldable pub chain_of : Picture → Result Detections Refusal
chain_of p = detect_answer (denoised_picture p) p.width p.height

-- `chain`: behind what the stages check before a byte is written, 1 to 5
abbrev pub whole_answer : Picture → Room → Result Detections Refusal
whole_answer p r = behind (stages_checks p r) (chain_of p)

-- 5: the slice of detections, of len bytes, is too short
abbrev pub short_detections : ℕ → Check
short_detections len = record { refuses = ltb len firmware_size; refusal = ShortOutput }

-- what `plate_chain` checks before a byte is written: this too
abbrev pub entry_checks : Picture → Room → ℕ → List Check
entry_checks p r len = stages_checks p r ++ (short_detections len ∷ [])

-- `plate_chain`
abbrev pub entry_answer : Picture → Room → ℕ → Result Detections Refusal
entry_answer p r len = behind (entry_checks p r len) (chain_of p)

-- what a call that answers n leaves of the slice of detections: after 0 their bytes, else all as it was
abbrev pub detections_after : ℕ → Picture → List ℕ → List ℕ
detections_after n p old = if_refused n old (written (firmware_bytes (table_in (chain_of p))) old)
