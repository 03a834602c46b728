-- The refusals of `plate_candidates`, from its check and from the search, and what it writes. Assumes nothing.
use mathlib.Core.Path.{◌≡◌, sym, ap, ◌∙◌}
use mathlib.Core.List.{List}
use Prim.Native.Nat.{ℕ, ◌≤◌}
use native.Mathlib.Omega.{arith}
use lib.Dec.{ltb}
use lib.ListN.{length}
use borrow.Author.Tests.{ltb-false}
use Rattle.lists.specs.Lists.{written}
use Rattle.std.specs.Prelude.{Result, Ok}
use Rattle.lcr_core.specs.Outcome.{number_of, first_of}
use Rattle.lcr_core.specs.declared.Refusal.{Refusal}
use Rattle.lcr_core.proofs.Checks.{first_passes, part_passes, passed_first}
use Rattle.little_endian.specs.Bytes.{put}
use Rattle.little_endian.proofs.Round.{put_front}
use Rattle.binary.specs.Refusal.{bits_checks}
use Rattle.finders.specs.Search.{found}
use Rattle.finders.specs.Answer.{find_checks, find_refusal}
use Rattle.candidates.specs.declared.Detections.{Detections}
use Rattle.candidates.specs.Candidates.{table_in, detect_answer}
use Rattle.candidates.proofs.Answers.{detect_number}
use Rattle.firmware.specs.Firmware.{firmware_bytes, firmware_size}
use Rattle.firmware.proofs.Theorems.{answer_bytes}
use Rattle.bench_entries.specs.Entries.{room_checks, candidates_checks, candidates_refusal}

-- where nothing is refused before the search
module _ (bits : List ℕ) (w h room : ℕ) (z : 0 ≡ first_of (room_checks (length bits) w h room)) where
  bits_pass : 0 ≡ first_of (bits_checks (length bits) w h)
  bits_pass = part_passes 3 (room_checks (length bits) w h room) z

  enough : firmware_size ≤ room
  enough = ltb-false room firmware_size (first_passes (ltb room firmware_size) 4 0 (passed_first 3 (room_checks (length bits) w h room) bits_pass ∙ sym z)).0

  search_decides : find_refusal bits w h ≡ candidates_refusal bits w h room
  unfolding candidates_refusal find_refusal
  search_decides =
      sym (passed_first 3 (find_checks (length bits) w h (found bits w h)) bits_pass) ∙ passed_first 4 (candidates_checks bits w h room) z

  -- and a is the answer
  module _ (a : Result Detections Refusal) (g : a ≡ detect_answer bits w h) where
    pub search_answered : number_of a ≡ candidates_refusal bits w h room
    search_answered = ap number_of g ∙ detect_number bits w h ∙ search_decides

    -- the detections, where nothing is refused
    pub found_written : (t : Detections) → Ok t ≡ a → (x old : List ℕ) → room ≡ length old → x ≡ put (firmware_bytes t) 0 old
        → x ≡ written (firmware_bytes (table_in (detect_answer bits w h))) old
    found_written t i x old r q =
        let bytes = firmware_bytes (table_in (detect_answer bits w h)) in
        let l : length bytes ≤ length old = omega (arith, enough, answer_bytes bits w h, r) in
        q ∙ ap (λ (a : Result Detections Refusal). put (firmware_bytes (table_in a)) 0 old) (i ∙ g) ∙ put_front bytes old l
