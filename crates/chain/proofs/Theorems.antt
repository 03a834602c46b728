-- Where the stages refuse nothing, the only refusal that is left to the detections of the denoised bits is 6; their bytes are 367; and where the limit ended
-- no run of a hit that document 000 confirms, they are those over document 000's finders; and of score and mean module in what the chain answers, and of
-- lenses, of which there are none (document 02, N8 and N12). Assumes nothing.
use mathlib.Core.Path.{◌≡◌, ◌∙◌}
use mathlib.Core.Bool.{false, cond}
use mathlib.Core.List.{List}
use Prim.Native.Nat.{ℕ, ◌*◌}
use native.Mathlib.Omega.{arith}
use lib.Dec.{ltb}
use lib.ListN.{length}
use borrow.Author.Tests.{le-ltb}
use Rattle.lists.specs.Lists.{Each}
use Rattle.lcr_core.specs.Outcome.{Check, number_of, zero_side, large_side}
use Rattle.lcr_core.specs.Answer.{behind}
use Rattle.lcr_core.proofs.Checks.{first_passes}
use Rattle.lcr_core.proofs.Answers.{behind_holds}
use Rattle.binary.specs.Binary.{bytes_of}
use Rattle.binary.specs.Refusal.{short_bits}
use Rattle.finders.specs.Answer.{is_over, find_refusal, finders_of}
use Rattle.finders.specs.Search.{found}
use Rattle.finders.specs.Published.{NoneCut}
use Rattle.candidates.specs.Candidates.{table_in}
use Rattle.candidates.specs.Detection.{WithoutLens}
use Rattle.candidates.specs.Graded.{AllGraded}
use Rattle.candidates.specs.Published.{published_detect}
use Rattle.candidates.proofs.Answers.{detect_number}
use Rattle.candidates.proofs.Grades.{none_graded, detect_graded}
use Rattle.candidates.proofs.Lenses.{none-plain, detect_plain}
use Rattle.candidates.proofs.Published.{uncut_detect}
use Rattle.firmware.specs.Firmware.{firmware_bytes, firmware_size}
use Rattle.firmware.proofs.Theorems.{answer_bytes}
use Rattle.stages.specs.Stages.{Room, refusal_of, stages_refusal}
use Rattle.stages.specs.Pictures.{Picture, denoised_picture}
use Rattle.stages.proofs.Theorems.{length_denoised}
use Rattle.chain.specs.Chain.{chain_of}

module _ (p : Picture) where
  abbrev w : ℕ
  w = p.width

  abbrev h : ℕ
  h = p.height

  -- where nothing is refused of so many bytes, the picture's own or not, the search of the denoised bits refuses with nothing else
  pub search_six : (len : ℕ) (r : Room) → refusal_of len w h p.stride p.format r ≡ 0 → find_refusal (denoised_picture p) w h ≡ cond (is_over (found (denoised_picture p) w h)) 6 0
  unfolding refusal_of find_refusal short_bits
  search_six len r e =
      let p1 = first_passes (zero_side w h) 0 _ e in
      let p2 = first_passes (large_side w h) 1 _ p1.1 in
      let k : ltb (length (denoised_picture p)) (bytes_of (w * h)) ≡ false = le-ltb (length (denoised_picture p)) (bytes_of (w * h)) (omega (arith, length_denoised p)) in
      simp (p1.0, p2.0, k)

  pub six_is_left : (len : ℕ) (r : Room) → refusal_of len w h p.stride p.format r ≡ 0 → number_of (chain_of p) ≡ cond (is_over (found (denoised_picture p) w h)) 6 0
  unfolding chain_of
  six_is_left len r e = detect_number (denoised_picture p) w h ∙ search_six len r e

  -- of its own bytes
  pub of_its_bytes : (r : Room) → stages_refusal p r ≡ 0 → refusal_of (length p.bytes) w h p.stride p.format r ≡ 0
  unfolding stages_refusal refusal_of
  of_its_bytes r e = e

  pub six_then : (r : Room) → stages_refusal p r ≡ 0 → number_of (chain_of p) ≡ cond (is_over (found (denoised_picture p) w h)) 6 0
  six_then r e = six_is_left (length p.bytes) r (of_its_bytes r e)

  pub detection_bytes_lem : length (firmware_bytes (table_in (chain_of p))) ≡ firmware_size
  unfolding chain_of
  detection_bytes_lem = answer_bytes (denoised_picture p) w h

  pub uncut_chain : NoneCut (denoised_picture p) w h → chain_of p ≡ published_detect (denoised_picture p) w h
  unfolding chain_of
  uncut_chain u = uncut_detect (denoised_picture p) w h u

  -- of `chain` and `plate_chain`, whatever checks they make before a byte is written
  pub chain_graded : (cs : List Check) → AllGraded (finders_of (denoised_picture p) w h) (table_in (behind cs (chain_of p)))
  unfolding chain_of
  chain_graded cs =
      let fs = finders_of (denoised_picture p) w h in
      behind_holds (λ a. AllGraded fs (table_in a)) cs (chain_of p) (λ r. none_graded fs) (detect_graded (denoised_picture p) w h)

  -- no detection of theirs has a lens (document 02, N12), so that the eight numbers of the firmware's bytes and of the listing say all
  pub chain_plain : (cs : List Check) → Each WithoutLens (table_in (behind cs (chain_of p))).at
  unfolding chain_of
  chain_plain cs = behind_holds (λ a. Each WithoutLens (table_in a).at) cs (chain_of p) (λ r. none-plain) (detect_plain (denoised_picture p) w h)
