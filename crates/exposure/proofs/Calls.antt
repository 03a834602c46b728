-- Two gray pictures of as many bytes that have the same bits, where the stages refuse nothing, have the same fix. Assumes nothing.
use mathlib.Core.Path.{◌≡◌, refl, sym, ap, ◌∙◌}
use mathlib.Core.List.{List, []}
use Rattle.std.specs.Prelude.{Result}
use Rattle.lcr_core.specs.Answer.{checked}
use Rattle.lcr_core.specs.Outcome.{first_of}
use Rattle.lcr_core.specs.declared.Refusal.{Refusal}
use Rattle.candidates.specs.declared.Detections.{Detections}
use Prim.Native.Nat.{ℕ, zero, suc}
use native.Mathlib.Omega.{arith}
use lib.ListN.{length}
use Rattle.candidates.specs.Candidates.{detections_table, detect_answer}
use Rattle.stages.specs.Stages.{Room, room_of, stages_checks, stages_refusal}
use Rattle.stages.specs.Pictures.{bit_picture, denoised_picture}
use Rattle.chain.specs.Chain.{chain_of, entry_checks}
use Rattle.exposure.specs.Exposure.{as_gray8, fix_of, entry_fix_of, SameFix}
use Rattle.exposure.proofs.Fixes.{fix, both_pass, fix_written, fix_kept, entry_fix_written, entry_fix_kept}

module _ (p q : List ℕ) (w h s : ℕ) where
  abbrev SameBits : Type 0
  SameBits = bit_picture (as_gray8 q w h s) ≡ bit_picture (as_gray8 p w h s)

  -- ---- from the bits on
  pub denoised_same : SameBits → denoised_picture (as_gray8 q w h s) ≡ denoised_picture (as_gray8 p w h s)
  unfolding denoised_picture
  denoised_same e = rw e

  pub chain_same : SameBits → chain_of (as_gray8 q w h s) ≡ chain_of (as_gray8 p w h s)
  unfolding chain_of
  chain_same e = ap (λ (d : List ℕ). detect_answer d w h) (denoised_same e)

  -- ---- the calls
  module _ (gray bits denoised : List ℕ) (work : List (List ℕ)) (detections : List ℕ) where
    abbrev room : Room
    room = room_of gray bits denoised work

    -- what is refused before a byte is written
    abbrev refused : List ℕ → ℕ
    refused x = stages_refusal (as_gray8 x w h s) room

    abbrev entry_refused : List ℕ → ℕ
    entry_refused x = first_of (entry_checks (as_gray8 x w h s) room (length detections))

    module _ (l : length q ≡ length p) (e : refused p ≡ 0 → SameBits) where
      refused_same : refused q ≡ refused p
      unfolding stages_refusal
      refused_same = rw l refl

      entry-refused_same : entry_refused q ≡ entry_refused p
      entry-refused_same = rw l refl

      answer_same : checked (stages_checks (as_gray8 q w h s) room) (detections_table []) ≡ checked (stages_checks (as_gray8 p w h s) room) (detections_table [])
      answer_same = rw l refl

      fixes : (n : ℕ) → refused p ≡ n → fix_of w h s gray bits denoised work q ≡ fix_of w h s gray bits denoised work p
      fixes zero z =
          rw (fix_written q w h s gray bits denoised work (refused_same ∙ z), fix_written p w h s gray bits denoised work z, chain_same (e z), denoised_same (e z), e z)
      fixes (suc n) z =
          fix_kept q w h s gray bits denoised work (λ y. omega (arith, refused_same))
          ∙ ap (λ (a : Result Detections Refusal). fix p w h s gray bits denoised work a bits denoised) answer_same
          ∙ sym (fix_kept p w h s gray bits denoised work (λ y. omega arith))

      entry_fixes : (n : ℕ) → entry_refused p ≡ n → entry_fix_of w h s gray bits denoised work detections q ≡ entry_fix_of w h s gray bits denoised work detections p
      entry_fixes zero z =
          let same = e (both_pass p w h s gray bits denoised work detections z) in
          rw (entry_fix_written q w h s gray bits denoised work detections (entry-refused_same ∙ z), entry_fix_written p w h s gray bits denoised work detections z, chain_same same, denoised_same same, same)
      entry_fixes (suc n) z =
          rw (entry_fix_kept q w h s gray bits denoised work detections (λ y. omega (arith, entry-refused_same)), entry_fix_kept p w h s gray bits denoised work detections (λ y. omega arith), entry-refused_same)

      pub same_fix : SameFix w h s gray bits denoised work detections p q
      same_fix = (fixes (refused p) refl, entry_fixes (entry_refused p) refl)
