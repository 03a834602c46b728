-- What a fix is: where 1 to 5 are not refused, the answer of `chain_of`, and the bits and denoised bits written over the lent slices; else the refusal, and
-- all as it was. Assumes nothing.
use mathlib.Core.Path.{◌≡◌, refl, sym, ap, ◌∙◌}
use mathlib.Core.Bool.{Bool, true, false, cond}
use mathlib.Core.List.{List, [], ◌∷◌}
use Prim.Native.Nat.{ℕ}
use lib.ListN.{length}
use Rattle.std.specs.Prelude.{Result, Err}
use Rattle.lists.specs.Lists.{Each, written}
use Rattle.lcr_core.specs.Answer.{behind, checked}
use Rattle.lcr_core.specs.Outcome.{Check, refusal_number, number_of, first_of}
use Rattle.lcr_core.specs.declared.Refusal.{Refusal}
use Rattle.lcr_core.proofs.Checks.{if_refused_kept, part_passes}
use Rattle.lcr_core.proofs.Answers.{number_checked, behind_passed}
use Rattle.stages.specs.Stages.{Room, room_of, stages_checks, stages_refusal}
use Rattle.stages.specs.Pictures.{Picture, bit_picture, denoised_picture, left_after}
use Rattle.stages.proofs.Closed.{Other, left_old, stages_others, left_done}
use Rattle.finders.specs.Answer.{answer_of}
use Rattle.candidates.specs.declared.Detections.{Detections}
use Rattle.candidates.specs.Candidates.{detections_table, table_in}
use Rattle.firmware.specs.Firmware.{firmware_bytes}
use Rattle.chain.specs.Chain.{chain_of, entry_checks, detections_after}
use Rattle.chain.proofs.Theorems.{six_then}
use Rattle.chain.proofs.EntryLaws.{entry_others}
use Rattle.exposure.specs.Exposure.{as_gray8, Fix, EntryFix, fix_of, entry_fix_of}

module _ (p : List ℕ) (w h s : ℕ) (gray bits denoised : List ℕ) (work : List (List ℕ)) where
  abbrev g : Picture
  g = as_gray8 p w h s

  abbrev room : Room
  room = room_of gray bits denoised work

  -- what the stages refuse, and the parts of a fix
  abbrev checks : List Check
  checks = stages_checks g room

  abbrev refused : ℕ
  refused = stages_refusal g room

  refused_is : refused ≡ first_of checks
  unfolding stages_refusal
  refused_is = refl

  abbrev pub fix : Result Detections Refusal → List ℕ → List ℕ → Fix
  fix r b d = record { answer = r; bits = b; denoised = d; finders = answer_of d w h }

  abbrev entry_fix : ℕ → List ℕ → List ℕ → List ℕ → EntryFix
  entry_fix n b d found = record { number = n; bits = b; denoised = d; finders = answer_of d w h; detections = found }

  -- ---- behind the checks cs
  abbrev by : List Check → Result Detections Refusal
  by cs = behind cs (chain_of g)

  -- they pass
  answer_done : (cs : List Check) → first_of cs ≡ 0 → by cs ≡ chain_of g
  answer_done cs z = sym (behind_passed cs (chain_of g) (sym z))

  left_written : refused ≡ 0 → (cs : List Check) → first_of cs ≡ 0 → (new old : List ℕ) → left_after (number_of (by cs)) new old ≡ written new old
  unfolding left_after
  left_written y cs z new old =
      let n = six_then g room y in
      sym (left_done 0 (number_of (by cs)) _ refl (ap number_of (answer_done cs z) ∙ n) (written new old) new old refl)

  -- one refuses
  answer_kept : (cs : List Check) → (first_of cs ≡ 0 → ⊥) → by cs ≡ checked cs (detections_table [])
  answer_kept [] z = absurd (z refl)
  answer_kept (c ∷ cs) z = go c.refuses z (answer_kept cs)
    where
      go : (b : Bool) → (cond b (refusal_number c.refusal) (first_of cs) ≡ 0 → ⊥) → ((first_of cs ≡ 0 → ⊥) → by cs ≡ checked cs (detections_table [])) → cond b (Err c.refusal) (by cs) ≡ cond b (Err c.refusal) (checked cs (detections_table []))
      go true z later = refl
      go false z later = later z

  number_kept : (cs : List Check) → (first_of cs ≡ 0 → ⊥) → number_of (by cs) ≡ first_of cs
  number_kept cs z = ap number_of (answer_kept cs z) ∙ number_checked cs (detections_table [])

  left_kept : (cs : List Check) → (first_of cs ≡ 0 → ⊥) → Each Other cs → (new old : List ℕ) → left_after (number_of (by cs)) new old ≡ old
  left_kept cs z others new old = ap (λ (n : ℕ). left_after n new old) (number_kept cs z) ∙ sym (left_old cs others (first_of cs) refl z new old)

  -- ---- `chain`
  pub fix_written : refused ≡ 0 → fix_of w h s gray bits denoised work p ≡ fix (chain_of g) (written (bit_picture g) bits) (written (denoised_picture g) denoised)
  fix_written z = go checks (sym refused_is ∙ z)
    where
      go : (cs : List Check) → first_of cs ≡ 0 → fix (by cs) (left_after (number_of (by cs)) (bit_picture g) bits) (left_after (number_of (by cs)) (denoised_picture g) denoised)
          ≡ fix (chain_of g) (written (bit_picture g) bits) (written (denoised_picture g) denoised)
      go cs y = rw (left_written z cs y (bit_picture g) bits, left_written z cs y (denoised_picture g) denoised, answer_done cs y) refl

  pub fix_kept : (refused ≡ 0 → ⊥) → fix_of w h s gray bits denoised work p ≡ fix (checked checks (detections_table [])) bits denoised
  fix_kept z = go checks (λ y. z (refused_is ∙ y)) (stages_others g room)
    where
      go : (cs : List Check) → (first_of cs ≡ 0 → ⊥) → Each Other cs → fix (by cs) (left_after (number_of (by cs)) (bit_picture g) bits) (left_after (number_of (by cs)) (denoised_picture g) denoised)
          ≡ fix (checked cs (detections_table [])) bits denoised
      go cs y others = rw (left_kept cs y others (bit_picture g) bits, left_kept cs y others (denoised_picture g) denoised, answer_kept cs y) refl

  -- ---- `plate_chain`, which refuses a short slice of detections too
  module _ (detections : List ℕ) where
    abbrev all_checks : List Check
    all_checks = entry_checks g room (length detections)

    pub both_pass : first_of all_checks ≡ 0 → refused ≡ 0
    unfolding stages_refusal
    both_pass z = sym (part_passes 5 all_checks (sym z))

    abbrev entry_by : List Check → EntryFix
    entry_by cs =
        entry_fix (number_of (by cs)) (left_after (number_of (by cs)) (bit_picture g) bits) (left_after (number_of (by cs)) (denoised_picture g) denoised)
        (detections_after (number_of (by cs)) g detections)

    pub entry_fix_written : first_of all_checks ≡ 0
        → entry_fix_of w h s gray bits denoised work detections p
        ≡ entry_fix (number_of (chain_of g)) (written (bit_picture g) bits) (written (denoised_picture g) denoised) (detections_after (number_of (chain_of g)) g detections)
    entry_fix_written z = go all_checks z
      where
        go : (cs : List Check) → first_of cs ≡ 0 → entry_by cs
            ≡ entry_fix (number_of (chain_of g)) (written (bit_picture g) bits) (written (denoised_picture g) denoised) (detections_after (number_of (chain_of g)) g detections)
        go cs y =
            let x = both_pass z in
            rw (left_written x cs y (bit_picture g) bits, left_written x cs y (denoised_picture g) denoised, answer_done cs y) refl

    pub entry_fix_kept : (first_of all_checks ≡ 0 → ⊥) → entry_fix_of w h s gray bits denoised work detections p ≡ entry_fix (first_of all_checks) bits denoised detections
    entry_fix_kept z = go all_checks z (entry_others g room (length detections))
      where
        go : (cs : List Check) → (first_of cs ≡ 0 → ⊥) → Each Other cs → entry_by cs ≡ entry_fix (first_of cs) bits denoised detections
        go cs y others =
            rw (left_kept cs y others (bit_picture g) bits, left_kept cs y others (denoised_picture g) denoised, number_kept cs y)
            (rw (sym (if_refused_kept (first_of cs) detections (written (firmware_bytes (table_in (chain_of g))) detections) y)) refl)
