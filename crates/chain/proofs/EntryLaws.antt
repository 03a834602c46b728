-- What the firmware's entry answers and leaves, from its check and from the chain. Assumes nothing.
use mathlib.Core.Path.{◌≡◌, sym, ◌∙◌, ap}
use mathlib.Core.Bool.{Bool, true, false, cond}
use mathlib.Core.List.{List, [], ◌∷◌}
use Prim.Native.Nat.{ℕ, ◌≤◌}
use native.Mathlib.Omega.{arith}
use lib.Dec.{ltb}
use lib.ListN.{length}
use borrow.Author.Tests.{ltb-false}
use Rattle.std.specs.Prelude.{Result, Ok}
use Rattle.lists.specs.Lists.{Each}
use Rattle.lcr_core.specs.Outcome.{Check, refusal_number, number_of, first_of}
use Rattle.lcr_core.specs.declared.Refusal.{Refusal}
use Rattle.lcr_core.specs.Answer.{behind}
use Rattle.lcr_core.proofs.Checks.{first_passes, part_passes, passed_first}
use Rattle.lcr_core.proofs.Answers.{behind_passed}
use Rattle.little_endian.specs.Bytes.{put}
use Rattle.little_endian.proofs.Round.{put_front}
use Rattle.candidates.specs.declared.Detections.{Detections}
use Rattle.candidates.specs.Candidates.{table_in}
use Rattle.firmware.specs.Firmware.{firmware_bytes, firmware_size}
use Rattle.stages.specs.Stages.{Room, stages_checks}
use Rattle.stages.specs.Pictures.{Picture}
use Rattle.stages.proofs.Closed.{Other}
use Rattle.chain.specs.Chain.{chain_of, entry_checks, entry_answer, detections_after}
use Rattle.chain.proofs.Theorems.{detection_bytes_lem}

-- none of its checks gives 6
pub entry_others : (p : Picture) (r : Room) (room : ℕ) → Each Other (entry_checks p r room)
entry_others p r room = ((λ e. omega arith), ((λ e. omega arith), ((λ e. omega arith), ((λ e. omega arith), ((λ e. omega arith), ((λ e. omega arith), tt))))))

-- where no check's number is over 5, that of the first that refuses is not
first_most : (cs : List Check) → Each (λ (c : Check). refusal_number c.refusal ≤ 5) cs → first_of cs ≤ 5
first_most [] e = omega arith
first_most (c ∷ cs) e = go c.refuses (first_most cs e.1)
  where
    go : (b : Bool) → first_of cs ≤ 5 → cond b (refusal_number c.refusal) (first_of cs) ≤ 5
    go true h = e.0
    go false h = h

-- before a byte is written the entry refuses by 1 to 5
pub five_at_most : (p : Picture) (r : Room) (room : ℕ) → first_of (entry_checks p r room) ≤ 5
five_at_most p r room = first_most (entry_checks p r room) (omega arith, (omega arith, (omega arith, (omega arith, (omega arith, (omega arith, tt))))))

-- ---- where they pass
module _ (p : Picture) (r : Room) (room : ℕ) (z : 0 ≡ first_of (entry_checks p r room)) where
  stages_pass : 0 ≡ first_of (stages_checks p r)
  stages_pass = part_passes 5 (entry_checks p r room) z

  enough : firmware_size ≤ room
  enough = ltb-false room firmware_size (first_passes (ltb room firmware_size) 4 0 (passed_first 5 (entry_checks p r room) stages_pass ∙ sym z)).0

  -- and a is the chain's answer
  module _ (a : Result Detections Refusal) (g : a ≡ behind (stages_checks p r) (chain_of p)) where
    is_chain : a ≡ chain_of p
    is_chain = g ∙ sym (behind_passed (stages_checks p r) (chain_of p) stages_pass)

    pub entry_passed : number_of a ≡ number_of (entry_answer p r room)
    entry_passed = ap number_of (is_chain ∙ behind_passed (entry_checks p r room) (chain_of p) z)

    -- the detections, where the chain refuses nothing
    pub entry_found : (t : Detections) → Ok t ≡ a → (x old : List ℕ) → room ≡ length old → x ≡ put (firmware_bytes t) 0 old → x ≡ detections_after 0 p old
    entry_found t k x old l q =
        let bytes = firmware_bytes (table_in (chain_of p)) in
        let d : t ≡ table_in (chain_of p) = ap table_in (k ∙ is_chain) in
        let m : length bytes ≤ length old = omega (arith, enough, detection_bytes_lem p, l) in
        q ∙ ap (λ (t : Detections). put (firmware_bytes t) 0 old) d ∙ put_front bytes old m
