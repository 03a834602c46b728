-- The answer of the preview and what it writes, from what its calls say. Assumes nothing.
use mathlib.Core.Path.{◌≡◌, sym, ap, ◌∙◌}
use mathlib.Core.Bool.{cond}
use Prim.Native.Nat.{ℕ, ◌≤◌}
use native.Mathlib.Omega.{arith}
use lib.Dec.{ltb}
use lib.ListN.{length}
use borrow.Author.Tests.{le-ltb, ltb-false}
use Rattle.std.specs.Prelude.{List, [], ◌∷◌, ◌++◌, Result, Ok}
use Rattle.lists.specs.Lists.{Each, written}
use Rattle.lcr_core.specs.Answer.{behind}
use Rattle.lcr_core.specs.Outcome.{Check, number_of, first_of, if_refused, zero_side, large_side}
use Rattle.lcr_core.specs.declared.Refusal.{Refusal}
use Rattle.lcr_core.proofs.Checks.{first_passes, part_passes, passed_first, if_refused_done}
use Rattle.lcr_core.proofs.Answers.{behind_passed}
use Rattle.finders.specs.declared.Finders.{Finders}
use Rattle.finders.specs.Search.{max_finders, found}
use Rattle.finders.specs.Answer.{is_over, held_in, finders_in, finders_of, answer_of}
use Rattle.finders.proofs.Outcomes.{answer_number, answer_table}
use Rattle.finders.proofs.Theorems.{few_finders}
use Rattle.candidates.proofs.Tails.{search_tail}
use Rattle.stages.specs.Stages.{Room, stages_refusal}
use Rattle.stages.specs.Pictures.{Picture, denoised_picture, left_after}
use Rattle.stages.proofs.Closed.{Other}
use Rattle.stages.proofs.Theorems.{denoised_first}
use Rattle.stored.specs.Stored.{stored_bytes, size_of, many_finders, short_output, write_refusal}
use Rattle.chain.proofs.Theorems.{of_its_bytes, search_six}
use Rattle.preview.specs.Limit.{Limit, preview_limit, limited_checks}
use Rattle.preview.specs.Preview.{preview_of, short_list, preview_entry_checks, list_after}
use Rattle.preview.proofs.Limits.{taken, all_others}

module _ (p : Picture) where
  abbrev w : ℕ
  w = p.width

  abbrev h : ℕ
  h = p.height

  -- the search of the denoised bits, where the stages refuse with m, which is 0
  pub previewed : (m : ℕ) → m ≡ 0 → (old done : List ℕ) → done ≡ left_after m (denoised_picture p) old → (r : Result Finders Refusal) → r ≡ answer_of done w h → r ≡ preview_of p
  unfolding preview_of
  previewed m z old done e r a = a ∙ sym (search_tail done w h) ∙ ap (λ (d : List ℕ). answer_of d w h) (denoised_first m p z old done e)

  module _ (r : Room) where
    -- it refuses nothing, or 6
    pub preview_number : stages_refusal p r ≡ 0
        → number_of (preview_of p) ≡ cond (is_over (found (denoised_picture p) w h)) 6 0
    unfolding preview_of
    preview_number e = answer_number (denoised_picture p) w h ∙ search_six p (length p.bytes) r (of_its_bytes p r e)

    -- ---- the stored list, where the checks of an entry with a limit pass, and that of the list's slice behind them
    module _ (l : Limit) (room : ℕ) where
      abbrev cs : List Check
      cs = limited_checks l p r

      module _ (z : 0 ≡ first_of (cs ++ (short_list room ∷ []))) where
        first_six : 0 ≡ first_of cs
        first_six = part_passes 6 (cs ++ (short_list room ∷ [])) z

        enough : size_of max_finders ≤ room
        enough = ltb-false room (size_of max_finders) (first_passes (ltb room (size_of max_finders)) 4 0 (passed_first 6 (cs ++ (short_list room ∷ [])) first_six ∙ sym z)).0

        module _ (t : Finders) (g : Ok t ≡ behind cs (preview_of p)) where
          is_preview : Ok t ≡ preview_of p
          is_preview = g ∙ sym (behind_passed cs (preview_of p) first_six)

          few : t.count ≤ max_finders
          unfolding preview_of
          few =
              let d = denoised_picture p in
              let k : t.count ≡ length (finders_of d w h) = ap (λ (t : Finders). t.count) (answer_table d w h t is_preview).1 in
              omega (arith, few_finders d w h, k)

          not_refused : write_refusal t w h room ≡ 0
          unfolding write_refusal many_finders short_output stages_refusal
          not_refused =
              let p1 = first_passes (zero_side w h) 0 _ (sym (taken p r l first_six).2) in
              let p2 = first_passes (large_side w h) 1 _ p1.1 in
              rw (p1.0, p2.0, le-ltb max_finders t.count few, le-ltb room (size_of t.count) (omega (arith, enough, few)))

          pub list_written : (n : ℕ) → n ≡ write_refusal t w h room → (x old : List ℕ) → x ≡ if_refused n old (written (stored_bytes w h (held_in t)) old) → x ≡ list_after 0 p old
          list_written n k x old e =
              e ∙ sym (if_refused_done n old _ (k ∙ not_refused))
              ∙ ap (λ (a : Result Finders Refusal). written (stored_bytes w h (held_in (finders_in a))) old) is_preview

-- none of the checks of the entry for C gives 6
pub entry_others : (p : Picture) (r : Room) (len : ℕ) → Each Other (preview_entry_checks p r len)
entry_others p r len = all_others p r preview_limit (λ e. omega arith) (short_list len ∷ []) ((λ e. omega arith), tt)
