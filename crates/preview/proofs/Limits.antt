-- What holds of an entry with any limit, and of any checks that it makes behind these (document 02, N2). Assumes nothing.
use Rattle.std.proofs.lemmas.Bool.{or_parts}
use mathlib.Core.Path.{◌≡◌, refl, sym, ap, ◌∙◌}
use mathlib.Core.Bool.{Bool, true, false, cond, ◌||◌}
use Prim.Native.Nat.{ℕ, zero, suc, ◌≤◌}
use native.Mathlib.Omega.{arith}
use lib.Dec.{ltb}
use borrow.Author.Tests.{ltb-false}
use Rattle.std.specs.Prelude.{List, ◌++◌, take, Result, Err}
use Rattle.lists.specs.Lists.{Each, written}
use Rattle.lcr_core.specs.Answer.{behind}
use Rattle.lcr_core.specs.Outcome.{Check, refusal_number, number_of, first_of, if_refused, zero_side, large_side}
use Rattle.lcr_core.specs.declared.Refusal.{Refusal}
use Rattle.lcr_core.specs.declared.Refusal.TheVariants.{ZeroSide, LargeSide}
use Rattle.lcr_core.proofs.Checks.{some_number, part_passes, passed_first}
use Rattle.lcr_core.proofs.Answers.{number_behind}
use Rattle.stages.specs.Stages.{Room, stages_checks, stages_refusal}
use Rattle.stages.specs.Pictures.{Picture, left_after}
use Rattle.stages.proofs.Closed.{Other, not_six, left_other}
use Rattle.preview.specs.Limit.{Limit, full_limit, over_limit, limited_checks}

module _ (p : Picture) (r : Room) where
  abbrev w : ℕ
  w = p.width

  abbrev h : ℕ
  h = p.height

  -- the full entry is the one with the limit 4,096: its checks are those of before, whatever is checked and answered behind them
  pub full_is : {A : Type 0} (ks : List Check) (a : Result A Refusal)
      → behind (limited_checks full_limit p r ++ ks) a ≡ behind (stages_checks p r ++ ks) a
  unfolding over_limit large_side
  full_is {A = A} ks a = go (zero_side w h) (ltb 4096 w || ltb 4096 h) _
    where
      go : (z o : Bool) (r : Result A Refusal) → cond z (Err ZeroSide) (cond o (Err LargeSide) (cond o (Err LargeSide) r)) ≡ cond z (Err ZeroSide) (cond o (Err LargeSide) r)
      go true o r = refl
      go false true r = refl
      go false false r = refl

  module _ (l : Limit) where
    -- its checks
    abbrev cs : List Check
    cs = limited_checks l p r

    -- 1, then the limit's, then the stages'
    pub in_order : first_of cs ≡ cond (zero_side w h) 1 (cond (over_limit l w h) (refusal_number l.refusal) (stages_refusal p r))
    unfolding stages_refusal
    in_order = go (zero_side w h) (over_limit l w h) _ _
      where
        go : (z o : Bool) (n r : ℕ) → cond z 1 (cond o n r) ≡ cond z 1 (cond o n (cond z 1 r))
        go true o n r = refl
        go false o n r = refl

    -- what passes the first two is refused as the stages refuse it
    pub frame_passed : 0 ≡ first_of (take 2 cs) → stages_refusal p r ≡ first_of cs
    unfolding stages_refusal
    frame_passed e =
        let z : 0 ≡ first_of (take 1 cs) = part_passes 1 (take 2 cs) e in
        sym (passed_first 1 (stages_checks p r) z) ∙ passed_first 2 cs e

    -- what it takes is within the limit, and the full entry takes it too
    pub taken : 0 ≡ first_of cs → (w ≤ l.width) × (h ≤ l.height) × (0 ≡ stages_refusal p r)
    unfolding over_limit
    taken e =
        let f = part_passes 2 cs e in
        let q = or_parts (ltb l.width w) (ltb l.height h) (within f) in
        (ltb-false l.width w q.0, ltb-false l.height h q.1, e ∙ sym (frame_passed f))
      where
        within : 0 ≡ first_of (take 2 cs) → over_limit l w h ≡ false
        within = go (zero_side w h) (over_limit l w h)
          where
            go : (z o : Bool) → 0 ≡ cond z 1 (cond o (refusal_number l.refusal) 0) → o ≡ false
            go true o e = absurd (omega arith)
            go false true e = absurd (some_number l.refusal (sym e))
            go false false e = refl

    -- ---- with an answer behind further checks
    module _ (six : refusal_number l.refusal ≡ 6 → ⊥) (ks : List Check) (others : Each Other ks) where
      -- none of them gives 6
      pub all_others : Each Other (cs ++ ks)
      all_others = ((λ e. omega arith), (six, ((λ e. omega arith), ((λ e. omega arith), ((λ e. omega arith), ((λ e. omega arith), others))))))

      module _ {A : Type 0} (a : Result A Refusal) where
        abbrev n : ℕ
        n = number_of (behind (cs ++ ks) a)

        -- after a refusal of the checks nothing is written
        pub nothing_written : (first_of (cs ++ ks) ≡ 0 → ⊥) → (new old : List ℕ) → left_after n new old ≡ old
        nothing_written z new old = go (first_of (cs ++ ks)) z (not_six (cs ++ ks) all_others) (number_behind (cs ++ ks) a)
          where
            go : (m : ℕ) → (m ≡ 0 → ⊥) → (m ≡ 6 → ⊥) → n ≡ if_refused m m (number_of a) → left_after n new old ≡ old
            go zero z k e = absurd (z refl)
            go (suc m) z k e = ap (λ (n : ℕ). left_after n new old) e ∙ sym (left_other (suc m) z k new old)

        -- 6 comes behind them, and each slice is then as after 0
        pub six_takes : n ≡ 6 → 0 ≡ first_of (cs ++ ks)
        six_takes e = go (first_of (cs ++ ks)) (not_six (cs ++ ks) all_others) (sym e ∙ number_behind (cs ++ ks) a)
          where
            go : (m : ℕ) → (m ≡ 6 → ⊥) → 6 ≡ if_refused m m (number_of a) → 0 ≡ m
            go zero k e = refl
            go (suc m) k e = absurd (k (sym e))

        pub six_finished : n ≡ 6 → (new old : List ℕ) → left_after n new old ≡ written new old
        unfolding left_after
        six_finished e new old = ap (λ (n : ℕ). left_after n new old) e
