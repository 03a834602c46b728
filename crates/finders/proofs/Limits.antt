-- A larger table gives what a smaller one gave (document 02, N9). Assumes nothing.
use Rattle.std.proofs.Common.{◌≡◌, ℕ, ◌≤◌, Bool, true, false, cond, leb, List, [], ◌∷◌, length, sym, refl, ap, ◌∙◌, arith, le-leb, leb-true}
use Rattle.std.specs.Prelude.{Ok}
use Rattle.lists.specs.Lists.{folded}
use Rattle.lcr_core.specs.Outcome.{number_of, zero_side, large_side}
use Rattle.lcr_core.proofs.Answers.{number_checked}
use Rattle.binary.specs.Refusal.{short_bits}
use Rattle.lcr_core.specs.declared.finder.Finder.{Finder}
use Rattle.finders.specs.declared.Finders.{Finders}
use Rattle.finders.specs.Held.{Sighting, Held, held, over, place, merge, merge_next}
use Rattle.finders.specs.Search.{max_finders, sightings, found_by}
use Rattle.finders.specs.Answer.{find_checks, finders_after, finders_table, answer_after, answer_of}
use Rattle.finders.specs.Limit.{found_under, answer_under}
use Rattle.finders.proofs.Tables.{over_stays}

module _ (a b : ℕ) (l : a ≤ b) where
  -- of any hits
  larger_table : (fs gs : List Finder) (ss : List Sighting) → folded (merge_next a) (held fs) ss ≡ held gs → folded (merge_next b) (held fs) ss ≡ held gs
  unfolding folded merge
  larger_table fs gs [] e = e
  larger_table fs gs (s ∷ ss) e = go (leb (length (place fs s)) a) refl (larger_table (place fs s) gs ss) e
    where
      go : (t : Bool) → leb (length (place fs s)) a ≡ t
          → (folded (merge_next a) (held (place fs s)) ss ≡ held gs → folded (merge_next b) (held (place fs s)) ss ≡ held gs)
          → folded (merge_next a) (cond t (held (place fs s)) over) ss ≡ held gs → folded (merge_next b) (merge b fs s) ss ≡ held gs
      go true k next h = rw (le-leb (length (place fs s)) b (omega (arith, l, leb-true (length (place fs s)) a k))) (next h)
      go false k next h = let z : over ≡ held gs = sym (over_stays a ss) ∙ h in let y : ◌≡◌ {A = ℕ} 0 1 = cc in absurd (omega arith)

  -- of a picture: where it is not refused under the smaller limit, it gives the same under the larger one
  larger_limit : (bits : List ℕ) (w h : ℕ) (t : Finders) → answer_under a bits w h ≡ Ok t → answer_under b bits w h ≡ Ok t
  larger_limit bits w h t e = go (found_under a bits w h) refl
    where
      never : (z l s : Bool) → ◌≡◌ {A = ℕ} (cond z 1 (cond l 2 (cond s 4 6))) 0 → ⊥
      never true l s k = absurd (omega arith)
      never false true s k = absurd (omega arith)
      never false false true k = absurd (omega arith)
      never false false false k = absurd (omega arith)

      go : (s : Held) → found_under a bits w h ≡ s → answer_under b bits w h ≡ Ok t
      go over p =
          let k = sym (number_checked (find_checks (length bits) w h over) (finders_table (finders_after over))) ∙ ap number_of (sym (ap (answer_after (length bits) w h) p) ∙ e) in
          absurd (never (zero_side w h) (large_side w h) (short_bits (length bits) w h) k)
      go (held fs) p = ap (answer_after (length bits) w h) (larger_table [] fs (sightings bits w h) p ∙ sym p) ∙ e

-- `find_finders` is that of the detector's table
own_limit : (bits : List ℕ) (w h : ℕ) → answer_of bits w h ≡ answer_under max_finders bits w h
unfolding answer_of found_by
own_limit bits w h = refl
