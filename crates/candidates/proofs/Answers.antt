-- What the calls answer, from what they find. Assumes nothing.
use mathlib.Core.Path.{◌≡◌, refl, sym, ◌∙◌, ap}
use mathlib.Core.Bool.{Bool, true, false, cond}
use mathlib.Core.List.{List, [], ◌∷◌}
use Prim.Native.Nat.{ℕ}
use lib.ListN.{length, take}
use Rattle.std.specs.Prelude.{slice_get, Option, Result, Ok, Err, IsErrAnd}
use Rattle.lcr_core.specs.Answer.{checked}
use Rattle.lcr_core.specs.Outcome.{Check, number_of}
use Rattle.lcr_core.specs.declared.Refusal.{Refusal}
use Rattle.lcr_core.proofs.Answers.{number_checked, checked_passed, refused_by}
use Rattle.binary.specs.Refusal.{bits_checks}
use Rattle.lcr_core.specs.declared.finder.Finder.{Finder}
use Rattle.finders.specs.declared.Finders.{Finders}
use Rattle.finders.specs.Answer.{finders_table, find_checks, find_refusal, finders_of, answer_of}
use Rattle.finders.specs.Search.{found}
use Rattle.finders.proofs.Outcomes.{answer_table, answer_refusal}
use Rattle.ranking.specs.declared.Eight.{Eight}
use Rattle.ranking.specs.Tables.{in_use, eight_of}
use Rattle.lists.proofs.Padded.{take-padded}
use Rattle.candidates.specs.Detection.{zero_detection}
use Rattle.candidates.specs.declared.Detection.{Detection}
use Rattle.candidates.specs.declared.Detections.{Detections}
use Rattle.candidates.specs.Candidates.{detections_of, detections_table, table_in, first_detection, from_answer, detect_answer, detect_first}
use Rattle.candidates.proofs.Tables.{detections_in_lem}

-- ---- the answer of a lent list
pub from-eight : (bits : List ℕ) (w h : ℕ) (fs : List Finder) (t : Eight) → t ≡ eight_of fs → from_answer bits w h (in_use t) ≡ from_answer bits w h fs
unfolding from_answer
from-eight bits w h fs t e = ap (λ (ds : List Detection). checked (bits_checks (length bits) w h) (detections_table ds)) (detections_in_lem bits w h fs t e)

-- ---- what holds of no detection and of a table holds of what is answered with that table
pub in_checked : (P : Detections → Type 0) (cs : List Check) (t : Detections) → P (detections_table []) → P t → P (table_in (checked cs t))
in_checked P [] t none some = some
in_checked P (c ∷ cs) t none some = go c.refuses (in_checked P cs t none some)
  where
    go : (b : Bool) → P (table_in (checked cs t)) → P (table_in (cond b (Err c.refusal) (checked cs t)))
    go true k = none
    go false k = k

-- ---- the answer of a search, and the detections of its finders
module _ (bits : List ℕ) (w h : ℕ) where
  abbrev checks : List Check
  checks = find_checks (length bits) w h (found bits w h)

  abbrev table : Detections
  table = detections_table (detections_of bits w h (finders_of bits w h))

  abbrev one : Option Detection
  one = first_detection (detections_of bits w h (finders_of bits w h))

  -- its number is the search's
  pub detect_number : number_of (detect_answer bits w h) ≡ find_refusal bits w h
  unfolding detect_answer find_refusal
  detect_number = number_checked checks table

  pub searched : (found : Finders) (t : Eight) → Ok found ≡ answer_of bits w h → ((gs : List Finder) → found ≡ finders_table gs → t ≡ eight_of gs)
      → (r : Detections) → r ≡ detections_table (detections_of bits w h (in_use t)) → Ok r ≡ detect_answer bits w h
  unfolding detect_answer find_refusal
  searched found t e k r g =
      let f = answer_table bits w h found e in
      ap Ok (g ∙ ap detections_table (detections_in_lem bits w h (finders_of bits w h) t (k (finders_of bits w h) f.1))) ∙ checked_passed checks table (sym f.0)

  -- where the search refuses, so do they; r, which the code hands on, is found by what refuses
  pub search_refused : (r : Refusal) → Err r ≡ answer_of bits w h → (answer : Result Detections Refusal) → IsErrAnd answer (λ e. e ≡ r) → answer ≡ detect_answer bits w h
  unfolding detect_answer find_refusal
  search_refused r e answer i = refused_by answer r i checks table (answer_refusal bits w h r e)

  pub search_refused_with : (r : Refusal) → Err r ≡ answer_of bits w h → Err r ≡ detect_answer bits w h
  search_refused_with r e = search_refused r e (Err r) refl

  -- the first of them
  pub first_refused : (r : Refusal) → Err r ≡ detect_answer bits w h → (answer : Result (Option Detection) Refusal) → IsErrAnd answer (λ e. e ≡ r) → answer ≡ detect_first bits w h
  unfolding detect_answer detect_first
  first_refused r e answer i = refused_by answer r i checks one (ap number_of e ∙ number_checked checks table)

  -- the table that is answered
  answered : (t : Detections) → Ok t ≡ detect_answer bits w h → (0 ≡ find_refusal bits w h) × (t ≡ detections_table (detections_of bits w h (finders_of bits w h)))
  unfolding detect_answer find_refusal
  answered t e =
      let n : 0 ≡ find_refusal bits w h = ap number_of e ∙ number_checked checks table in
      let x = checked_passed checks table n in
      (n, cc (e, x))

  first_is : (ds : List Detection) → slice_get ds 0 ≡ first_detection ds
  first_is [] = refl
  first_is (x ∷ ds) = refl

  pub first_found : (t : Detections) → Ok t ≡ detect_answer bits w h → (ds : List Detection) → ds ≡ take t.count t.at → (r : Option Detection) → r ≡ slice_get ds 0 → Ok r ≡ detect_first bits w h
  unfolding detect_first find_refusal
  first_found t e ds q r g =
      let a = answered t e in
      let all = detections_of bits w h (finders_of bits w h) in
      let k : ds ≡ all = q ∙ ap (λ (t : Detections). take t.count t.at) a.1 ∙ take-padded 3 zero_detection all in
      ap Ok (g ∙ ap (λ (l : List Detection). slice_get l 0) k ∙ first_is all) ∙ checked_passed checks one a.0
