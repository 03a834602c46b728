-- What the searched table says of the answer, and the refusals. Assumes nothing.
use Rattle.std.proofs.Common.{◌≡◌, ℕ, ◌+◌, ◌≤◌, true, false, List, [], length, sym, ap, ◌∙◌, arith}
use Rattle.std.specs.Prelude.{Result, Ok, Err, IsErrAnd}
use Rattle.lcr_core.specs.Outcome.{refusal_number, number_of}
use Rattle.lcr_core.specs.declared.Refusal.{Refusal}
use Rattle.lcr_core.specs.declared.Refusal.TheVariants.{FullTable}
use Rattle.lcr_core.specs.Passed.{Sides}
use Rattle.lcr_core.proofs.Checks.{refused_first, passed_first}
use Rattle.lcr_core.proofs.Answers.{number_checked, checked_passed, refused_by}
use Rattle.binary.specs.Refusal.{bits_refusal}
use Rattle.lcr_core.specs.declared.finder.Finder.{Finder}
use Rattle.finders.specs.declared.Finders.{Finders}
use Rattle.finders.specs.Held.{Held, held, over}
use Rattle.finders.specs.Search.{max_finders, found}
use Rattle.finders.specs.Rank.{by_confirmations}
use Rattle.finders.specs.Answer.{finders_table, held_in, find_checks, find_refusal, finders_of, answer_after, answer_of}
use Rattle.finders.specs.Inner.{axis_most, Good, Fine, axis}
use Rattle.finders.proofs.Tables.{fine_mono, good_of, good_mono}
use Rattle.finders.proofs.Axes.{axis_fine, axis_over, found_is}

-- ---- the search starts from no finders
none_fine : Fine (held []) 0
none_fine = (omega arith, tt)

none_held : (t : Finders) → t ≡ finders_table [] → held [] ≡ held (held_in t)
none_held t e = ap held (sym (ap held_in e))

pub none_good : (t : Finders) → t ≡ finders_table [] → Good t axis_most
none_good t e = good_of t (held []) axis_most (e ∙ ap finders_table (sym (ap held_in e))) (none_held t e) (fine_mono (held []) 0 axis_most (omega arith) none_fine)

-- ---- the rows, then the columns
module _ (bits : List ℕ) (width height : ℕ) (p : Sides width height) (t : Finders) (n : t ≡ finders_table []) where
  abbrev rows : Held
  rows = axis bits width height false (held [])

  rows_fine : Fine rows (0 + axis_most)
  rows_fine = axis_fine bits width height p false (held []) 0 none_fine

  -- a hit too many among the rows
  pub rows_over : axis bits width height false (held (held_in t)) ≡ over → found bits width height ≡ over
  rows_over e =
      found_is bits width height ∙ ap (axis bits width height true) (ap (axis bits width height false) (none_held t n) ∙ e)
      ∙ axis_over bits width height p true

  module _ (u : Finders) (w : u ≡ finders_table (held_in u)) (e : axis bits width height false (held (held_in t)) ≡ held (held_in u)) where
    rows_held : rows ≡ held (held_in u)
    rows_held = ap (axis bits width height false) (none_held t n) ∙ e

    pub rows_good : Good u axis_most
    rows_good = good_mono u (0 + axis_most) axis_most (omega arith) (good_of u rows (0 + axis_most) w rows_held rows_fine)

    all_is : found bits width height ≡ axis bits width height true (held (held_in u))
    all_is = found_is bits width height ∙ ap (axis bits width height true) rows_held

    -- a hit too many among the columns
    pub columns_over : axis bits width height true (held (held_in u)) ≡ over → found bits width height ≡ over
    columns_over h = all_is ∙ h

    -- none too many
    module _ (v : Finders) (x : v ≡ finders_table (held_in v)) (h : axis bits width height true (held (held_in u)) ≡ held (held_in v)) where
      all_fine : Fine (axis bits width height true rows) (0 + axis_most + axis_most)
      all_fine = axis_fine bits width height p true rows (0 + axis_most) rows_fine

      pub all_few : v.count ≤ max_finders
      all_few = (good_of v (axis bits width height true rows) (0 + axis_most + axis_most) x (ap (axis bits width height true) rows_held ∙ h) all_fine).few

      pub all_held : found bits width height ≡ held (held_in v)
      all_held = all_is ∙ h

-- ---- the answer
module _ (bits : List ℕ) (width height : ℕ) where
  -- a refusal before the search
  pub refuse_is : (answer : Result Finders Refusal) (r : Refusal) → IsErrAnd answer (λ e. e ≡ r) → refusal_number r ≡ bits_refusal (length bits) width height → answer ≡ answer_of bits width height
  unfolding answer_of bits_refusal
  refuse_is answer r i e =
      let cs = find_checks (length bits) width height (found bits width height) in
      refused_by answer r i cs (finders_table (finders_of bits width height)) (refused_first 3 cs r e)

  -- after the checks, 6 or the finders held at the end, ranked
  module _ (e : 0 ≡ bits_refusal (length bits) width height) where
    pub six_is : (answer : Result Finders Refusal) (r : Refusal) → IsErrAnd answer (λ e. e ≡ r) → r ≡ FullTable → found bits width height ≡ over → answer ≡ answer_of bits width height
    unfolding answer_of bits_refusal
    six_is answer r i f o =
        let cs = find_checks (length bits) width height over in
        refused_by answer r i cs (finders_table []) (ap refusal_number f ∙ passed_first 3 cs e)
        ∙ sym (ap (answer_after (length bits) width height) o)

    pub ranked_is : (fs : List Finder) (t : Finders) → found bits width height ≡ held fs → t ≡ finders_table (by_confirmations fs) → Ok t ≡ answer_of bits width height
    unfolding answer_of bits_refusal
    ranked_is fs t o q =
        let cs = find_checks (length bits) width height (held fs) in
        ap Ok q ∙ checked_passed cs (finders_table (by_confirmations fs)) (passed_first 3 cs e) ∙ sym (ap (answer_after (length bits) width height) o)

  -- its number, and its finders
  pub answer_number : number_of (answer_of bits width height) ≡ find_refusal bits width height
  unfolding answer_of find_refusal
  answer_number = number_checked (find_checks (length bits) width height (found bits width height)) (finders_table (finders_of bits width height))

  pub answer_table : (t : Finders) → Ok t ≡ answer_of bits width height → (find_refusal bits width height ≡ 0) × (t ≡ finders_table (finders_of bits width height))
  unfolding answer_of find_refusal
  answer_table t e =
      let n : 0 ≡ find_refusal bits width height = ap number_of e ∙ answer_number in
      let x = checked_passed (find_checks (length bits) width height (found bits width height)) (finders_table (finders_of bits width height)) n in
      (sym n, cc (e, x))

  pub answer_refusal : (r : Refusal) → Err r ≡ answer_of bits width height → refusal_number r ≡ find_refusal bits width height
  answer_refusal r e = ap number_of e ∙ answer_number

-- what the calls of `find_finders` ask for
pub ruleset search_steps = (none_good, rows_good, all_few)
