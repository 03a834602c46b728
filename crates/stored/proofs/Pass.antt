-- What is known where the checks pass, and what a refusal gives. Assumes nothing.
use Rattle.std.proofs.lemmas.Bool.{or_parts}
use Rattle.std.proofs.Common.{◌≡◌, ℕ, ◌+◌, ◌≤◌, ◌<◌, false, not, eqb, List, [], ◌∷◌, ◌++◌, length, set, sym, ap, ◌∙◌, le_trans, length-append, add-one, ltb-false}
use Rattle.lists.specs.Lists.{tabulate, padded}
use Rattle.lists.proofs.Padded.{padded_more}
use Rattle.lists.proofs.Tabulate.{length-tabulate}
use Rattle.lcr_core.specs.Outcome.{first_of, zero_side, large_side}
use Rattle.lcr_core.specs.Passed.{Sides}
use Rattle.lcr_core.proofs.Checks.{first_passes, sides_pass}
use Rattle.lcr_core.specs.declared.finder.Finder.{Finder}
use Rattle.lcr_core.specs.Finder.{zero_finder}
use Rattle.finders.specs.declared.Finders.{Finders}
use Rattle.finders.specs.Search.{max_finders}
use Rattle.finders.specs.Answer.{finders_table}
use Rattle.stored.specs.Stored.{Form, form_two, form_in, count_in, size_in, size_of, bad_length, many_finders, short_output, write_checks}
use Rattle.stored.proofs.Forms.{form_fits}

-- ---- the reader
-- a count that is not over the most
pub few_finders : (f : Form) (n : ℕ) → false ≡ many_finders f n → n ≤ f.most
unfolding many_finders
few_finders f n e = ltb-false f.most n (sym e)

-- the finders that are read fit the table
pub few_read : (bytes : List ℕ) (len : ℕ) → false ≡ bad_length (form_in bytes) len (count_in bytes) → count_in bytes ≤ max_finders
unfolding bad_length
few_read bytes len e =
    let f = form_in bytes in
    let p = or_parts (many_finders f (count_in bytes)) (not (eqb len (size_in f (count_in bytes)))) (sym e) in
    le_trans (few_finders f (count_in bytes) (sym p.0)) (form_fits bytes)

-- one finder more in a table
pub one_more : (t : Finders) (g : ℕ → Finder) (k : ℕ) (f : Finder) → t ≡ finders_table (tabulate k g) → k < max_finders → f ≡ g k
    → record { count = k + 1; table = set t.table k f } ≡ finders_table (tabulate (k + 1) g)
unfolding tabulate
one_more t g k f e h q =
    let n = length-tabulate k g in
    let l : length (tabulate k g) < max_finders = rw n h in
    let a : length (tabulate k g ++ (g k ∷ [])) ≡ k + 1 = length-append (tabulate k g) (g k ∷ []) ∙ ap (λ z. z + 1) n in
    same (sym a)
    (ap (λ z. set z k f) (ap (λ (z : Finders). z.table) e)
    ∙ rw (q)
    (ap (λ z. set (padded max_finders zero_finder (tabulate k g)) z (g k)) (sym n) ∙ padded_more max_finders zero_finder (tabulate k g) (g k) l))
    ∙ ap (λ z. finders_table (tabulate z g)) (sym (add-one k))
  where
    same : {n m : ℕ} {t u : List Finder} → n ≡ m → t ≡ u → ◌≡◌ {A = Finders} (record { count = n; table = t }) (record { count = m; table = u })
    same p q = rw (p, q)

-- ---- the writer
pub write_pass : (count w h len : ℕ) → 0 ≡ first_of (write_checks count w h len) → Sides w h × (count ≤ max_finders) × (size_of count ≤ len)
unfolding short_output
write_pass count w h len e =
    let p = first_passes (zero_side w h) 0 _ (sym e) in
    let q = first_passes (large_side w h) 1 _ p.1 in
    let r = first_passes (many_finders form_two count) 7 _ q.1 in
    let s = first_passes (short_output len count) 4 _ r.1 in
    (sides_pass w h p.0 q.0, few_finders form_two count (sym r.0), ltb-false len (size_of count) s.0)
