-- The table of a search that holds what any table holds, and whether each of its finders can be confirmed once more. Assumes nothing.
use Rattle.std.proofs.Common.{◌≡◌, ℕ, ◌+◌, ◌-◌, ◌^◌, ◌<◌, ◌≤◌, true, false, List, [], ◌∷◌, ◌++◌, length, get_or, take, set, sym, subst, ap, ◌∙◌, arith, add-one, length-take-le, take-suc}
use mathlib.Core.Bool.{true≢false}
use Rattle.std.specs.Prelude.{nat_lt}
use Rattle.std.proofs.lemmas.Bool.{and_parts, ltb-true, lt-ltb}
use Rattle.lists.specs.Lists.{padded}
use Rattle.lists.proofs.Padded.{padded_more}
use Rattle.lcr_core.specs.declared.finder.Finder.{Finder}
use Rattle.lcr_core.specs.Finder.{zero_finder}
use Rattle.finders.specs.declared.Finders.{Finders}
use Rattle.finders.specs.Search.{max_finders}
use Rattle.finders.specs.Answer.{finders_table, held_in}
use Rattle.finders.specs.Inner.{Bounded, is_countable, Good}
use Rattle.finders.proofs.Tables.{same_table, held_in_lem}

-- one finder more of a list stands in its table
pub settled_more : (fs : List Finder) (i : ℕ) (d : Finder) (t : Finders) → length fs ≤ max_finders → i < length fs → t ≡ finders_table (take i fs)
    → record { count = i + 1; table = set t.table i (get_or fs i d) } ≡ finders_table (take (i + 1) fs)
settled_more fs i d t few l e =
    let x = get_or fs i d in
    let n : length (take i fs) ≡ i = length-take-le i fs (omega arith) in
    let next : take (i + 1) fs ≡ take i fs ++ (x ∷ []) = rw add-one (take-suc fs i d l) in
    same_table (i + 1) (length (take (i + 1) fs)) (set t.table i x) (padded max_finders zero_finder (take (i + 1) fs))
    (sym (length-take-le (i + 1) fs (omega arith)))
    (ap (λ (z : Finders). set z.table i x) e ∙ ap (λ k. set (padded max_finders zero_finder (take i fs)) k x) (sym n) ∙ padded_more max_finders zero_finder (take i fs) x (omega (arith, n)) ∙ ap (padded max_finders zero_finder) (sym next))

-- where each finder can be confirmed once more, no count is too high
pub countable : (fs : List Finder) → is_countable fs ≡ true → Bounded fs (2 ^ 32 - 2)
countable [] e = tt
countable (f ∷ fs) e =
    let p = and_parts (nat_lt f.confirmations (2 ^ 32 - 1)) (is_countable fs) e in
    (omega (arith, ltb-true f.confirmations (2 ^ 32 - 1) p.0), countable fs p.1)

-- else one is
pub uncountable : (fs : List Finder) → is_countable fs ≡ false → Bounded fs (2 ^ 32 - 2) → ⊥
uncountable [] e b = true≢false e
uncountable (f ∷ fs) e b = uncountable fs (rw (lt-ltb f.confirmations (2 ^ 32 - 1) (omega (arith, b.0))) at e) b.1

-- a hit can then be merged into the table of a search that holds the same
pub settled_good : (t u : Finders) → u ≡ finders_table (held_in t) → u.count ≤ max_finders → Bounded (held_in t) (2 ^ 32 - 2) → Good u (2 ^ 32 - 2)
settled_good t u e few b =
    let h : held_in u ≡ held_in t = ap held_in e ∙ held_in_lem (held_in t) in
    let w : u ≡ finders_table (held_in u) = e ∙ ap finders_table (sym h) in
    record { few = few; rest = w; counts = subst (λ fs. Bounded fs (2 ^ 32 - 2)) (sym h) b }
