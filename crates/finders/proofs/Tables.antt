-- The held finders as the code has them, in a table. Assumes nothing.
use Rattle.std.proofs.Common.{◌≡◌, ℕ, suc, ◌+◌, ◌-◌, ◌<◌, ◌≤◌, Bool, true, false, cond, leb, List, [], ◌∷◌, ◌++◌, length, get_or, set, replicate, sym, refl, ap, ◌∙◌, subst, arith, length-append, length-set, leb-true}
use lib.Ieee.{nan}
use lib.Seq.{set-append_left}
use Rattle.std.specs.Prelude.{Result, Ok, Err, IsErrAnd, Some, None, position}
use Rattle.std.proofs.lemmas.List.Quantifiers.{position-Some}
use Rattle.std.specs.Bool.{⊤}
use Rattle.lcr_core.specs.declared.Refusal.{Refusal}
use Rattle.lcr_core.specs.declared.Refusal.TheVariants.{FullTable}
use Rattle.lists.specs.Lists.{folded, padded}
use Rattle.lists.proofs.Padded.{take-padded, get_or-padded, padded_more, length-padded}
use Rattle.lcr_core.specs.declared.finder.Finder.{Finder}
use Rattle.finders.specs.declared.Finders.{Finders}
use Rattle.finders.specs.Held.{Sighting, Held, held, over, within, join, fresh, place, merge, merge_next}
use Rattle.finders.specs.Search.{max_finders}
use Rattle.finders.specs.Answer.{finders_table, held_in}
use Rattle.lcr_core.specs.Finder.{zero_finder}
use Rattle.finders.specs.Inner.{EndsWith, Bounded, Good, Fine}
use Rattle.finders.proofs.Places.{merge-join, merge_new, merge_over, bounded_mono, place_bounded}

-- ---- a table and the list that it holds
pub held_in_lem : (fs : List Finder) → held_in (finders_table fs) ≡ fs
held_in_lem fs = take-padded max_finders zero_finder fs

-- of a table that holds a list, the list is the one that it holds
ends_held : (t : Finders) (s : Held) (gs : List Finder) → t ≡ finders_table gs → s ≡ held gs → (t ≡ finders_table (held_in t)) × (s ≡ held (held_in t))
ends_held t s gs e q = let h : held_in t ≡ gs = ap held_in e ∙ held_in_lem gs in (e ∙ ap finders_table (sym h), q ∙ ap held (sym h))

module _ (t : Finders) (w : t ≡ finders_table (held_in t)) where
  pub held_length : length (held_in t) ≡ t.count
  held_length = sym (ap (λ (z : Finders). z.count) w)

  table_is : t.table ≡ padded max_finders zero_finder (held_in t)
  table_is = ap (λ (z : Finders). z.table) w

  pub table_length : t.count ≤ max_finders → length t.table ≡ max_finders
  table_length h = ap length table_is ∙ length-padded max_finders zero_finder (held_in t) (rw held_length h)

pub same_table : (n m : ℕ) (t u : List Finder) → n ≡ m → t ≡ u → ◌≡◌ {A = Finders} (record { count = n; table = t }) (record { count = m; table = u })
same_table n m t u p q = rw (p, q)

-- what a read past the end gives
abbrev pub past : Finder
past = record { x = nan; y = nan; «module» = nan; confirmations = 0 }

-- ---- a hit in a table
module _ (t : Finders) (k : ℕ) (g : Good t k) (s : Sighting) where
  few : length (held_in t) ≤ max_finders
  few = rw (held_length t g.rest) g.few

  pub merged_at : (i : ℕ) (d v : Finder) → position (within s.x s.y) (held_in t) ≡ Some i → v ≡ join s.x s.y s.«module» (get_or t.table i d)
      → (let u : Finders = record { count = t.count; table = set t.table i v } in (u ≡ finders_table (held_in u)) × (merge max_finders (held_in t) s ≡ held (held_in u)))
  merged_at i d v h w =
      let n = held_length t g.rest in
      let l : i < length (held_in t) = (position-Some (within s.x s.y) (held_in t) i d h).0 in
      let q : get_or t.table i d ≡ get_or (held_in t) i d = ap (λ z. get_or z i d) (table_is t g.rest) ∙ get_or-padded max_finders zero_finder (held_in t) i d d l in
      let x : v ≡ join s.x s.y s.«module» (get_or (held_in t) i d) = w ∙ ap (join s.x s.y s.«module») q in
      let m = length-set (held_in t) i v in
      ends_held _ _ (set (held_in t) i v)
      (same_table t.count (length (set (held_in t) i v)) (set t.table i v) (padded max_finders zero_finder (set (held_in t) i v)) (sym (m ∙ n))
      (ap (λ z. set z i v) (table_is t g.rest) ∙ set-append_left (held_in t) (replicate (max_finders - length (held_in t)) zero_finder) i v l ∙ rw m))
      (merge-join s max_finders (held_in t) few i d h ∙ ap (λ z. held (set (held_in t) i z)) (sym x))

  module _ (h : position (within s.x s.y) (held_in t) ≡ None) where
    pub merged_new : t.count < max_finders
        → (let u : Finders = record { count = t.count + 1; table = set t.table t.count (fresh s) } in (u ≡ finders_table (held_in u)) × (merge max_finders (held_in t) s ≡ held (held_in u)))
    merged_new l =
        let n = held_length t g.rest in
        let b : length (held_in t) < max_finders = rw n l in
        ends_held _ _ (held_in t ++ (fresh s ∷ []))
        (same_table (t.count + 1) (length (held_in t ++ (fresh s ∷ []))) (set t.table t.count (fresh s)) (padded max_finders zero_finder (held_in t ++ (fresh s ∷ [])))
        (sym (length-append (held_in t) (fresh s ∷ []) ∙ ap (λ z. z + 1) n))
        (ap (λ z. set z t.count (fresh s)) (table_is t g.rest) ∙ ap (λ z. set (padded max_finders zero_finder (held_in t)) z (fresh s)) (sym n) ∙ padded_more max_finders zero_finder (held_in t) (fresh s) b))
        (merge_new s max_finders (held_in t) few h b)

    pub merged_over : max_finders ≤ t.count → merge max_finders (held_in t) s ≡ over
    merged_over l = merge_over s max_finders (held_in t) few h (rw (held_length t g.rest) l)

-- ---- a hit too many stays one
pub over_stays : (limit : ℕ) (ss : List Sighting) → folded (merge_next limit) over ss ≡ over
unfolding folded
over_stays limit [] = refl
over_stays limit (s ∷ ss) = over_stays limit ss

-- ---- the counts grow by one with a hit
pub fine_mono : (s : Held) (j k : ℕ) → j ≤ k → Fine s j → Fine s k
fine_mono over j k h f = tt
fine_mono (held fs) j k h f = (f.0, bounded_mono fs j k h f.1)

merge_fine : (fs : List Finder) (s : Sighting) (k : ℕ) → Bounded fs k → Fine (merge max_finders fs s) (k + 1)
unfolding merge
merge_fine fs s k b = go (leb (length (place fs s)) max_finders) refl
  where
    go : (t : Bool) → leb (length (place fs s)) max_finders ≡ t → Fine (cond t (held (place fs s)) over) (k + 1)
    go true e = (leb-true (length (place fs s)) max_finders e, place_bounded fs s k b)
    go false e = tt

pub next_fine : (s : Held) (h : Sighting) (k : ℕ) → Fine s k → Fine (merge_next max_finders s h) (k + 1)
next_fine over h k f = tt
next_fine (held fs) h k f = merge_fine fs h k f.1

pub folded_fine : (s : Held) (hs : List Sighting) (k : ℕ) → Fine s k → Fine (folded (merge_next max_finders) s hs) (k + length hs)
unfolding folded
folded_fine s [] k f = fine_mono s k (k + 0) (omega arith) f
folded_fine s (h ∷ hs) k f =
    fine_mono (folded (merge_next max_finders) (merge_next max_finders s h) hs) (k + 1 + length hs) (k + suc (length hs)) (omega arith)
    (folded_fine (merge_next max_finders s h) hs (k + 1) (next_fine s h k f))

-- ---- the table of what is held
pub good_of : (t : Finders) (s : Held) (k : ℕ) → t ≡ finders_table (held_in t) → s ≡ held (held_in t) → Fine s k → Good t k
good_of t s k w e f =
    let h : Fine (held (held_in t)) k = subst (λ z. Fine z k) e f in
    record { few = omega (arith, held_length t w, h.0); rest = w; counts = h.1 }

pub good_fine : (t : Finders) (k : ℕ) → Good t k → Fine (held (held_in t)) k
good_fine t k g = (omega (arith, held_length t g.rest, g.few), g.counts)

pub good_mono : (t : Finders) (j k : ℕ) → j ≤ k → Good t j → Good t k
good_mono t j k h g = record { few = g.few; rest = g.rest; counts = bounded_mono (held_in t) j k h g.counts }

-- ---- refusal 6, handed on
pub ends_error : (answer : Result ⊤ Refusal) (r : Refusal) (s : Held) (t : Finders) → IsErrAnd answer (λ e. e ≡ r) → r ≡ FullTable → s ≡ over → EndsWith s answer t
ends_error (Ok x) r s t i f o = absurd i
ends_error (Err e) r s t i f o = (o, i ∙ f)
