-- The refusal 6 and the ranking in document 01's words, as corollaries of the definitions. Assumes nothing.
use Rattle.std.proofs.Common.{◌≡◌, ℕ, suc, ◌+◌, ◌<◌, ◌≤◌, Bool, true, false, cond, eqb, ltb, leb, ◌⊎◌, List, [], ◌∷◌, ◌++◌, length, sym, refl, ap, ◌∙◌, inl, inr, true≢false, append_assoc, append-nil, le_trans, le_refl, le_of_lt, arith, ltb-false, ltb-true, ne_eqb, eqb-true, leb-false, leb-true}
use borrow.Author.Tests.{lt-leb}
use Rattle.lists.specs.Lists.{Each, folded, those}
use Rattle.lists.proofs.Filters.{each_map, those-none, those-append}
use Rattle.lcr_core.specs.Outcome.{number_of, zero_side, large_side}
use Rattle.binary.specs.Refusal.{short_bits, bits_refusal}
use Rattle.lcr_core.specs.declared.finder.Finder.{Finder}
use Rattle.finders.specs.Held.{Sighting, Held, held, over, within, join, place, merge, merge_next}
use Rattle.finders.specs.Search.{max_finders, sightings, found_by, found}
use Rattle.finders.specs.Rank.{stays, insert, by_confirmations}
use Rattle.finders.specs.Answer.{is_over, find_refusal, finders_after, finders_of, answer_of}
use Rattle.finders.proofs.Outcomes.{answer_number}
use Rattle.finders.proofs.Tables.{over_stays}
use Rattle.finders.proofs.Ranks.{insert-length}

-- ---- 6: a hit is one too many if and only if it falls within no held finder while the table is full, for a table of any number of places
abbrev None : Sighting → List Finder → Type 0
None s fs = Each (λ (f : Finder). within s.x s.y f ≡ false) fs

place-length : (fs : List Finder) (s : Sighting) → ((length (place fs s) ≡ length fs + 1) × None s fs) ⊎ (length (place fs s) ≡ length fs)
unfolding place
place-length [] s = inl (refl, tt)
place-length (f ∷ fs) s = go (within s.x s.y f) refl (place-length fs s)
  where
    go : (t : Bool) → within s.x s.y f ≡ t → ((length (place fs s) ≡ length fs + 1) × None s fs) ⊎ (length (place fs s) ≡ length fs)
        → ((length (cond t (join s.x s.y s.«module» f ∷ fs) (f ∷ place fs s)) ≡ suc (length fs) + 1) × None s (f ∷ fs)) ⊎ (length (cond t (join s.x s.y s.«module» f ∷ fs) (f ∷ place fs s)) ≡ suc (length fs))
    go true e r = inr refl
    go false e (inl r) = inl (omega (arith, r.0), (e, r.1))
    go false e (inr r) = inr (ap suc r)

full_only_if : (limit : ℕ) (fs : List Finder) (s : Sighting) → length fs ≤ limit → merge limit fs s ≡ over → (length fs ≡ limit) × None s fs
unfolding merge
full_only_if limit fs s few h = go (leb (length (place fs s)) limit) refl h
  where
    go : (t : Bool) → leb (length (place fs s)) limit ≡ t → cond t (held (place fs s)) over ≡ over → (length fs ≡ limit) × None s fs
    go true e k = let z : ◌≡◌ {A = ℕ} 0 1 = cc in absurd (omega arith)
    go false e k =
        let l = leb-false (length (place fs s)) limit e in
        elim (place-length fs s) [ inl r ↦ (omega (arith, r.0), r.1) | inr r ↦ absurd (omega (arith, r)) ]

longer : (fs : List Finder) (s : Sighting) → None s fs → length (place fs s) ≡ length fs + 1
unfolding place
longer [] s n = refl
longer (f ∷ fs) s n = rw n.0 (omega (arith, longer fs s n.1))

full_if : (limit : ℕ) (fs : List Finder) (s : Sighting) → length fs ≡ limit → None s fs → merge limit fs s ≡ over
unfolding merge
full_if limit fs s few n = rw (lt-leb (length (place fs s)) limit (omega (arith, longer fs s n)))

-- somewhere among the hits ss, one falls within no held finder while the table is full; fs are the finders held before them
abbrev Overflows : ℕ → List Finder → List Sighting → Type 0
Overflows limit fs [] = ⊥
Overflows limit fs (s ∷ ss) = ((length fs ≡ limit) × None s fs) ⊎ Overflows limit (place fs s) ss

merge_by : (limit : ℕ) (fs : List Finder) (s : Sighting) (t : Bool) → leb (length (place fs s)) limit ≡ t → merge limit fs s ≡ cond t (held (place fs s)) over
unfolding merge
merge_by limit fs s t e = rw e

over_only_if : (limit : ℕ) (fs : List Finder) (ss : List Sighting) → length fs ≤ limit → folded (merge_next limit) (held fs) ss ≡ over → Overflows limit fs ss
unfolding folded
over_only_if limit fs [] few h = let z : ◌≡◌ {A = ℕ} 0 1 = cc in absurd (omega arith)
over_only_if limit fs (s ∷ ss) few h = go (leb (length (place fs s)) limit) refl (over_only_if limit (place fs s) ss)
  where
    go : (t : Bool) → leb (length (place fs s)) limit ≡ t
        → (length (place fs s) ≤ limit → folded (merge_next limit) (held (place fs s)) ss ≡ over → Overflows limit (place fs s) ss) → Overflows limit fs (s ∷ ss)
    go true e next = inr (next (leb-true (length (place fs s)) limit e) (rw (merge_by limit fs s true e) at h))
    go false e next = inl (full_only_if limit fs s few (merge_by limit fs s false e))

over_if : (limit : ℕ) (fs : List Finder) (ss : List Sighting) → length fs ≤ limit → Overflows limit fs ss → folded (merge_next limit) (held fs) ss ≡ over
unfolding folded
over_if limit fs [] few x'' = elim x'' [ ]
over_if limit fs (s ∷ ss) few (inl r) = rw (full_if limit fs s r.0 r.1) (over_stays limit ss)
over_if limit fs (s ∷ ss) few (inr r) = go (leb (length (place fs s)) limit) refl (λ k. over_if limit (place fs s) ss k r)
  where
    go : (t : Bool) → leb (length (place fs s)) limit ≡ t → (length (place fs s) ≤ limit → folded (merge_next limit) (held (place fs s)) ss ≡ over)
        → folded (merge_next limit) (merge limit fs s) ss ≡ over
    go true e next = rw (merge_by limit fs s true e) (next (leb-true (length (place fs s)) limit e))
    go false e next = rw (merge_by limit fs s false e) (over_stays limit ss)

-- 1, 2 and 4 come before it
abbrev first : Bool → Bool → Bool → ℕ → ℕ
first z l s rest = cond z 1 (cond l 2 (cond s 4 rest))

is_over_lem : (s : Held) → is_over s ≡ true → s ≡ over
is_over_lem over e = refl
is_over_lem (held fs) e = absurd (true≢false (sym e))

-- of a picture: `find_finders` answers 6 only where it is not refused by 1, 2 or 4, and a confirmed hit falls within no held finder while max_finders are held
pub six_only_if : (bits : List ℕ) (w h : ℕ) → number_of (answer_of bits w h) ≡ 6 → (bits_refusal (length bits) w h ≡ 0) × Overflows max_finders [] (sightings bits w h)
unfolding find_refusal bits_refusal found_by
six_only_if bits w h e = go (zero_side w h) (large_side w h) (short_bits (length bits) w h) (is_over (found bits w h)) refl (sym (answer_number bits w h) ∙ e)
  where
    go : (z l s o : Bool) → is_over (found bits w h) ≡ o → first z l s (cond o 6 0) ≡ 6
        → (first z l s 0 ≡ 0) × Overflows max_finders [] (sightings bits w h)
    go true l s o p q = absurd (omega arith)
    go false true s o p q = absurd (omega arith)
    go false false true o p q = absurd (omega arith)
    go false false false true p q = (refl, over_only_if max_finders [] (sightings bits w h) (omega arith) (is_over_lem (found bits w h) p))
    go false false false false p q = absurd (omega arith)

-- and wherever this is so
pub six_if : (bits : List ℕ) (w h : ℕ) → bits_refusal (length bits) w h ≡ 0 → Overflows max_finders [] (sightings bits w h) → number_of (answer_of bits w h) ≡ 6
unfolding find_refusal bits_refusal found_by
six_if bits w h e o =
    answer_number bits w h
    ∙ go (zero_side w h) (large_side w h) (short_bits (length bits) w h) (found bits w h) (over_if max_finders [] (sightings bits w h) (omega arith) o) e
  where
    go : (z l s : Bool) (f : Held) → f ≡ over → first z l s 0 ≡ 0 → first z l s (cond (is_over f) 6 0) ≡ 6
    go true l s f p q = absurd (omega arith)
    go false true s f p q = absurd (omega arith)
    go false false true f p q = absurd (omega arith)
    go false false false f p q = ap (λ (f : Held). cond (is_over f) 6 0) p

-- ---- no more finders than there are places
held_few : (limit : ℕ) (fs gs : List Finder) (ss : List Sighting) → length fs ≤ limit → folded (merge_next limit) (held fs) ss ≡ held gs → length gs ≤ limit
unfolding folded
held_few limit fs gs [] few e = let z : fs ≡ gs = cc in rw z at few
held_few limit fs gs (s ∷ ss) few e = go (leb (length (place fs s)) limit) refl (held_few limit (place fs s) gs ss)
  where
    go : (t : Bool) → leb (length (place fs s)) limit ≡ t → (length (place fs s) ≤ limit → folded (merge_next limit) (held (place fs s)) ss ≡ held gs → length gs ≤ limit)
        → length gs ≤ limit
    go true k next = next (leb-true (length (place fs s)) limit k) (rw (merge_by limit fs s true k) at e)
    go false k next =
        let h : over ≡ held gs = sym (over_stays limit ss) ∙ (rw (merge_by limit fs s false k) at e) in
        let z : ◌≡◌ {A = ℕ} 0 1 = cc in absurd (omega arith)

those_few : (fs : List Finder) → length (those stays fs) ≤ length fs
unfolding those
those_few [] = omega arith
those_few (f ∷ fs) = go (stays f) (those_few fs)
  where
    go : (t : Bool) → length (those stays fs) ≤ length fs → length (cond t (f ∷ those stays fs) (those stays fs)) ≤ suc (length fs)
    go true l = omega (arith, l)
    go false l = omega (arith, l)

folded-length : (gs fs : List Finder) → length (folded insert gs fs) ≡ length gs + length fs
unfolding folded
folded-length gs [] = omega arith
folded-length gs (f ∷ fs) = omega (arith, folded-length (insert gs f) fs, insert-length gs f)

-- of a picture: never more than there are places are given
pub few_finders : (bits : List ℕ) (w h : ℕ) → length (finders_of bits w h) ≤ max_finders
unfolding by_confirmations found_by
few_finders bits w h = go (found bits w h) refl
  where
    go : (s : Held) → found bits w h ≡ s → length (finders_after s) ≤ max_finders
    go over e = omega (arith, folded-length [] (those stays []), those_few [])
    go (held fs) e =
        omega (arith, held_few max_finders [] fs (sightings bits w h) (omega arith) e, folded-length [] (those stays fs), those_few fs)

-- ---- most first
abbrev Below : ℕ → List Finder → Type 0
Below n fs = Each (λ (g : Finder). g.confirmations ≤ n) fs

abbrev Descending : List Finder → Type 0
Descending [] = Unit {0}
Descending (f ∷ fs) = Below f.confirmations fs × Descending fs

below_more : (m n : ℕ) (fs : List Finder) → m ≤ n → Below m fs → Below n fs
below_more m n fs h b = each_map (λ (g : Finder). g.confirmations ≤ m) (λ (g : Finder). g.confirmations ≤ n) (λ g l. le_trans l h) fs b

insert_below : (n : ℕ) (gs : List Finder) (f : Finder) → f.confirmations ≤ n → Below n gs → Below n (insert gs f)
unfolding insert
insert_below n [] f h b = (h, tt)
insert_below n (g ∷ gs) f h b = go (ltb g.confirmations f.confirmations) (insert_below n gs f h b.1)
  where
    go : (t : Bool) → Below n (insert gs f) → Below n (cond t (f ∷ g ∷ gs) (g ∷ insert gs f))
    go true r = (h, b)
    go false r = (b.0, r)

insert_descends : (gs : List Finder) (f : Finder) → Descending gs → Descending (insert gs f)
unfolding insert
insert_descends [] f d = (tt, tt)
insert_descends (g ∷ gs) f d = go (ltb g.confirmations f.confirmations) refl (insert_descends gs f d.1)
  where
    go : (t : Bool) → ltb g.confirmations f.confirmations ≡ t → Descending (insert gs f) → Descending (cond t (f ∷ g ∷ gs) (g ∷ insert gs f))
    go true e r =
        let l = le_of_lt (ltb-true g.confirmations f.confirmations e) in
        ((l, below_more g.confirmations f.confirmations gs l d.0), d)
    go false e r = (insert_below g.confirmations gs f (ltb-false g.confirmations f.confirmations e) d.0, r)

folded_descends : (gs fs : List Finder) → Descending gs → Descending (folded insert gs fs)
unfolding folded
folded_descends gs [] d = d
folded_descends gs (f ∷ fs) d = folded_descends (insert gs f) fs (insert_descends gs f d)

most_first : (fs : List Finder) → Descending (by_confirmations fs)
unfolding by_confirmations
most_first fs = folded_descends [] (those stays fs) tt

-- ---- ties in discovery order, and nobody lost: the finders with n confirmations are those that stay and have n, in their order
abbrev has : ℕ → Finder → Bool
has n f = eqb f.confirmations n

-- fewer than n
fewer_none : (n m : ℕ) (gs : List Finder) → m < n → Below m gs → those (has n) gs ≡ []
fewer_none n m gs h b =
    those-none (has n) gs (each_map (λ (g : Finder). g.confirmations ≤ m) (λ (g : Finder). has n g ≡ false) (λ g l. ne_eqb g.confirmations n (λ e. omega arith)) gs b)

-- one that is put in front of fewer
in_front : (n : ℕ) (f : Finder) (gs : List Finder) (t : Bool) → has n f ≡ t → ((m : ℕ) → m ≡ f.confirmations → those (has m) gs ≡ [])
    → cond t (f ∷ those (has n) gs) (those (has n) gs) ≡ those (has n) gs ++ cond t (f ∷ []) []
in_front n f gs true e h = let z : those (has n) gs ≡ [] = h n (sym (eqb-true f.confirmations n e)) in rw z
in_front n f gs false e h = sym (append-nil (those (has n) gs))

insert_has : (n : ℕ) (gs : List Finder) (f : Finder) → Descending gs → those (has n) (insert gs f) ≡ those (has n) gs ++ those (has n) (f ∷ [])
unfolding insert those
insert_has n [] f d = refl
insert_has n (g ∷ gs) f d = go (ltb g.confirmations f.confirmations) refl (insert_has n gs f d.1)
  where
    behind : (t : Bool) → those (has n) (insert gs f) ≡ those (has n) gs ++ those (has n) (f ∷ [])
        → cond t (g ∷ those (has n) (insert gs f)) (those (has n) (insert gs f)) ≡ cond t (g ∷ those (has n) gs) (those (has n) gs) ++ those (has n) (f ∷ [])
    behind true r = ap (λ l. g ∷ l) r
    behind false r = r

    go : (t : Bool) → ltb g.confirmations f.confirmations ≡ t → those (has n) (insert gs f) ≡ those (has n) gs ++ those (has n) (f ∷ [])
        → those (has n) (cond t (f ∷ g ∷ gs) (g ∷ insert gs f)) ≡ those (has n) (g ∷ gs) ++ those (has n) (f ∷ [])
    go true e r =
        in_front n f (g ∷ gs) (has n f) refl (λ m q. fewer_none m g.confirmations (g ∷ gs) (omega (arith, q, ltb-true g.confirmations f.confirmations e)) (le_refl g.confirmations, d.0))
    go false e r = behind (has n g) r

folded_has : (n : ℕ) (gs fs : List Finder) → Descending gs → those (has n) (folded insert gs fs) ≡ those (has n) gs ++ those (has n) fs
unfolding folded those
folded_has n gs [] d = sym (append-nil (those (has n) gs))
folded_has n gs (f ∷ fs) d =
    folded_has n (insert gs f) fs (insert_descends gs f d)
    ∙ ap (λ l. l ++ those (has n) fs) (insert_has n gs f d)
    ∙ append_assoc (those (has n) gs) (those (has n) (f ∷ [])) (those (has n) fs)
    ∙ ap (λ l. those (has n) gs ++ l) (sym (those-append (has n) (f ∷ []) fs))

ties_in_discovery_order : (n : ℕ) (fs : List Finder) → those (has n) (by_confirmations fs) ≡ those (has n) (those stays fs)
unfolding by_confirmations those
ties_in_discovery_order n fs = folded_has n [] (those stays fs) tt
