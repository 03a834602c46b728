-- Where a hit goes, in a table of any number of places. Assumes nothing.
use Rattle.std.proofs.Common.{◌≡◌, ℕ, suc, ◌+◌, ◌<◌, ◌≤◌, Bool, true, false, cond, List, [], ◌∷◌, ◌++◌, length, get_or, set, refl, ap, le_trans, arith, length-append, length-set, sym, le-leb}
use borrow.Author.Tests.{lt-leb}
use Rattle.std.specs.Prelude.{not, Some, None, position}
use Rattle.std.specs.List.{position_or_len}
use Rattle.std.proofs.lemmas.Grind.{common_steps}
use Rattle.std.proofs.lemmas.List.Quantifiers.{position-Some}
use Rattle.lists.proofs.Filters.{each_map}
use Rattle.lcr_core.specs.declared.finder.Finder.{Finder}
use Rattle.finders.specs.Held.{Sighting, within, join, fresh, place, held, over, merge}
use Rattle.finders.specs.Inner.{Bounded}

-- ---- the place of a hit
module _ (s : Sighting) where
  abbrev takes : Finder → Bool
  takes = within s.x s.y

  abbrev joined : Finder → Finder
  joined = join s.x s.y s.«module»

  -- of the first finder that it is within, or the count
  abbrev first : List Finder → ℕ
  first fs = position_or_len takes fs

  place_at : (fs : List Finder) (d : Finder) → first fs < length fs → place fs s ≡ set fs (first fs) (joined (get_or fs (first fs) d))
  unfolding place
  place_at [] d h = absurd (omega arith)
  place_at (f ∷ fs) d h = go (takes f) h (λ k. place_at fs d k)
    where
      go : (t : Bool) → cond (not t) (1 + first fs) 0 < suc (length fs)
          → (first fs < length fs → place fs s ≡ set fs (first fs) (joined (get_or fs (first fs) d)))
          → cond t (joined f ∷ fs) (f ∷ place fs s) ≡ set (f ∷ fs) (cond (not t) (1 + first fs) 0) (joined (get_or (f ∷ fs) (cond (not t) (1 + first fs) 0) d))
      go true k r = refl
      go false k r = let e : 1 + first fs ≡ suc (first fs) = omega arith in rw e (ap (λ l. f ∷ l) (r (omega arith)))

  place_new : (fs : List Finder) → length fs ≤ first fs → place fs s ≡ fs ++ (fresh s ∷ [])
  unfolding place
  place_new [] h = refl
  place_new (f ∷ fs) h = go (takes f) h (λ k. place_new fs k)
    where
      go : (t : Bool) → suc (length fs) ≤ cond (not t) (1 + first fs) 0 → (length fs ≤ first fs → place fs s ≡ fs ++ (fresh s ∷ []))
          → cond t (joined f ∷ fs) (f ∷ place fs s) ≡ f ∷ (fs ++ (fresh s ∷ []))
      go true k r = absurd (omega arith)
      go false k r = ap (λ l. f ∷ l) (r (omega arith))

  module _ (limit : ℕ) (fs : List Finder) (few : length fs ≤ limit) where
    kept : (gs : List Finder) → place fs s ≡ gs → length gs ≤ limit → merge limit fs s ≡ held gs
    unfolding merge
    kept gs p h = rw (p, le-leb (length gs) limit h)

    pub merge-join : (i : ℕ) (d : Finder) → position takes fs ≡ Some i → merge limit fs s ≡ held (set fs i (joined (get_or fs i d)))
    merge-join i d h =
        let e : first fs ≡ i = grind (arith, common_steps) in
        let p : place fs s ≡ set fs i (joined (get_or fs i d)) = rw (sym e) (place_at fs d (rw e ((position-Some takes fs i d h).0))) in
        kept (set fs i (joined (get_or fs i d))) p (rw (length-set fs i (joined (get_or fs i d))) few)

    module _ (h : position takes fs ≡ None) where
      new : place fs s ≡ fs ++ (fresh s ∷ [])
      new = place_new fs (grind (arith, common_steps))

      pub merge_new : length fs < limit → merge limit fs s ≡ held (fs ++ (fresh s ∷ []))
      merge_new l = kept (fs ++ (fresh s ∷ [])) new (rw (length-append fs (fresh s ∷ [])) (omega arith))

      pub merge_over : limit ≤ length fs → merge limit fs s ≡ over
      unfolding merge
      merge_over l = rw (new, lt-leb (length (fs ++ (fresh s ∷ []))) limit (rw (length-append fs (fresh s ∷ [])) (omega arith)))

-- ---- the counts grow by one with a hit
pub bounded_mono : (fs : List Finder) (j k : ℕ) → j ≤ k → Bounded fs j → Bounded fs k
bounded_mono fs j k h b = each_map (λ (f : Finder). f.confirmations ≤ j) (λ (f : Finder). f.confirmations ≤ k) (λ f l. le_trans l h) fs b

pub place_bounded : (fs : List Finder) (s : Sighting) (k : ℕ) → Bounded fs k → Bounded (place fs s) (k + 1)
unfolding place join
place_bounded [] s k b = (omega arith, tt)
place_bounded (f ∷ fs) s k b = go (takes s f) (place_bounded fs s k b.1)
  where
    go : (t : Bool) → Bounded (place fs s) (k + 1) → Bounded (cond t (joined s f ∷ fs) (f ∷ place fs s)) (k + 1)
    go true r = (omega (arith, b.0), bounded_mono fs k (k + 1) (omega arith) b.1)
    go false r = (omega (arith, b.0), r)
