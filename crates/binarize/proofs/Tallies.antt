-- Laws of tallies: what a loop over blocks counts is the two groups of marked means. Assumes nothing.
use mathlib.Core.Path.{◌≡◌, refl, sym, ap, ◌∙◌, subst}
use mathlib.Core.Bool.{Bool, true, false, cond}
use mathlib.Core.List.{List, [], ◌∷◌, ◌++◌, append_assoc, append-nil, map}
use Prim.Native.Nat.{ℕ, ◌+◌}
use native.Mathlib.Omega.{arith}
use lib.ListN.{length, length-append}
use lib.Dec.{eqb, leb, ltb}
use borrow.Author.Tests.{lt-ltb, le-ltb, leb-true, leb-false}
use Rattle.lists.specs.Lists.{folded, those, sum}
use Rattle.lists.proofs.Filters.{those-append}
use Rattle.lists.proofs.Folds.{folded-append}
use Rattle.binarize.specs.Levels.{marked, marked_means}
use Rattle.binarize.specs.Splits.{Tally, with_mean, with_block, split_block, no_block, Tallied}

sum_more : (l : List ℕ) (v : ℕ) → sum (l ++ (v ∷ [])) ≡ sum l + v
unfolding folded
sum_more l v = folded-append ◌+◌ 0 l (v ∷ [])

-- a group with one mean more, which belongs to it or does not
module _ (p : ℕ → Bool) (l : List ℕ) (v : ℕ) where
  inside : p v ≡ true → those p (l ++ (v ∷ [])) ≡ those p l ++ (v ∷ [])
  unfolding those
  inside e = simp (those-append, e)

  outside : p v ≡ false → those p (l ++ (v ∷ [])) ≡ those p l
  unfolding those
  outside e = simp (those-append, e, append-nil)

  sum_inside : (s : ℕ) → s ≡ sum (those p l) → p v ≡ true → s + v ≡ sum (those p (l ++ (v ∷ [])))
  sum_inside s q e = ap (λ (n : ℕ). n + v) q ∙ sym (ap sum (inside e) ∙ sum_more (those p l) v)

  length-inside : (n : ℕ) → n ≡ length (those p l) → p v ≡ true → n + 1 ≡ length (those p (l ++ (v ∷ [])))
  length-inside n q e = ap (λ (k : ℕ). k + 1) q ∙ sym (ap length (inside e) ∙ length-append (those p l) (v ∷ []))

-- one mean more
tallied_more : (l : List ℕ) (m v : ℕ) (t : Tally) → Tallied l m t → Tallied (l ++ (v ∷ [])) m (with_mean m t v)
tallied_more l m v t h = go (leb v m) refl
  where
    go : (b : Bool) → leb v m ≡ b → Tallied (l ++ (v ∷ [])) m (cond b (record { low = t.low + v; lows = t.lows + 1; high = t.high; highs = t.highs })
        (record { low = t.low; lows = t.lows; high = t.high + v; highs = t.highs + 1 }))
    go true e =
        let out = outside (λ x. ltb m x) l v (le-ltb m v (leb-true v m e)) in
        record {
          low = sum_inside (λ x. leb x m) l v t.low h.low e;
          lows = length-inside (λ x. leb x m) l v t.lows h.lows e;
          high = h.high ∙ ap sum (sym out);
          highs = h.highs ∙ ap length (sym out);
          total = sym (sum_more l v ∙ (let q = h.total in omega arith));
          count = sym (length-append l (v ∷ []) ∙ (let q = h.count in omega arith));
        }
    go false e =
        let out = outside (λ x. leb x m) l v e in
        let over = lt-ltb m v (leb-false v m e) in
        record {
          low = h.low ∙ ap sum (sym out);
          lows = h.lows ∙ ap length (sym out);
          high = sum_inside (λ x. ltb m x) l v t.high h.high over;
          highs = length-inside (λ x. ltb m x) l v t.highs h.highs over;
          total = sym (sum_more l v ∙ (let q = h.total in omega arith));
          count = sym (length-append l (v ∷ []) ∙ (let q = h.count in omega arith));
        }

-- the blocks of a list, one after the other
module _ (means mark : ℕ → ℕ) (m : ℕ) where
  tallied_from : (is l : List ℕ) (t : Tally) → Tallied l m t → Tallied (l ++ marked_means means mark is) m (folded (split_block means mark m) t is)
  unfolding those folded split_block with_block
  tallied_from [] l t h = rw append-nil h
  tallied_from (i ∷ is) l t h = go (eqb (mark i) 1) (tallied_from is)
    where
      go : (b : Bool) → ((k : List ℕ) (s : Tally) → Tallied k m s → Tallied (k ++ marked_means means mark is) m (folded (split_block means mark m) s is))
          → Tallied (l ++ map means (cond b (i ∷ those (marked mark) is) (those (marked mark) is))) m (folded (split_block means mark m) (cond b (with_mean m t (means i)) t) is)
      go true ih =
          subst (λ (k : List ℕ). Tallied k m (folded (split_block means mark m) (with_mean m t (means i)) is)) (append_assoc l (means i ∷ []) (marked_means means mark is))
          (ih (l ++ (means i ∷ [])) (with_mean m t (means i)) (tallied_more l m (means i) t h))
      go false ih = ih l t h

  pub tallied : (is : List ℕ) (t : Tally) → t ≡ folded (split_block means mark m) no_block is → Tallied (marked_means means mark is) m t
  unfolding those folded
  tallied is t e =
      subst (Tallied (marked_means means mark is) m) (sym e)
      (tallied_from is [] no_block (record { low = refl; lows = refl; high = refl; highs = refl; total = refl; count = refl }))
