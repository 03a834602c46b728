-- Laws of `count`, `range`, `folded`, `sum_to` and `flat_map`. Assumes nothing.
use mathlib.Core.Path.{◌≡◌, refl, sym, ◌∙◌, ap, subst}
use mathlib.Core.Bool.{Bool, true, false}
use mathlib.Core.List.{List, [], ◌∷◌, ◌++◌, append_assoc, append-nil, map}
use Prim.Native.Nat.{ℕ, zero, suc, ◌+◌, ◌-◌, ◌≤◌, ◌<◌}
use native.Mathlib.Nat.{add-zero}
use native.Mathlib.Numerals.{add-one}
use native.Mathlib.Omega.{arith}
use lib.Dec.{leb, eqb}
use lib.ListN.{length, take, get_or, length-append}
use lib.Seq.{take-suc}
use borrow.Author.Tests.{leb-true, leb-false, eqb-true, eqb-false}
use Rattle.lists.specs.Lists.{Each, Some, count, range, folded, sum_to, flat_map}
use Rattle.lists.proofs.Filters.{each_append, some_left, some_right}

pub sum_more : (f : ℕ → ℕ) (n s : ℕ) → s ≡ sum_to n f → s + f n ≡ sum_to (n + 1) f
unfolding sum_to
sum_more f n s e = rw (add-one, e)

-- ---- numbers in a row

-- the first of those from k on below n
pub range-first : (k n : ℕ) → k < n → range k n ≡ k ∷ range (k + 1) n
unfolding count
range-first k n h = let e : n - k ≡ suc (n - (k + 1)) = omega arith in rw (e, add-one)

pub range_none : (k n : ℕ) → n ≤ k → range k n ≡ []
unfolding count
range_none k n h = let e : n - k ≡ 0 = omega arith in rw e

count_last : (k n : ℕ) → count k (suc n) ≡ count k n ++ ((k + n) ∷ [])
unfolding count
count_last k zero = rw (add-zero k)
count_last k (suc n) = ap (λ (l : List ℕ). k ∷ l) (count_last (suc k) n ∙ ap (λ (m : ℕ). count (suc k) n ++ (m ∷ [])) (let e : suc k + n ≡ k + suc n = omega arith in e))

pub range_more : (a b : ℕ) → a ≤ b → range a (suc b) ≡ range a b ++ (b ∷ [])
range_more a b h =
    let e : suc b - a ≡ suc (b - a) = omega arith in
    let g : a + (b - a) ≡ b = omega arith in
    ap (count a) e ∙ count_last a (b - a) ∙ ap (λ (m : ℕ). range a b ++ (m ∷ [])) g

pub length-count : (k n : ℕ) → length (count k n) ≡ n
unfolding count
length-count k zero = refl
length-count k (suc n) = ap suc (length-count (suc k) n)

each_count : (P : ℕ → Type 0) (k n : ℕ) → ((x : ℕ) → k ≤ x → x < k + n → P x) → Each P (count k n)
unfolding count
each_count P k zero h = tt
each_count P k (suc n) h = (h k (omega arith) (omega arith), each_count P (suc k) n (λ x a b. h x (omega arith) (omega arith)))

pub each_range : (P : ℕ → Type 0) (a b : ℕ) → ((x : ℕ) → a ≤ x → x < b → P x) → Each P (range a b)
each_range P a b h = each_count P a (b - a) (λ x l m. h x l (omega arith))

-- ---- f of each
module _ {A B : Type 0} where
  pub map_same : (f g : A → B) (xs : List A) → Each (λ (x : A). f x ≡ g x) xs → map f xs ≡ map g xs
  map_same f g [] h = refl
  map_same f g (x ∷ xs) h = rw (h.0, map_same f g xs h.1)

  pub each_of_map : (P : B → Type 0) (f : A → B) (xs : List A) → Each (λ (x : A). P (f x)) xs → Each P (map f xs)
  each_of_map P f [] h = tt
  each_of_map P f (x ∷ xs) h = (h.0, each_of_map P f xs h.1)

  pub folded_map : {S : Type 0} (g : S → B → S) (f : A → B) (s : S) (xs : List A) → folded g s (map f xs) ≡ folded (λ (u : S) (x : A). g u (f x)) s xs
  unfolding folded
  folded_map g f s [] = refl
  folded_map g f s (x ∷ xs) = folded_map g f (g s (f x)) xs

-- ---- a loop that folds: w is the whole fold, s what there is of it before k

pub folded-append : {S A : Type 0} (g : S → A → S) (s : S) (xs ys : List A) → folded g s (xs ++ ys) ≡ folded g (folded g s xs) ys
unfolding folded
folded-append g s [] ys = refl
folded-append g s (x ∷ xs) ys = folded-append g (g s x) xs ys

module _ {S : Type 0} (g : S → ℕ → S) where
  -- one turn of it
  pub fold_more : (w s r : S) (k n : ℕ) → k < n → w ≡ folded g s (range k n) → r ≡ g s k → w ≡ folded g r (range (k + 1) n)
  unfolding folded
  fold_more w s r k n h e q = e ∙ ap (folded g s) (range-first k n h) ∙ ap (λ z. folded g z (range (k + 1) n)) (sym q)

  -- and its end
  pub fold_end : (w s : S) (k n : ℕ) → n ≤ k → w ≡ folded g s (range k n) → w ≡ s
  unfolding folded
  fold_end w s k n h e = e ∙ ap (folded g s) (range_none k n h)

-- ---- one list after the other
module _ {A B : Type 0} (f : A → List B) where
  pub flat_map-append : (xs ys : List A) → flat_map f (xs ++ ys) ≡ flat_map f xs ++ flat_map f ys
  unfolding flat_map
  flat_map-append [] ys = refl
  flat_map-append (x ∷ xs) ys = rw (flat_map-append xs ys) (sym (append_assoc (f x) (flat_map f xs) (flat_map f ys)))

  pub flat_map_same : (g : A → List B) (xs : List A) → Each (λ (x : A). f x ≡ g x) xs → flat_map f xs ≡ flat_map g xs
  unfolding flat_map
  flat_map_same g [] h = refl
  flat_map_same g (x ∷ xs) h = rw (h.0, flat_map_same g xs h.1)

  -- the first p + 1 of a list
  pub flat_map-take : (xs : List A) (p : ℕ) (d : A) → p < length xs → flat_map f (take (p + 1) xs) ≡ flat_map f (take p xs) ++ f (get_or xs p d)
  unfolding flat_map
  flat_map-take xs p d h = rw (add-one, take-suc xs p d) (flat_map-append (take p xs) (get_or xs p d ∷ []) ∙ ap (λ l. flat_map f (take p xs) ++ l) (append-nil (f (get_or xs p d))))

  -- where each gives one at most
  pub flat_map_few : ((x : A) → length (f x) ≤ 1) → (xs : List A) → length (flat_map f xs) ≤ length xs
  unfolding flat_map
  flat_map_few h [] = omega arith
  flat_map_few h (x ∷ xs) = rw (length-append (f x) (flat_map f xs)) (omega (arith, h x, flat_map_few h xs))

pub flat_map-none : {B : Type 0} (f : ℕ → List B) (a b : ℕ) → b ≤ a → flat_map f (range a b) ≡ []
unfolding flat_map
flat_map-none f a b h = ap (flat_map f) (range_none a b h)

pub flat_map_more : {B : Type 0} (f : ℕ → List B) (a b : ℕ) → a ≤ b → flat_map f (range a (suc b)) ≡ flat_map f (range a b) ++ f b
unfolding flat_map
flat_map_more f a b h = ap (flat_map f) (range_more a b h) ∙ flat_map-append f (range a b) (b ∷ []) ∙ ap (λ l. flat_map f (range a b) ++ l) (append-nil (f b))

pub each_flat_map : {B : Type 0} (P : B → Type 0) (f : ℕ → List B) (a b : ℕ) → ((x : ℕ) → a ≤ x → x < b → Each P (f x)) → Each P (flat_map f (range a b))
each_flat_map P f a zero h = subst (Each P) (sym (flat_map-none f a 0 (omega arith))) tt
each_flat_map P f a (suc b) h = go (leb a b) refl (each_flat_map P f a b (λ x m l. h x m (omega arith)))
  where
    go : (v : Bool) → leb a b ≡ v → Each P (flat_map f (range a b)) → Each P (flat_map f (range a (suc b)))
    go true m e =
        let l = leb-true a b m in
        subst (Each P) (sym (flat_map_more f a b l)) (each_append P (flat_map f (range a b)) (f b) e (h b l (omega arith)))
    go false m e = let l = leb-false a b m in subst (Each P) (sym (flat_map-none f a (suc b) (omega arith))) tt

pub some_flat_map : {B : Type 0} (P : B → Type 0) (f : ℕ → List B) (a b x : ℕ) → a ≤ x → x < b → Some P (f x) → Some P (flat_map f (range a b))
some_flat_map P f a zero x m l h = absurd (omega arith)
some_flat_map P f a (suc b) x m l h =
    rw (flat_map_more f a b (omega arith)) (go (eqb x b) refl (λ g. some_flat_map P f a b x m g h))
  where
    go : (v : Bool) → eqb x b ≡ v → (x < b → Some P (flat_map f (range a b))) → Some P (flat_map f (range a b) ++ f b)
    go true e k = some_right P (flat_map f (range a b)) (f b) (subst (λ (y : ℕ). Some P (f y)) (eqb-true x b e) h)
    go false e k = some_left P (flat_map f (range a b)) (f b) (k (below x b (eqb-false x b e) l))
      where
        below : (x b : ℕ) → (x ≡ b → ⊥) → x < suc b → x < b
        below x b n l = omega arith
