-- A fold over a list that is made of parts, or of some elements only. Assumes nothing.
use Rattle.std.proofs.Common.{◌≡◌, ℕ, ◌+◌, ◌<◌, ◌≤◌, Bool, true, false, cond, List, [], ◌∷◌, length, get_or, drop, refl, ap, ◌∙◌, add-one, drop_of_length-le, drop-cons}
use Rattle.lists.specs.Lists.{folded, flat_map, those}
use Rattle.lists.proofs.Folds.{folded-append}

module _ {S A : Type 0} where
  pub folded-those : (g : S → A → S) (p : A → Bool) (s : S) (xs : List A) → folded g s (those p xs) ≡ folded (λ (u : S) (a : A). cond (p a) (g u a) u) s xs
  unfolding folded those
  folded-those g p s [] = refl
  folded-those g p s (x ∷ xs) = go (p x) (λ (u : S). folded-those g p u xs)
    where
      go : (t : Bool) → ((u : S) → folded g u (those p xs) ≡ folded (λ (u : S) (a : A). cond (p a) (g u a) u) u xs)
          → folded g s (cond t (x ∷ those p xs) (those p xs)) ≡ folded (λ (u : S) (a : A). cond (p a) (g u a) u) (cond t (g s x) s) xs
      go true h = h (g s x)
      go false h = h s

  pub folded-flat_map : {B : Type 0} (g : S → B → S) (f : A → List B) (s : S) (xs : List A) → folded g s (flat_map f xs) ≡ folded (λ (u : S) (a : A). folded g u (f a)) s xs
  unfolding folded flat_map
  folded-flat_map g f s [] = refl
  folded-flat_map g f s (x ∷ xs) = folded-append g s (f x) (flat_map f xs) ∙ folded-flat_map g f (folded g s (f x)) xs

  -- over a list from place i on
  module _ (g : S → A → S) (s : S) (xs : List A) (i : ℕ) where
    pub fold_next : (d : A) → i < length xs → folded g s (drop i xs) ≡ folded g (g s (get_or xs i d)) (drop (i + 1) xs)
    unfolding folded
    fold_next d h = ap (folded g s) (drop-cons xs i d h) ∙ rw add-one

    pub fold_last : length xs ≤ i → folded g s (drop i xs) ≡ s
    unfolding folded
    fold_last h = rw (drop_of_length-le xs h)
