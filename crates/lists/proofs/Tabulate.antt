-- Laws of `tabulate` and `filled`, over the element type. Assumes nothing.
use mathlib.Core.Path.{◌≡◌, refl, sym, ap, ◌∙◌}
use mathlib.Core.List.{List, [], ◌∷◌, ◌++◌, append_assoc, append-nil}
use Prim.Native.Nat.{ℕ, zero, suc, ◌+◌, ◌-◌, ◌≤◌, ◌<◌}
use native.Mathlib.Nat.{add-zero, add-suc, add-sub_cancel_left, eq-or-lt_of_le, le_of_suc-le-suc}
use mathlib.Core.Logic.{◌⊎◌, inl, inr}
use native.Mathlib.Numerals.{add-one}
use native.Mathlib.Omega.{arith}
use lib.ListN.{length, take, drop, get_or, set, length-append, length-drop, length-take, get_or-append}
use lib.Seq.{drop-length, drop-cons, set_at, append_snoc, get_or_at, take_at, drop_at, drop-drop}
use Rattle.lists.specs.Lists.{tabulate, filled}

module _ {A : Type 0} where
  pub length-tabulate : (n : ℕ) (f : ℕ → A) → length (tabulate n f) ≡ n
  unfolding tabulate
  length-tabulate zero f = refl
  length-tabulate (suc n) f = length-append (tabulate n f) (f n ∷ []) ∙ add-one (length (tabulate n f)) ∙ ap suc (length-tabulate n f)

  pub tabulate_ext : (n : ℕ) (f g : ℕ → A) → ((k : ℕ) → k < n → f k ≡ g k) → tabulate n f ≡ tabulate n g
  unfolding tabulate
  tabulate_ext zero f g h = refl
  tabulate_ext (suc n) f g h =
      rw (tabulate_ext n f g (λ k l. h k (omega arith)), h n (omega arith)) refl

  pub tabulate-add : (a n : ℕ) (f : ℕ → A) → tabulate (a + n) f ≡ tabulate a f ++ tabulate n (λ k. f (a + k))
  unfolding tabulate
  tabulate-add a zero f = rw (add-zero a) (sym (append-nil (tabulate a f)))
  tabulate-add a (suc n) f =
      rw (add-suc a n) (ap (λ (l : List A). l ++ (f (a + n) ∷ [])) (tabulate-add a n f) ∙ append_assoc (tabulate a f) (tabulate n (λ k. f (a + k))) (f (a + n) ∷ []))

  pub length-filled : (n : ℕ) (f : ℕ → A) (d : List A) → n ≤ length d → length (filled n f d) ≡ length d
  length-filled n f d h = simp (length-append, length-tabulate, length-drop) (omega arith)

  pub filled_none : (f : ℕ → A) (d : List A) → d ≡ filled 0 f d
  unfolding tabulate
  filled_none f d = refl

  pub filled_same : (n : ℕ) (f g : ℕ → A) (d : List A) → ((k : ℕ) → k < n → f k ≡ g k) → filled n f d ≡ filled n g d
  filled_same n f g d h = ap (λ (l : List A). l ++ drop n d) (tabulate_ext n f g h)

  -- one store more
  pub filled_more : (n : ℕ) (f : ℕ → A) (d : List A) → n < length d → set (filled n f d) n (f n) ≡ filled (n + 1) f d
  unfolding tabulate
  filled_more n f d h =
      rw (add-one n, drop-cons d n (f n) h)
      (set_at (tabulate n f) (get_or d n (f n)) (drop (suc n) d) (f n) n (length-tabulate n f) ∙ sym (append_snoc (tabulate n f) (f n) (drop (suc n) d)))

  -- a part that was filled in whole, put back into the list that was filled up to it
  pub filled_part : (a n : ℕ) (f : ℕ → A) (d : List A)
      → take a (filled a f d) ++ (tabulate n (λ k. f (a + k)) ++ drop n (drop a (filled a f d))) ≡ filled (a + n) f d
  filled_part a n f d =
      rw (take_at (tabulate a f) (drop a d) a (length-tabulate a f), drop_at (tabulate a f) (drop a d) a (length-tabulate a f), drop-drop n a d, tabulate-add a n f)
      (sym (append_assoc (tabulate a f) (tabulate n (λ k. f (a + k))) (drop (a + n) d)))

  -- the same, of a list that is filled so far, and of a value that is the next
  pub filled_step : (n : ℕ) (f : ℕ → A) (d l : List A) (v : A) → n < length d → l ≡ filled n f d → v ≡ f n → set l n v ≡ filled (n + 1) f d
  filled_step n f d l v h e q = rw (e, q) (filled_more n f d h)

  -- all of it is filled
  pub filled_whole : (n : ℕ) (f : ℕ → A) (d l : List A) → n ≡ length d → l ≡ filled n f d → l ≡ tabulate (length d) f
  filled_whole n f d l h e =
      e ∙ rw h (ap (λ (t : List A). tabulate (length d) f ++ t) (drop-length d) ∙ append-nil (tabulate (length d) f))

  -- a part of w elements from a
  pub length_part : (a w : ℕ) (l : List A) → a + w ≤ length l → length (take (a + w - a) (drop a l)) ≡ w
  length_part a w l h = simp (length-take, length-drop) (omega arith)

  -- a list that is filled up to a, whose part from a to a + w was handed out and came back whole
  pub filled_row : (a w : ℕ) (f g : ℕ → A) (d l part : List A) → l ≡ filled a f d → part ≡ tabulate w g → ((i : ℕ) → i < w → g i ≡ f (a + i))
      → take a l ++ (part ++ drop (a + w - a) (drop a l)) ≡ filled (a + w) f d
  filled_row a w f g d l part e p h =
      rw (e, p, tabulate_ext w g (λ k. f (a + k)) h, add-sub_cancel_left) (filled_part a w f d)

  pub get_d_tabulate : (n : ℕ) (f : ℕ → A) (i : ℕ) (d : A) → i < n → get_or (tabulate n f) i d ≡ f i
  unfolding tabulate
  get_d_tabulate zero f i d h = absurd (omega arith)
  get_d_tabulate (suc n) f i d h = go (get_d_tabulate n f i d) (eq-or-lt_of_le (le_of_suc-le-suc h))
    where
      go : (i < n → get_or (tabulate n f) i d ≡ f i) → (i ≡ n) ⊎ (i < n) → get_or (tabulate n f ++ (f n ∷ [])) i d ≡ f i
      go ih (inl e) = rw e (get_or_at (tabulate n f) (f n) [] d n (length-tabulate n f))
      go ih (inr l) = let k : i < length (tabulate n f) = rw length-tabulate l in get_or-append (tabulate n f) (f n ∷ []) d i k ∙ ih l

  pub get_or-filled : (n : ℕ) (f : ℕ → A) (l : List A) (i : ℕ) (d : A) → i < n → get_or (filled n f l) i d ≡ f i
  get_or-filled n f l i d h =
      let k : i < length (tabulate n f) = rw length-tabulate h in get_or-append (tabulate n f) (drop n l) d i k ∙ get_d_tabulate n f i d h
