-- Laws of `Each`, `Some`, `those` and `how_many`. Assumes nothing.
use mathlib.Core.Path.{◌≡◌, refl, sym, ap, subst}
use mathlib.Core.Logic.{inl, inr}
use mathlib.Core.Bool.{Bool, true, false, cond, true≢false}
use mathlib.Core.List.{List, [], ◌∷◌, ◌++◌, append_assoc, append-nil}
use Prim.Native.Nat.{ℕ, zero, suc, ◌+◌, ◌≤◌, ◌<◌}
use native.Mathlib.Omega.{arith}
use lib.ListN.{length, get_or}
use Rattle.lists.specs.Lists.{Each, Some, those, how_many}

-- ---- what holds of each
module _ {A : Type 0} where
  pub each_append : (P : A → Type 0) (xs ys : List A) → Each P xs → Each P ys → Each P (xs ++ ys)
  each_append P [] ys h g = g
  each_append P (x ∷ xs) ys h g = (h.0, each_append P xs ys h.1 g)

  pub each_left : (P : A → Type 0) (xs ys : List A) → Each P (xs ++ ys) → Each P xs
  each_left P [] ys h = tt
  each_left P (x ∷ xs) ys h = (h.0, each_left P xs ys h.1)

  pub each_right : (P : A → Type 0) (xs ys : List A) → Each P (xs ++ ys) → Each P ys
  each_right P [] ys h = h
  each_right P (x ∷ xs) ys h = each_right P xs ys h.1

  pub each_map : (P Q : A → Type 0) → ((x : A) → P x → Q x) → (xs : List A) → Each P xs → Each Q xs
  each_map P Q f [] h = tt
  each_map P Q f (x ∷ xs) h = (f x h.0, each_map P Q f xs h.1)

  pub each_both : (P Q : A → Type 0) (xs : List A) → Each P xs → Each Q xs → Each (λ (x : A). P x × Q x) xs
  each_both P Q [] h g = tt
  each_both P Q (x ∷ xs) h g = ((h.0, g.0), each_both P Q xs h.1 g.1)

  -- a list by its last element
  pub by_last : (P : List A → Type 0) → P [] → ((xs : List A) (x : A) → P xs → P (xs ++ (x ∷ []))) → (xs : List A) → P xs
  by_last P none more xs = go [] xs none
    where
      go : (pre post : List A) → P pre → P (pre ++ post)
      go pre [] h = subst P (sym (append-nil pre)) h
      go pre (x ∷ post) h = subst P (append_assoc pre (x ∷ []) post) (go (pre ++ (x ∷ [])) post (more pre x h))

  -- ---- those
  pub those-append : (p : A → Bool) (xs ys : List A) → those p (xs ++ ys) ≡ those p xs ++ those p ys
  unfolding those
  those-append p [] ys = refl
  those-append p (x ∷ xs) ys = go (p x) (those-append p xs ys)
    where
      go : (b : Bool) → those p (xs ++ ys) ≡ those p xs ++ those p ys → cond b (x ∷ those p (xs ++ ys)) (those p (xs ++ ys)) ≡ cond b (x ∷ those p xs) (those p xs) ++ those p ys
      go true e = ap (λ (l : List A). x ∷ l) e
      go false e = e

  pub those_same : (p q : A → Bool) (xs : List A) → Each (λ (x : A). p x ≡ q x) xs → those p xs ≡ those q xs
  unfolding those
  those_same p q [] h = refl
  those_same p q (x ∷ xs) h = rw (h.0, those_same p q xs h.1)

  pub those-none : (p : A → Bool) (xs : List A) → Each (λ (x : A). p x ≡ false) xs → those p xs ≡ []
  unfolding those
  those-none p [] h = refl
  those-none p (x ∷ xs) h = rw h.0 (those-none p xs h.1)

  -- those that a those keeps pass it, and have what each has
  pub each_those : (P : A → Type 0) (p : A → Bool) (xs : List A) → Each P xs → Each (λ (x : A). P x × (p x ≡ true)) (those p xs)
  unfolding those
  each_those P p [] h = tt
  each_those P p (x ∷ xs) h = go (p x) refl (each_those P p xs h.1)
    where
      go : (b : Bool) → p x ≡ b → Each (λ (y : A). P y × (p y ≡ true)) (those p xs) → Each (λ (y : A). P y × (p y ≡ true)) (cond b (x ∷ those p xs) (those p xs))
      go true e r = ((h.0, e), r)
      go false e r = r

  -- ---- count
  pub how_many-append : (p : A → Bool) (xs ys : List A) → how_many p (xs ++ ys) ≡ how_many p xs + how_many p ys
  unfolding how_many
  how_many-append p [] ys = omega arith
  how_many-append p (x ∷ xs) ys = go (p x) (how_many-append p xs ys)
    where
      go : (b : Bool) → how_many p (xs ++ ys) ≡ how_many p xs + how_many p ys → cond b (suc (how_many p (xs ++ ys))) (how_many p (xs ++ ys)) ≡ cond b (suc (how_many p xs)) (how_many p xs) + how_many p ys
      go true e = omega arith
      go false e = e

  pub how_many-le-length : (p : A → Bool) (xs : List A) → how_many p xs ≤ length xs
  unfolding how_many
  how_many-le-length p [] = omega arith
  how_many-le-length p (x ∷ xs) = go (p x) (how_many-le-length p xs)
    where
      go : (b : Bool) → how_many p xs ≤ length xs → cond b (suc (how_many p xs)) (how_many p xs) ≤ suc (length xs)
      go true e = omega arith
      go false e = omega arith

  pub how_many_same : (p q : A → Bool) (xs : List A) → Each (λ (x : A). p x ≡ q x) xs → how_many p xs ≡ how_many q xs
  unfolding how_many
  how_many_same p q [] h = refl
  how_many_same p q (x ∷ xs) h = rw (h.0, how_many_same p q xs h.1)

  -- whoever passes p passes q
  abbrev pub Under : (A → Bool) → (A → Bool) → A → Type 0
  Under p q x = p x ≡ true → q x ≡ true

  pub how_many-under : (p q : A → Bool) (xs : List A) → Each (Under p q) xs → how_many p xs ≤ how_many q xs
  unfolding how_many
  how_many-under p q [] h = omega arith
  how_many-under p q (x ∷ xs) h = go (p x) (q x) h.0 (how_many-under p q xs h.1)
    where
      go : (a b : Bool) → (a ≡ true → b ≡ true) → how_many p xs ≤ how_many q xs → cond a (suc (how_many p xs)) (how_many p xs) ≤ cond b (suc (how_many q xs)) (how_many q xs)
      go true true f e = omega arith
      go true false f e = absurd (true≢false (sym (f refl)))
      go false true f e = omega arith
      go false false f e = e

  -- and one that is there passes q only
  pub how_many_fewer : (p q : A → Bool) (xs : List A) → Each (Under p q) xs → Some (λ (x : A). (p x ≡ false) × (q x ≡ true)) xs → how_many p xs < how_many q xs
  unfolding how_many
  how_many_fewer p q [] h s = absurd s
  how_many_fewer p q (x ∷ xs) h (inl s) = rw (s.0, s.1) (omega (arith, how_many-under p q xs h.1))
  how_many_fewer p q (x ∷ xs) h (inr s) = go (p x) (q x) h.0 (how_many_fewer p q xs h.1 s)
    where
      go : (a b : Bool) → (a ≡ true → b ≡ true) → how_many p xs < how_many q xs → cond a (suc (how_many p xs)) (how_many p xs) < cond b (suc (how_many q xs)) (how_many q xs)
      go true true f e = omega arith
      go true false f e = absurd (true≢false (sym (f refl)))
      go false true f e = omega arith
      go false false f e = e

  -- each element is among them
  pub each_among : (xs : List A) → Each (λ (x : A). Some (λ (y : A). x ≡ y) xs) xs
  each_among [] = tt
  each_among (x ∷ xs) = (inl refl, each_map (λ (y : A). Some (λ (z : A). y ≡ z) xs) (λ (y : A). Some (λ (z : A). y ≡ z) (x ∷ xs)) (λ y h. inr h) xs (each_among xs))

  pub some_map : (P Q : A → Type 0) → ((x : A) → P x → Q x) → (xs : List A) → Some P xs → Some Q xs
  some_map P Q f [] h = h
  some_map P Q f (x ∷ xs) (inl h) = inl (f x h)
  some_map P Q f (x ∷ xs) (inr h) = inr (some_map P Q f xs h)

  pub some_left : (P : A → Type 0) (xs ys : List A) → Some P xs → Some P (xs ++ ys)
  some_left P [] ys h = absurd h
  some_left P (x ∷ xs) ys (inl h) = inl h
  some_left P (x ∷ xs) ys (inr h) = inr (some_left P xs ys h)

  pub some_right : (P : A → Type 0) (xs ys : List A) → Some P ys → Some P (xs ++ ys)
  some_right P [] ys h = h
  some_right P (x ∷ xs) ys h = inr (some_right P xs ys h)

  pub some_those : (P : A → Type 0) (p : A → Bool) (xs : List A) → Some (λ (x : A). P x × (p x ≡ true)) xs → Some P (those p xs)
  unfolding those
  some_those P p [] h = h
  some_those P p (x ∷ xs) (inl h) = rw h.1 (inl h.0)
  some_those P p (x ∷ xs) (inr h) = go (p x) (some_those P p xs h)
    where
      go : (b : Bool) → Some P (those p xs) → Some P (cond b (x ∷ those p xs) (those p xs))
      go true e = inr e
      go false e = e

  -- what each has, one that is there has
  pub each_at : (P : A → Type 0) (xs : List A) (t : A) → Each P xs → Some (λ (x : A). t ≡ x) xs → P t
  each_at P [] t h s = absurd s
  each_at P (x ∷ xs) t h (inl e) = subst P (sym e) h.0
  each_at P (x ∷ xs) t h (inr s) = each_at P xs t h.1 s

  pub each_get_or : (P : A → Type 0) (xs : List A) (i : ℕ) (d : A) → Each P xs → i < length xs → P (get_or xs i d)
  each_get_or P [] i d h l = absurd (omega arith)
  each_get_or P (x ∷ xs) zero d h l = h.0
  each_get_or P (x ∷ xs) (suc i) d h l = each_get_or P xs i d h.1 (omega arith)

  pub each_from : (P : A → Type 0) (xs : List A) (d : A) → ((i : ℕ) → i < length xs → P (get_or xs i d)) → Each P xs
  each_from P [] d h = tt
  each_from P (x ∷ xs) d h = (h 0 (omega arith), each_from P xs d (λ i l. h (suc i) (omega arith)))

  pub how_many_all : (xs : List A) → how_many (λ (x : A). true) xs ≡ length xs
  unfolding how_many
  how_many_all [] = refl
  how_many_all (x ∷ xs) = ap suc (how_many_all xs)
