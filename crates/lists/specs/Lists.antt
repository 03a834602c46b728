-- To be believed. Lists given element by element, folds, filters and counts, over any element type.
use Rattle.std.specs.Prelude.{ℕ, zero, suc, ◌+◌, ◌-◌, ◌/◌, min, max, get_or, Bool, cond, List, [], ◌∷◌, ◌++◌, ◌⊎◌, length, drop, replicate}

-- f 0, f 1, .., f (n - 1)
unfoldable pub tabulate : {A : Type 0} → ℕ → (ℕ → A) → List A
tabulate zero f = []
tabulate (suc n) f = tabulate n f ++ (f n ∷ [])

-- d with its first n elements replaced by f 0, .., f (n - 1)
abbrev pub filled : {A : Type 0} → ℕ → (ℕ → A) → List A → List A
filled n f d = tabulate n f ++ drop n d

-- a list over the first elements of a slice, and the rest as it was
abbrev pub written : {A : Type 0} → List A → List A → List A
written new old = new ++ drop (length new) old

-- a list with z after it, up to n places: a table that holds the list
abbrev pub padded : {A : Type 0} → ℕ → A → List A → List A
padded n z xs = xs ++ replicate (n - length xs) z

-- n numbers from k on
unfoldable pub count : ℕ → ℕ → List ℕ
count k zero = []
count k (suc n) = k ∷ count (suc k) n

-- the numbers from a on below b
abbrev pub range : ℕ → ℕ → List ℕ
range a b = count a (b - a)

-- the elements taken one after the other, from the state s on
unfoldable pub folded : {S A : Type 0} → (S → A → S) → S → List A → S
folded g s [] = s
folded g s (a ∷ rest) = folded g (g s a) rest

-- f 0 + .. + f (n - 1)
unfoldable pub sum_to : ℕ → (ℕ → ℕ) → ℕ
sum_to zero f = 0
sum_to (suc n) f = sum_to n f + f n

-- those that pass p, in their order
unfoldable pub those : {A : Type 0} → (A → Bool) → List A → List A
those p [] = []
those p (x ∷ xs) = cond (p x) (x ∷ those p xs) (those p xs)

-- how many pass p
unfoldable pub how_many : {A : Type 0} → (A → Bool) → List A → ℕ
how_many p [] = 0
how_many p (x ∷ xs) = cond (p x) (suc (how_many p xs)) (how_many p xs)

-- f of each, one after the other
unfoldable pub flat_map : {A B : Type 0} → (A → List B) → List A → List B
flat_map f [] = []
flat_map f (x ∷ xs) = f x ++ flat_map f xs

-- each element is such
abbrev pub Each : {A : Type 0} → (A → Type 0) → List A → Type 0
Each P [] = Unit {0}
Each P (x ∷ xs) = P x × Each P xs

-- some element is such
abbrev pub Some : {A : Type 0} → (A → Type 0) → List A → Type 0
Some P [] = ⊥
Some P (x ∷ xs) = P x ⊎ Some P xs

-- ---- lists of numbers

-- what stands at place i, 0 beyond the end
abbrev pub at : List ℕ → ℕ → ℕ
at l i = get_or l i 0

-- all added up
abbrev pub sum : List ℕ → ℕ
sum l = folded ◌+◌ 0 l

-- the mean, rounded down
abbrev pub mean : List ℕ → ℕ
mean l = sum l / length l

-- the least of bytes: 255 where there is none
abbrev pub least : List ℕ → ℕ
least l = folded min 255 l

-- the greatest of bytes: 0 where there is none
abbrev pub greatest : List ℕ → ℕ
greatest l = folded max 0 l

-- |m - n|
abbrev pub dist : ℕ → ℕ → ℕ
dist m n = (m - n) + (n - m)
