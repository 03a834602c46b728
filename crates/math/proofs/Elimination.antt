-- The steps of elimination and of back substitution, one turn of a loop at a time. Assumes nothing.
use mathlib.Core.Path.{◌≡◌, refl, sym, ap, ◌∙◌}
use Rattle.std.specs.Prelude.{Some, None}
use mathlib.Core.Bool.{Bool, true, false, cond, not, ◌||◌, true≢false}
use mathlib.Core.List.{List}
use Prim.Native.Nat.{ℕ, zero, suc, ◌+◌, ◌-◌, ◌≤◌, ◌<◌}
use native.Mathlib.Nat.{add-zero, add-suc, sub_self}
use native.Mathlib.Numerals.{add-one}
use native.Mathlib.Omega.{arith}
use lib.Dec.{eqb}
use lib.ListN.{length, get_or, set}
use lib.Seq.{ext_get_or}
use lib.Ieee.{Float, nan, lt, eq}
use borrow.Author.Tests.{lt-ltb, le-ltb}
use Rattle.float.specs.Floats.{abs_of}
use Rattle.float.specs.Steps.{◌⊟◌, ◌⊠◌, ◌⧄◌}
use Rattle.float.specs.Constants.{d0, d1e_12}
use Rattle.math.specs.Solve.{Matrix, Vector, swapped, reduced, pivot_row, pivoted, row_cleared, cleared, upper, small_pivot, singular, remainder, unknowns, first_unknowns, solution_of}
use Rattle.math.proofs.Systems.{set_at}

-- ---- the pivot's row
module _ (m : Matrix) (c : ℕ) where
  pub pivot_low : (r : ℕ) → r ≤ c + 1 → pivot_row m c r ≡ c
  unfolding pivot_row
  pivot_low zero h = refl
  pivot_low (suc r) h = rw (le-ltb c r (omega arith)) (pivot_low r (omega arith))

  pub pivot_more : (r : ℕ) → c < r → pivot_row m c (r + 1) ≡ cond (lt (abs_of (m (pivot_row m c r) c)) (abs_of (m r c))) r (pivot_row m c r)
  unfolding pivot_row
  pivot_more r h = rw (add-one r, lt-ltb c r h)

  pub pivot_turn : (r p p' : ℕ) (b : Bool) → c < r → p ≡ pivot_row m c r → lt (abs_of (m p c)) (abs_of (m r c)) ≡ b → p' ≡ cond b r p → p' ≡ pivot_row m c (r + 1)
  pivot_turn r p p' b h e t q =
      q ∙ ap (λ (b : Bool). cond b r p) (sym t) ∙ ap (λ (p : ℕ). cond (lt (abs_of (m p c)) (abs_of (m r c))) r p) e ∙ sym (pivot_more r h)

-- ---- row r cleared, and one row more
pub row_left : (m : Matrix) (c r : ℕ) → eq (m r c ⧄ m c c) d0 ≡ true → m ≡ row_cleared m c r
unfolding row_cleared
row_left m c r e = rw e

pub row-reduced : (m : Matrix) (c r : ℕ) → eq (m r c ⧄ m c c) d0 ≡ false → reduced m c r (m r c ⧄ m c c) ≡ row_cleared m c r
unfolding row_cleared
row-reduced m c r e = rw e

module _ (m : Matrix) (c : ℕ) where
  pub cleared_low : (r : ℕ) → r ≤ c + 1 → cleared m c r ≡ m
  unfolding cleared
  cleared_low zero h = refl
  cleared_low (suc r) h = rw (le-ltb c r (omega arith)) (cleared_low r (omega arith))

  pub cleared_more : (r : ℕ) → c < r → cleared m c (r + 1) ≡ row_cleared (cleared m c r) c r
  unfolding cleared
  cleared_more r h = rw (add-one r, lt-ltb c r h)

-- ---- one column more
pivot_swapped : (n : ℕ) (m : Matrix) (c p : ℕ) → p ≡ pivot_row m c n → swapped m c p ≡ pivoted n m c
unfolding pivoted
pivot_swapped n m c p e = ap (swapped m c) e

pub turned : (n : ℕ) (m u s : Matrix) (c p : ℕ) → u ≡ upper n m c → p ≡ pivot_row u c n → s ≡ swapped u c p → s ≡ pivoted n (upper n m c) c
turned n m u s c p e f g = g ∙ pivot_swapped n u c p f ∙ ap (λ (m : Matrix). pivoted n m c) e

pub small_is : (n : ℕ) (m : Matrix) (c : ℕ) (x : Float) → x ≡ abs_of (pivoted n (upper n m c) c c c) → lt x d1e_12 ≡ small_pivot n m c
unfolding small_pivot
small_is n m c x e = ap (λ (x : Float). lt x d1e_12) e

pub upper-none : (n : ℕ) (m : Matrix) → upper n m 0 ≡ m
unfolding upper
upper-none n m = refl

pub upper_more : (n : ℕ) (m : Matrix) (c : ℕ) → upper n m (c + 1) ≡ cleared (pivoted n (upper n m c) c) c n
unfolding upper
upper_more n m c = rw (add-one c)

module _ (n : ℕ) (m : Matrix) where
  pub singular-none : singular n m 0 ≡ false
  unfolding singular
  singular-none = refl

  pub singular_more : (c : ℕ) → singular n m c ≡ false → singular n m (c + 1) ≡ small_pivot n m c
  unfolding singular
  singular_more c h = rw (add-one c, h)

  -- a small pivot is one for all columns after it
  or_more : (a b : Bool) → a ≡ true → (a || b) ≡ true
  or_more a b h = rw h

  pub singular_on : (c : ℕ) → singular n m c ≡ true → (j : ℕ) → singular n m (c + j) ≡ true
  unfolding singular
  singular_on c h zero = rw (add-zero c) h
  singular_on c h (suc j) = rw (add-suc c j) (or_more (singular n m (c + j)) (small_pivot n m (c + j)) (singular_on c h j))

-- ---- back substitution
module _ (n : ℕ) (u : Matrix) (r : ℕ) (x : Vector) where
  pub remainder_low : (k : ℕ) → k ≤ r + 1 → remainder n u r x k ≡ u r n
  unfolding remainder
  remainder_low zero h = refl
  remainder_low (suc k) h = rw (le-ltb r k (omega arith)) (remainder_low k (omega arith))

  pub remainder_more : (k : ℕ) → r < k → remainder n u r x (k + 1) ≡ remainder n u r x k ⊟ u r k ⊠ x k
  unfolding remainder
  remainder_more k h = rw (add-one k, lt-ltb r k h)

module _ (n : ℕ) (u : Matrix) where
  pub unknowns-none : (k : ℕ) → unknowns n u (n - n) k ≡ d0
  unfolding unknowns
  unknowns-none k = ap (λ (j : ℕ). unknowns n u j k) (sub_self n)

  unknowns_more : (r k : ℕ) → 0 < r → r ≤ n
      → unknowns n u (n - (r - 1)) k ≡ cond (eqb k (r - 1)) (remainder n u (r - 1) (unknowns n u (n - r)) n ⧄ u (r - 1) (r - 1)) (unknowns n u (n - r) k)
  unfolding unknowns
  unknowns_more r k h l =
      let up : n - (r - 1) ≡ suc (n - r) = omega arith in
      let row : n - suc (n - r) ≡ r - 1 = omega arith in
      ap (λ (j : ℕ). unknowns n u j k) up
      ∙ ap (λ (i : ℕ). cond (eqb k i) (remainder n u i (unknowns n u (n - r)) n ⧄ u i i) (unknowns n u (n - r) k)) row

-- one unknown more
pub unknowns_turn : (n : ℕ) (u : Matrix) (r : ℕ) (x : List Float) (v : Float) → 0 < r → r ≤ n → r - 1 < length x → ((k : ℕ) → k < n → get_or x k nan ≡ unknowns n u (n - r) k)
    → v ≡ remainder n u (r - 1) (unknowns n u (n - r)) n ⧄ u (r - 1) (r - 1) → (k : ℕ) → k < n → get_or (set x (r - 1) v) k nan ≡ unknowns n u (n - (r - 1)) k
unknowns_turn n u r x v h l g is e k b =
    set_at x (r - 1) k v nan g ∙ ap (λ (w : Float). cond (eqb k (r - 1)) w (get_or x k nan)) e
    ∙ ap (λ (w : Float). cond (eqb k (r - 1)) (remainder n u (r - 1) (unknowns n u (n - r)) n ⧄ u (r - 1) (r - 1)) w) (is k b)
    ∙ sym (unknowns_more n u r k h l)

pub first_at : (n : ℕ) (y : Vector) (k : ℕ) → k < n → get_or (first_unknowns n y) k nan ≡ y k
first_at zero y k h = absurd (omega arith)
first_at (suc n) y zero h = refl
first_at (suc n) y (suc k) h = first_at n (λ i. y (suc i)) k (omega arith)

length-first : (n : ℕ) (y : Vector) → length (first_unknowns n y) ≡ n
length-first zero y = refl
length-first (suc n) y = ap suc (length-first n (λ i. y (suc i)))

pub first_is : (n : ℕ) (x : List Float) (y : Vector) → length x ≡ n → ((k : ℕ) → k < n → get_or x k nan ≡ y k) → x ≡ first_unknowns n y
first_is n x y l h = ext_get_or nan x (first_unknowns n y) (l ∙ sym (length-first n y)) (λ k g. h k (omega arith) ∙ sym (first_at n y k (omega arith)))

-- ---- the answer
not_true : (b : Bool) → true ≡ not b → b ≡ false
not_true true h = absurd (true≢false h)
not_true false h = refl

not_false : (b : Bool) → false ≡ not b → b ≡ true
not_false true h = refl
not_false false h = absurd (true≢false (sym h))

module _ (n : ℕ) (m : Matrix) (ok : Bool) (e : ok ≡ not (singular n m n)) where
  pub found_is : ok ≡ true → (x : List Float) → x ≡ first_unknowns n (unknowns n (upper n m n) n) → Some x ≡ solution_of n m
  unfolding solution_of
  found_is h x g = rw (not_true (singular n m n) (sym h ∙ e), g)

  pub none_is : ok ≡ false → None ≡ solution_of n m
  unfolding solution_of
  none_is h = rw (not_false (singular n m n) (sym h ∙ e))
