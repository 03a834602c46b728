-- Laws of the matrix of a system: what an exchange of two rows and a multiple of a row taken from another make of it. Assumes nothing.
use Rattle.std.proofs.Common.{◌≡◌, ℕ, ◌+◌, ◌≤◌, ◌<◌, ◌⊎◌, Bool, true, false, cond, ◌&&◌, ◌*◌, List, [], length, get_or, set, ltb, eqb, inl, inr, ⊎_elim, refl, sym, ap, ◌∙◌, subst, arith}
use mathlib.Core.Path.{fun_ext}
use Rattle.std.specs.List.{swap}
use Rattle.std.proofs.lemmas.List.Edits.{swap_is}
use lib.ListN.{length-set}
use lib.Seq.{get_or-set_same, get_or-set_other}
use lib.Ieee.{Float, nan}
use borrow.Author.Tests.{ltb-true, ltb-false, lt-ltb, le-ltb, eqb-true, eqb-false, eq-eqb, ne_eqb, le-leb, lt-leb}
use Rattle.float.specs.Steps.{◌⊟◌, ◌⊠◌}
use prog.Memory.{up}
use native.Mathlib.Nat.{mul-le-mul, mul-le-mul_right}
use Rattle.math.specs.Solve.{augmented, swapped, reduced}

-- ---- tests by cases
pub split : (b : Bool) → (b ≡ true) ⊎ (b ≡ false)
split true = inl refl
split false = inr refl

pub same_or_not : (i j : ℕ) → (i ≡ j) ⊎ (i ≡ j → ⊥)
same_or_not i j = ⊎_elim (λ h. inl (eqb-true i j h)) (λ h. inr (eqb-false i j h)) (split (eqb i j))

pub below_or_not : (i j : ℕ) → (i < j) ⊎ (j ≤ i)
below_or_not i j = ⊎_elim (λ h. inl (ltb-true i j h)) (λ h. inr (ltb-false i j h)) (split (ltb i j))

-- ---- entries
abbrev pub at : List (List Float) → ℕ → ℕ → Float
at a i j = get_or (get_or a i []) j nan

module _ (n : ℕ) (a : List (List Float)) (b : List Float) (i j : ℕ) where
  pub left_of : j < n → augmented n a b i j ≡ at a i j
  unfolding augmented
  left_of h = rw (lt-ltb j n h)

  pub right_of : n ≤ j → augmented n a b i j ≡ get_or b i nan
  unfolding augmented
  right_of h = rw (le-ltb j n h)

-- a list with v at r
pub set_at : {X : Type 0} (x : List X) (r k : ℕ) (v d : X) → r < length x → get_or (set x r v) k d ≡ cond (eqb k r) v (get_or x k d)
set_at x r k v d h =
    ⊎_elim (λ e. subst (λ (k : ℕ). get_or (set x r v) k d ≡ cond (eqb k r) v (get_or x k d)) (sym e) (get_or-set_same x r v d h ∙ rw (eq-eqb r r refl)))
    (λ ne. get_or-set_other x r k v d ne ∙ rw (ne_eqb k r ne)) (same_or_not k r)

-- ---- two rows exchanged
pub swap_at : {X : Type 0} (x : List X) (p q r : ℕ) (d : X) → p < length x → q < length x → get_or (swap x p q) r d ≡ get_or x (cond (eqb r q) p (cond (eqb r p) q r)) d
swap_at x p q r d hp hq =
    ap (λ (y : List _). get_or y r d) (sym (swap_is x p q d hp hq))
    ∙ set_at (set x p (get_or x q d)) q r (get_or x p d) d (rw (length-set x p (get_or x q d)) hq)
    ∙ ap (λ (v : _). cond (eqb r q) (get_or x p d) v) (set_at x p r (get_or x q d) d hp)
    ∙ go (eqb r q) (eqb r p)
  where
    go : (s t : Bool) → cond s (get_or x p d) (cond t (get_or x q d) (get_or x r d)) ≡ get_or x (cond s p (cond t q r)) d
    go true t = refl
    go false true = refl
    go false false = refl

pub swapped_is : (n : ℕ) (a a' : List (List Float)) (b b' : List Float) (p q : ℕ) → p < length a → q < length a → p < length b → q < length b
    → a' ≡ swap a p q → b' ≡ swap b p q → augmented n a' b' ≡ swapped (augmented n a b) p q
unfolding augmented swapped
swapped_is n a a' b b' p q pa qa pb qb e g = rw (e, g) (fun_ext (λ r. fun_ext (λ k. rw (swap_at a p q r [] pa qa, swap_at b p q r nan pb qb))))

-- ---- a multiple of row c taken from row r, and of its right-hand side
pub side_less : (b : List Float) (c r : ℕ) (f : Float) → r < length b → (i : ℕ)
    → get_or (set b r (get_or b r nan ⊟ f ⊠ get_or b c nan)) i nan ≡ cond (eqb i r) (get_or b i nan ⊟ f ⊠ get_or b c nan) (get_or b i nan)
side_less b c r f h i =
    set_at b r i _ nan h
    ∙ ⊎_elim
    (λ e. subst (λ (i : ℕ). cond (eqb i r) (get_or b r nan ⊟ f ⊠ get_or b c nan) (get_or b i nan) ≡ cond (eqb i r) (get_or b i nan ⊟ f ⊠ get_or b c nan) (get_or b i nan)) (sym e) refl)
    (λ ne. rw (ne_eqb i r ne))
    (same_or_not i r)

pub reduced_is : (n c r : ℕ) (f : Float) (a : List (List Float)) (b b' row : List Float) → c < n → r < length a
    → ((j : ℕ) → j < c → get_or row j nan ≡ at a r j) → ((j : ℕ) → c ≤ j → j < n → get_or row j nan ≡ at a r j ⊟ f ⊠ at a c j)
    → ((i : ℕ) → get_or b' i nan ≡ cond (eqb i r) (get_or b i nan ⊟ f ⊠ get_or b c nan) (get_or b i nan))
    → augmented n (set a r row) b' ≡ reduced (augmented n a b) c r f
unfolding reduced
reduced_is n c r f a b b' row h g before after side = fun_ext (λ i. fun_ext (λ j. ⊎_elim (left i j) (right i j) (below_or_not j n)))
  where
    in_row : (j : ℕ) → j < n → at (set a r row) r j ≡ reduced (augmented n a b) c r f r j
    in_row j l =
        ap (λ (x : List Float). get_or x j nan) (get_or-set_same a r row [] g)
        ∙ ⊎_elim
        (λ k. rw (lt-leb c j k, eq-eqb r r refl, left_of n a b r j l) (before j k))
        (λ k. rw (le-leb c j k, eq-eqb r r refl, left_of n a b r j l, left_of n a b c j l) (after j k l))
        (below_or_not j c)

    left : (i j : ℕ) → j < n → augmented n (set a r row) b' i j ≡ reduced (augmented n a b) c r f i j
    left i j l =
        left_of n (set a r row) b' i j l
        ∙ ⊎_elim
        (λ e. subst (λ (i : ℕ). at (set a r row) i j ≡ reduced (augmented n a b) c r f i j) (sym e) (in_row j l))
        (λ ne. ap (λ (x : List Float). get_or x j nan) (get_or-set_other a r i row [] ne) ∙ rw (ne_eqb i r ne) (sym (left_of n a b i j l)))
        (same_or_not i r)

    right : (i j : ℕ) → n ≤ j → augmented n (set a r row) b' i j ≡ reduced (augmented n a b) c r f i j
    right i j l =
        right_of n (set a r row) b' i j l ∙ side i
        ∙ rw (right_of n a b i j l, right_of n a b c j l, le-leb c j (omega arith)) (ap (λ (s : Bool). cond s (get_or b i nan ⊟ f ⊠ get_or b c nan) (get_or b i nan)) (go (eqb i r)))
      where
        go : (s : Bool) → s ≡ (s && true)
        go true = refl
        go false = refl

-- ---- memory: where the matrix has room, the system has
pub sized : (n : ℕ) → n * (n * 8) < 9223372036854775808 → up 8 (up 8 (0 + n * (n * 8)) + n * 8) < 9223372036854775808
sized n h = ⊎_elim few many (below_or_not n 1073741824)
  where
    few : n < 1073741824 → up 8 (up 8 (0 + n * (n * 8)) + n * 8) < 9223372036854775808
    few l = let k : n * n ≤ 1073741823 * n = mul-le-mul_right n (omega arith) in omega (arith, k)

    many : 1073741824 ≤ n → up 8 (up 8 (0 + n * (n * 8)) + n * 8) < 9223372036854775808
    many l = let k : 1073741824 * 1073741824 ≤ n * n = mul-le-mul l l in absurd (omega (arith, k))
