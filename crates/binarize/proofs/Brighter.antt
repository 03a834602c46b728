-- Where all means are k more and the marks agree, each level is k more, or 0 as before where no block is marked; and where the gray values are k more too,
-- the same pixels are dark (document 02, N6). With k = 0 these are the laws of means and marks that agree. Assumes nothing.
use mathlib.Core.Path.{◌≡◌, refl, sym, ap, ◌∙◌}
use mathlib.Core.Bool.{Bool, true, false, cond, ◌&&◌, ◌||◌}
use mathlib.Core.List.{List, [], ◌∷◌, map}
use mathlib.Core.Logic.{◌⊎◌, inl, inr}
use Prim.Native.Nat.{ℕ, suc, ◌+◌, ◌-◌, ◌*◌, ◌/◌, ◌%◌, ◌<◌, min}
use native.Mathlib.Omega.{arith}
use lib.Dec.{eqb, leb, ltb}
use lib.ListN.{length}
use borrow.Author.Tests.{leb-true, leb-false, le-leb, lt-leb, ltb-true, le-ltb, ne_eqb}
use Rattle.lists.specs.Lists.{Each, range, those, mean, at}
use Rattle.lists.proofs.Filters.{each_map, each_those, those_same, how_many_same}
use Rattle.lists.proofs.Folds.{each_range}
use Rattle.blocks.specs.Blocks.{cells, about, blocks_on}
use Rattle.blocks.proofs.Grids.{cells-within}
use Rattle.blocks.proofs.Brighter.{more, mean_more, map_more}
use Rattle.binarize.specs.Levels.{midway, level, first_level, marked, marked_means, any_marked, chosen, global_level, window, window_level, level_at}
use Rattle.binarize.specs.Binarize.{dark_by}

-- ---- the level of a list of means
module _ (k : ℕ) where
  leb_more : (a b : ℕ) → leb (a + k) (b + k) ≡ leb a b
  leb_more a b = go (leb a b) refl
    where
      go : (t : Bool) → leb a b ≡ t → leb (a + k) (b + k) ≡ t
      go true e = le-leb (a + k) (b + k) (omega (arith, leb-true a b e))
      go false e = lt-leb (a + k) (b + k) (omega (arith, leb-false a b e))

  ltb_more : (a b : ℕ) → ltb (a + k) (b + k) ≡ ltb a b
  ltb_more a b = let e : suc (a + k) ≡ suc a + k = omega arith in ap (λ (n : ℕ). leb n (b + k)) e ∙ leb_more (suc a) b

  those_more : (p q : ℕ → Bool) → ((v : ℕ) → q (v + k) ≡ p v) → (l : List ℕ) → those q (more k l) ≡ more k (those p l)
  unfolding those
  those_more p q h [] = refl
  those_more p q h (x ∷ l) = rw (h x) (go (p x) (those_more p q h l))
    where
      go : (b : Bool) → those q (more k l) ≡ more k (those p l) → cond b ((x + k) ∷ those q (more k l)) (those q (more k l)) ≡ more k (cond b (x ∷ those p l) (those p l))
      go true e = ap (λ (m : List ℕ). (x + k) ∷ m) e
      go false e = e

  either : (b : Bool) (x y : ℕ) → cond (b || true) x y ≡ x
  either true x y = refl
  either false x y = refl

  midway_more : (m : ℕ) (low high : List ℕ) → midway (m + k) (more k low) (more k high) ≡ midway m low high + k
  unfolding midway
  midway_more m [] high = refl
  midway_more m (x ∷ low) [] = either (eqb (suc (length (more k low))) 0) (m + k) _ ∙ ap (λ (n : ℕ). n + k) (sym (either (eqb (suc (length low)) 0) m _))
  midway_more m (x ∷ low) (y ∷ high) =
      let f : (n : ℕ) → eqb (suc n) 0 ≡ false = λ n. ne_eqb (suc n) 0 (λ e. omega arith) in
      rw (f (length (more k low)), f (length (more k high)), f (length low), f (length high))
      (omega (arith, mean_more k (x ∷ low) (omega arith), mean_more k (y ∷ high) (omega arith)))

  -- the level of means k greater is k greater
  pub level_more : (l : List ℕ) → 0 < length l → level (more k l) ≡ level l + k
  unfolding level
  level_more l p =
      let m = mean l in
      ap (λ (n : ℕ). midway n (those (λ v. leb v n) (more k l)) (those (λ v. ltb n v) (more k l))) (mean_more k l p)
      ∙ ap (λ (low : List ℕ). midway (m + k) low (those (λ v. ltb (m + k) v) (more k l))) (those_more (λ v. leb v m) (λ v. leb v (m + k)) (λ v. leb_more v m) l)
      ∙ ap (λ (high : List ℕ). midway (m + k) (more k (those (λ v. leb v m) l)) high) (those_more (λ v. ltb m v) (λ v. ltb (m + k) v) (λ v. ltb_more m v) l)
      ∙ midway_more m (those (λ v. leb v m) l) (those (λ v. ltb m v) l)

  -- a level that is k more, or 0 as before where no block is marked
  abbrev Moved : ℕ → ℕ → Type 0
  Moved v v' = (v' ≡ v + k) ⊎ ((v ≡ 0) × (v' ≡ 0))

  -- the same values are below it
  below_same : (v t t' : ℕ) → Moved t t' → ltb (v + k) t' ≡ ltb v t
  below_same v t t' (inl e) = rw e (ltb_more v t)
  below_same v t t' (inr z) = rw (z.0, z.1) (le-ltb (v + k) 0 (omega arith) ∙ sym (le-ltb v 0 (omega arith)))

  first_moved : (windows : List (List ℕ)) (other other' : ℕ) → Moved other other' → Moved (first_level windows other) (first_level (map (more k) windows) other')
  first_moved [] other other' m = m
  first_moved ([] ∷ windows) other other' m = first_moved windows other other' m
  first_moved ((v ∷ l) ∷ windows) other other' m = inl (level_more (v ∷ l) (omega arith))

-- ---- the levels of n blocks

-- the same for each number below n, and k more for each
abbrev Same : ℕ → (ℕ → ℕ) → (ℕ → ℕ) → Type 0
Same n f f' = (i : ℕ) → i < n → f' i ≡ f i

abbrev More : ℕ → ℕ → (ℕ → ℕ) → (ℕ → ℕ) → Type 0
More k n f f' = (i : ℕ) → i < n → f' i ≡ f i + k

marks_same : (n : ℕ) (a a' : ℕ → ℕ) → Same n a a' → (is : List ℕ) → Each (λ i. i < n) is → Each (λ i. marked a' i ≡ marked a i) is
marks_same n a a' h is e = each_map (λ i. i < n) (λ i. marked a' i ≡ marked a i) (λ i l. ap (λ (v : ℕ). eqb v 1) (h i l)) is e

marked_more : (k n : ℕ) (m m' a a' : ℕ → ℕ) → More k n m m' → Same n a a' → (is : List ℕ) → Each (λ i. i < n) is → marked_means m' a' is ≡ more k (marked_means m a is)
marked_more k n m m' a a' hm ha is e =
    ap (map m') (those_same (marked a') (marked a) is (marks_same n a a' ha is e))
    ∙ map_more k n m m' hm (those (marked a) is)
    (each_map (λ i. (i < n) × (marked a i ≡ true)) (λ i. i < n) (λ i p. p.0) (those (marked a) is) (each_those (λ i. i < n) (marked a) is e))

all_below : (n : ℕ) → Each (λ i. i < n) (range 0 n)
all_below n = each_range (λ i. i < n) 0 n (λ x _ l. l)

pick_same : (n : ℕ) (e e' a a' : ℕ → ℕ) → Same n e e' → Same n a a' → (b : Bool) → Same n (cond b e a) (cond b e' a')
pick_same n e e' a a' he ha true = he
pick_same n e e' a a' he ha false = ha

chosen_same : (n : ℕ) (e e' a a' : ℕ → ℕ) → Same n e e' → Same n a a' → Same n (chosen e a n) (chosen e' a' n)
chosen_same n e e' a a' he ha i l =
    ap (λ (c : ℕ). cond (ltb 0 c) e' a' i) (how_many_same (marked e') (marked e) (range 0 n) (marks_same n e e' he (range 0 n) (all_below n)))
    ∙ pick_same n e e' a a' he ha (any_marked e n) i l

-- of bw × bh blocks with the means m and m', the edge marks e and e', the near marks a and a'
module _ (k : ℕ) (m m' e e' a a' : ℕ → ℕ) (bw bh : ℕ) (hm : More k (bh * bw) m m') (he : Same (bh * bw) e e') (ha : Same (bh * bw) a a') where
  global_moved : Moved k (global_level m e a bw bh) (global_level m' e' a' bw bh)
  unfolding global_level
  global_moved =
      let n = bh * bw in
      rw (marked_more k n m m' (chosen e a n) (chosen e' a' n) hm (chosen_same n e e' a a' he ha) (range 0 n) (all_below n))
      (first_moved k (marked_means m (chosen e a n) (range 0 n) ∷ []) 0 0 (inr (refl, refl)))

  window_more : (b b' : ℕ → ℕ) → Same (bh * bw) b b' → (x y r : ℕ) → window m' e' a' bw bh b' x y r ≡ more k (window m e a bw bh b x y r)
  window_more b b' h x y r =
      marked_more k (bh * bw) m m' b b' hm h (cells bw (about bw x r) (about bh y r))
      (cells-within bw bh (x - r) (min bw (x + r + 1)) (y - r) (min bh (y + r + 1)) (omega arith) (omega arith))

  level_moved : (x y : ℕ) → Moved k (level_at m e a bw bh x y) (level_at m' e' a' bw bh x y)
  unfolding window_level
  level_moved x y =
      rw (window_more e e' he x y 2, window_more e e' he x y 4, window_more a a' ha x y 2, window_more a a' ha x y 4)
      (first_moved k (window m e a bw bh e x y 2 ∷ window m e a bw bh e x y 4 ∷ window m e a bw bh a x y 2 ∷ window m e a bw bh a x y 4 ∷ []) (global_level m e a bw bh) (global_level m' e' a' bw bh) global_moved)

-- ---- the pixels
pub dark_more : (k : ℕ) (m m' e e' a a' : ℕ → ℕ) (g g' : List ℕ) (w h : ℕ) → More k (blocks_on h * blocks_on w) m m' → Same (blocks_on h * blocks_on w) e e'
    → Same (blocks_on h * blocks_on w) a a' → More k (w * h) (at g) (at g') → (i : ℕ) → dark_by m' e' a' g' w h i ≡ dark_by m e a g w h i
unfolding dark_by
dark_more k m m' e e' a a' g g' w h hm he ha hg i = go (ltb i (w * h)) refl
  where
    go : (t : Bool) → ltb i (w * h) ≡ t
        → t && ltb (at g' i) (level_at m' e' a' (blocks_on w) (blocks_on h) (i % w / 8) (i / w / 8)) ≡ t && ltb (at g i) (level_at m e a (blocks_on w) (blocks_on h) (i % w / 8) (i / w / 8))
    go false p = refl
    go true p =
        rw (hg i (ltb-true i (w * h) p)) (below_same k (at g i) _ _ (level_moved k m m' e e' a a' (blocks_on w) (blocks_on h) hm he ha (i % w / 8) (i / w / 8)))

-- of one picture, where means and marks agree
pub dark_same : (m m' e e' a a' : ℕ → ℕ) (g : List ℕ) (w h : ℕ) → Same (blocks_on h * blocks_on w) m m' → Same (blocks_on h * blocks_on w) e e'
    → Same (blocks_on h * blocks_on w) a a' → (i : ℕ) → dark_by m' e' a' g w h i ≡ dark_by m e a g w h i
dark_same m m' e e' a a' g w h hm he ha = dark_more 0 m m' e e' a a' g g w h (λ i l. omega (arith, hm i l)) he ha (λ i l. omega arith)
