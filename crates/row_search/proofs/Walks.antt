-- From dark run to dark run along a line: what is skipped holds no start, and the light run before the next start is known. Assumes nothing.
use mathlib.Core.Path.{◌≡◌, refl, sym, ap, ◌∙◌}
use mathlib.Core.Logic.{◌⊎◌, inl, inr}
use mathlib.Core.Bool.{Bool, true, false, not, ◌&&◌, cond, beq, true≢false}
use Prim.Native.Nat.{ℕ, zero, suc, ◌+◌, ◌-◌, ◌≤◌, ◌<◌}
use native.Mathlib.Nat.{add-zero, add-suc}
use native.Mathlib.Omega.{arith}
use lib.Dec.{ltb}
use borrow.Author.Tests.{ltb-true, ltb-false}
use Rattle.lists.specs.Lists.{range, folded}
use Rattle.lists.proofs.Folds.{fold_more}
use Rattle.binary.specs.Line.{run, run_back}
use Rattle.row_search.specs.Rows.{starts_at}

-- ---- runs
beq_true : (a b : Bool) → beq a b ≡ true → a ≡ b
beq_true true true e = refl
beq_true true false e = sym e
beq_true false true e = e
beq_true false false e = refl

beq_false : (a b : Bool) → beq a b ≡ false → a ≡ not b
beq_false true true e = e
beq_false true false e = refl
beq_false false true e = refl
beq_false false false e = sym e

-- the pixels of a run have its colour
run_colour : (c : Bool) (f : ℕ → Bool) (i n j : ℕ) → j < run c f i n → f (i + j) ≡ c
unfolding run
run_colour c f i zero j h = absurd (omega arith)
run_colour c f i (suc n) j h = go (beq (f i) c) refl h j refl (λ k l. run_colour c f (suc i) n k l)
  where
    go : (v : Bool) → beq (f i) c ≡ v → j < cond v (suc (run c f (suc i) n)) 0 → (k : ℕ) → j ≡ k → ((k : ℕ) → k < run c f (suc i) n → f (suc i + k) ≡ c) → f (i + j) ≡ c
    go false e l k q r = absurd (omega arith)
    go true e l zero q r = let z : i + j ≡ i = omega arith in rw z (beq_true (f i) c e)
    go true e l (suc k) q r = let z : i + j ≡ suc i + k = omega arith in rw z (r k (omega arith))

-- the pixel after a run that is not cut has the other one
run_ends : (c : Bool) (f : ℕ → Bool) (i n : ℕ) → run c f i n < n → f (i + run c f i n) ≡ not c
unfolding run
run_ends c f i zero h = absurd (omega arith)
run_ends c f i (suc n) h = go (beq (f i) c) refl h (run_ends c f (suc i) n)
  where
    go : (v : Bool) → beq (f i) c ≡ v → cond v (suc (run c f (suc i) n)) 0 < suc n → (run c f (suc i) n < n → f (suc i + run c f (suc i) n) ≡ not c)
        → f (i + cond v (suc (run c f (suc i) n)) 0) ≡ not c
    go true e l r = let z : i + suc (run c f (suc i) n) ≡ suc i + run c f (suc i) n = omega arith in rw z (r (omega arith))
    go false e l r = rw (add-zero i) (beq_false (f i) c e)

-- where a light run can begin: where the window or a dark run ends
abbrev Edge : (ℕ → Bool) → ℕ → ℕ → Type 0
Edge f left a = (a ≡ left) ⊎ ((k : ℕ) × (a ≡ suc k) × (f k ≡ true))

back_cut : (f : ℕ → Bool) (i : ℕ) → run_back false f i 0 ≡ 0
unfolding run_back
back_cut f zero = refl
back_cut f (suc i) = refl

back_dark : (f : ℕ → Bool) (k n : ℕ) → f k ≡ true → run_back false f (suc k) n ≡ 0
unfolding run_back
back_dark f k zero d = refl
back_dark f k (suc n) d = rw d

back_edge : (f : ℕ → Bool) (left a : ℕ) → Edge f left a → run_back false f a (a - left) ≡ 0
back_edge f left a (inl q) = let z : a - left ≡ 0 = omega arith in rw z (back_cut f a)
back_edge f left a (inr q) = rw q.1 (back_dark f q.0 (suc q.0 - left) q.2)

back_light : (f : ℕ → Bool) (i n l : ℕ) → f i ≡ false → run_back false f i n ≡ l → run_back false f (suc i) (suc n) ≡ suc l
unfolding run_back
back_light f i n l d r = rw (d, r)

-- a light run of l pixels that begins at a, read backwards
back_run : (f : ℕ → Bool) (left a : ℕ) → left ≤ a → Edge f left a → (l : ℕ) → ((j : ℕ) → j < l → f (a + j) ≡ false) → run_back false f (a + l) (a + l - left) ≡ l
back_run f left a h e zero g = rw (add-zero a) (back_edge f left a e)
back_run f left a h e (suc l) g =
    let z : a + suc l - left ≡ suc (a + l - left) = omega arith in
    rw (z, add-suc a l) (back_light f (a + l) (a + l - left) l (g l (omega arith)) (back_run f left a h e l (λ j m. g j (omega arith))))

both_false : (a : Bool) → a && false ≡ false
both_false true = refl
both_false false = refl

-- ---- the walk
-- at x: the end of the window, or the start of a dark run after a light one of so many pixels
pub record At (f : ℕ → Bool) (left right x light : ℕ) : Type 0 where
  pub within : x ≤ right
  pub beyond : left < x
  pub starts : x < right → (f x ≡ true) × (f (x - 1) ≡ false) × (light ≡ run_back false f x (x - left))

-- from the window's first pixel, or a dark one, over a dark run of d pixels and a light one of l
module _ (f : ℕ → Bool) (left right i d l : ℕ) (h : left ≤ i) (n : i < right) (b : (i ≡ left) ⊎ (f i ≡ true)) (p : d ≡ run true f i (right - i))
    (q : l ≡ run false f (i + d) (right - (i + d))) (s : d ≤ right - i) (t : l ≤ right - (i + d)) where
  dark_at_lem : (j : ℕ) → j < d → f (i + j) ≡ true
  dark_at_lem j m = run_colour true f i (right - i) j (omega arith)

  light_at : (j : ℕ) → j < l → f (i + d + j) ≡ false
  light_at j m = run_colour false f (i + d) (right - (i + d)) j (omega arith)

  -- a dark run that does not reach the end is followed by a light pixel
  some_light : i + d < right → 1 ≤ l
  some_light m = go (ltb 0 l) refl
    where
      light : f (i + d) ≡ false
      light = rw p (run_ends true f i (right - i) (omega arith))

      go : (v : Bool) → ltb 0 l ≡ v → 1 ≤ l
      go true e = ltb-true 0 l e
      go false e =
          let z : run false f (i + d) (right - (i + d)) ≡ 0 = omega (arith, ltb-false 0 l e) in
          let r = run_ends false f (i + d) (right - (i + d)) (omega arith) in
          absurd (true≢false (sym (rw (z, add-zero) at r) ∙ light))

  -- a dark run that begins with a dark pixel has some
  pub some_dark : f i ≡ true → 1 ≤ d
  some_dark r = go (ltb 0 d) refl
    where
      go : (v : Bool) → ltb 0 d ≡ v → 1 ≤ d
      go true e = ltb-true 0 d e
      go false e =
          let z : run true f i (right - i) ≡ 0 = omega (arith, ltb-false 0 d e) in
          let x = run_ends true f i (right - i) (omega arith) in
          absurd (true≢false (sym r ∙ rw (z, add-zero) at x))

  edge : Edge f left (i + d)
  edge = go d refl b
    where
      go : (m : ℕ) → d ≡ m → ((i ≡ left) ⊎ (f i ≡ true)) → Edge f left (i + d)
      go zero e (inl r) = inl (omega arith)
      go zero e (inr r) = absurd (omega (arith, some_dark r))
      go (suc m) e r = inr (i + m, omega arith, dark_at_lem m (omega arith))

  pub walk_next : At f left right (i + d + l) l
  walk_next = record { within = omega arith; beyond = past (ltb (i + d) right) refl; starts = begins }
    where
      past : (v : Bool) → ltb (i + d) right ≡ v → left < i + d + l
      past true e = omega (arith, some_light (ltb-true (i + d) right e))
      past false e = omega (arith, ltb-false (i + d) right e)

      begins : i + d + l < right → (f (i + d + l) ≡ true) × (f (i + d + l - 1) ≡ false) × (l ≡ run_back false f (i + d + l) (i + d + l - left))
      begins m =
          let o = some_light (omega arith) in
          let z : i + d + l - 1 ≡ i + d + (l - 1) = omega arith in
          let r = run_ends false f (i + d) (right - (i + d)) (omega arith) in
          (rw q r, rw z (light_at (l - 1) (omega arith)), sym (back_run f left (i + d) (omega arith) edge l light_at))

  -- no dark run starts in between
  pub none_starts : (k : ℕ) → i < k → k < i + d + l → starts_at f k ≡ false
  unfolding starts_at
  none_starts k m o = go (ltb k (i + d)) refl
    where
      go : (v : Bool) → ltb k (i + d) ≡ v → f k && not (f (k - 1)) ≡ false
      go true e =
          let z : k - 1 ≡ i + (k - 1 - i) = omega arith in
          rw (z, dark_at_lem (k - 1 - i) (omega (arith, ltb-true k (i + d) e))) (both_false (f k))
      go false e =
          let z : k ≡ i + d + (k - (i + d)) = omega (arith, ltb-false k (i + d) e) in
          ap (λ (b : Bool). b && not (f (k - 1))) (ap f z ∙ light_at (k - (i + d)) (omega (arith, ltb-false k (i + d) e)))

-- ---- a fold over numbers of which some leave the state as it is
pub fold_skip : {S : Type 0} (g : S → ℕ → S) (b : S) (k n e : ℕ) → k + n ≤ e → ((i : ℕ) → k ≤ i → i < k + n → g b i ≡ b) → folded g b (range k e) ≡ folded g b (range (k + n) e)
fold_skip g b k zero e h s = ap (λ (j : ℕ). folded g b (range j e)) (sym (add-zero k))
fold_skip g b k (suc n) e h s =
    let z : k + 1 + n ≡ k + suc n = omega arith in
    fold_more g _ b b k e (omega arith) refl (sym (s k (omega arith) (omega arith))) ∙ fold_skip g b (k + 1) n e (omega arith) (λ i l m. s i (omega arith) (omega arith))
    ∙ ap (λ (j : ℕ). folded g b (range j e)) z
