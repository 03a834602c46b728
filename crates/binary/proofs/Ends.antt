-- How a run ended, by its length without a limit: by the limit exactly where it would be longer. Assumes nothing.
use mathlib.Core.Path.{◌≡◌, refl, sym, ap, ◌∙◌}
use mathlib.Core.Bool.{Bool, true, false, cond, beq}
use Prim.Native.Nat.{ℕ, zero, suc, ◌+◌, ◌-◌, ◌≤◌, ◌<◌, min}
use native.Mathlib.Omega.{arith}
use lib.Dec.{eqb, leb, ltb}
use borrow.Author.Tests.{lt-ltb, le-ltb, le-leb, lt-leb, eq-eqb, ne_eqb, leb-true, leb-false}
use Rattle.binary.specs.Line.{run, run_back, run_before, run_after, end_by, end_before, end_after, limited_before, limited_after}
use Rattle.binary.specs.declared.line.End.{End}
use Rattle.binary.specs.declared.line.End.TheVariants.{Change, Edge, Limit}
use Rattle.binary.specs.declared.line.Run.{Run}

-- ---- how a run ended that has `left` pixels up to the edge and would be `full` pixels long without a limit
abbrev pub end_of : ℕ → ℕ → ℕ → End
end_of limit left full = cond (ltb limit full) Limit (cond (eqb full left) Edge Change)

-- by what is known of it
module _ (limit left full : ℕ) where
  over_limit : limit < full → Limit ≡ end_of limit left full
  over_limit h = rw (lt-ltb limit full h)

  to_edge : full ≤ limit → full ≡ left → Edge ≡ end_of limit left full
  to_edge h e = rw (le-ltb limit full h, eq-eqb full left e)

  to_change : full ≤ limit → (full ≡ left → ⊥) → Change ≡ end_of limit left full
  to_change h n = rw (le-ltb limit full h, ne_eqb full left n)

-- a run of n pixels, then by its next pixel
by_next : (limit left full n : ℕ) (t : Bool) → n ≡ min limit full → n < left → (t ≡ true → n < full) → (t ≡ false → full ≡ n) → cond t Limit Change ≡ end_of limit left full
by_next limit left full n true m l more stop = let h = more refl in over_limit limit left full (omega arith)
by_next limit left full n false m l more stop = let h = stop refl in to_change limit left full (omega arith) (λ e. omega arith)

-- ---- forwards
module _ (k : Bool) (f : ℕ → Bool) where
  run_most : (i n : ℕ) → run k f i n ≤ n
  unfolding run
  run_most i zero = omega arith
  run_most i (suc n) = go (beq (f i) k) (run_most (suc i) n)
    where
      go : (b : Bool) → run k f (suc i) n ≤ n → cond b (suc (run k f (suc i) n)) 0 ≤ suc n
      go true h = omega arith
      go false h = omega arith

  -- a bound cuts the count
  run-min : (i a b : ℕ) → run k f i (min a b) ≡ min a (run k f i b)
  unfolding run
  run-min i zero b = let z : min 0 b ≡ 0 = omega arith in let y : min 0 (run k f i b) ≡ 0 = omega arith in rw (z, y)
  run-min i (suc a) zero = let z : min (suc a) 0 ≡ 0 = omega arith in rw z
  run-min i (suc a) (suc b) =
      let z : min (suc a) (suc b) ≡ suc (min a b) = omega arith in rw z (go (beq (f i) k) (run-min (suc i) a b))
    where
      go : (t : Bool) → run k f (suc i) (min a b) ≡ min a (run k f (suc i) b)
          → cond t (suc (run k f (suc i) (min a b))) 0 ≡ min (suc a) (cond t (suc (run k f (suc i) b)) 0)
      go true h = omega arith
      go false h = omega arith

  -- a run that fills its bound goes on from there
  run_goes_on : (i m l : ℕ) → run k f i m ≡ m → m ≤ l → run k f i l ≡ m + run k f (i + m) (l - m)
  unfolding run
  run_goes_on i zero l h g = let e : i + 0 ≡ i = omega arith in let d : l - 0 ≡ l = omega arith in rw (e, d) (omega arith)
  run_goes_on i (suc m) zero h g = absurd (omega arith)
  run_goes_on i (suc m) (suc l) h g =
      let a : i + suc m ≡ suc i + m = omega arith in
      let b : suc l - suc m ≡ l - m = omega arith in
      rw (a, b) (go (beq (f i) k) h (λ e. run_goes_on (suc i) m l e (omega arith)))
    where
      go : (t : Bool) → cond t (suc (run k f (suc i) m)) 0 ≡ suc m → (run k f (suc i) m ≡ m → run k f (suc i) l ≡ m + run k f (suc i + m) (l - m))
          → cond t (suc (run k f (suc i) l)) 0 ≡ suc m + run k f (suc i + m) (l - m)
      go true h r = let e = r (omega arith) in omega arith
      go false h r = absurd (omega arith)

  -- the first pixel of a run
  run-first : (i l : ℕ) → 0 < l → (beq (f i) k ≡ true → 0 < run k f i l) × (beq (f i) k ≡ false → run k f i l ≡ 0)
  unfolding run
  run-first i zero h = absurd (omega arith)
  run-first i (suc l) h = (λ e. rw e (omega arith), λ e. rw e)

module _ (k : Bool) (f : ℕ → Bool) (len limit i : ℕ) where
  -- as many pixels as it has without a limit, but for those beyond the limit
  pub after_count : run_after k f len limit i ≡ min limit (run k f i (len - i))
  after_count = run-min k f i limit (len - i)

  -- how it ended
  pub after_end : end_after k f len limit i ≡ end_of limit (len - i) (run k f i (len - i))
  unfolding end_after
  after_end = go (leb len (i + n)) refl
    where
      n : ℕ
      n = run_after k f len limit i

      full : ℕ
      full = run k f i (len - i)

      go : (t : Bool) → leb len (i + n) ≡ t → cond t Edge (end_by k (f (i + n))) ≡ end_of limit (len - i) full
      go true e = let h = leb-true len (i + n) e in to_edge limit (len - i) full (omega (arith, h, after_count, run_most k f i (len - i))) (omega (arith, h, after_count, run_most k f i (len - i)))
      go false e =
          let h = leb-false len (i + n) e in
          let c = after_count in
          let own : run k f i n ≡ n = let z : min n (len - i) ≡ n = omega arith in ap (run k f i) (sym z) ∙ run-min k f i n (len - i) ∙ omega arith in
          let whole = run_goes_on k f i n (len - i) own (omega arith) in
          let first = run-first k f (i + n) (len - i - n) (omega arith) in
          by_next limit (len - i) full n (beq (f (i + n)) k) c (omega arith) (λ t. let p = first.0 t in omega arith) (λ t. let p = first.1 t in omega arith)

-- ---- backwards: the run before pixel i is that of the line g from its pixel s on, which has the same pixels in the other order
module _ (k : Bool) (f : ℕ → Bool) where
  back_as_on : (g : ℕ → Bool) (i s n : ℕ) → n ≤ i → ((j : ℕ) → j < n → g (s + j) ≡ f (i - suc j)) → run_back k f i n ≡ run k g s n
  unfolding run run_back
  back_as_on g zero s zero l e = refl
  back_as_on g (suc i) s zero l e = refl
  back_as_on g zero s (suc n) l e = absurd (omega arith)
  back_as_on g (suc i) s (suc n) l e =
      let z : s + 0 ≡ s = omega arith in
      let y : suc i - 1 ≡ i = omega arith in
      let first : g s ≡ f i = ap g (sym z) ∙ e 0 (omega arith) ∙ ap f y in
      rw (first, back_as_on g i (suc s) n (omega arith) (λ j h. let u : suc s + j ≡ s + suc j = omega arith in let v : suc i - suc (suc j) ≡ i - suc j = omega arith in ap g u ∙ e (suc j) (omega arith) ∙ ap f v))

module _ (k : Bool) (f : ℕ → Bool) (limit i : ℕ) where
  abbrev turned : ℕ → Bool
  turned j = f (i - suc j)

  turned_run : (n : ℕ) → n ≤ i → run_back k f i n ≡ run k turned 0 n
  turned_run n l = back_as_on k f turned i 0 n l (λ j h. let z : 0 + j ≡ j = omega arith in ap turned z)

  -- as many pixels as it has without a limit, but for those beyond the limit
  pub before_count : run_before k f limit i ≡ min limit (run_back k f i i)
  before_count = turned_run (min limit i) (omega arith) ∙ run-min k turned 0 limit i ∙ ap (min limit) (sym (turned_run i (omega arith)))

  -- beyond n pixels
  turned_next : (n m : ℕ) → n ≡ m → cond (eqb (i - n) 0) Edge (end_by k (f (i - n - 1))) ≡ cond (leb i (0 + m)) Edge (end_by k (turned (0 + m)))
  turned_next n m e = go (leb i (0 + m)) refl
    where
      go : (t : Bool) → leb i (0 + m) ≡ t → cond (eqb (i - n) 0) Edge (end_by k (f (i - n - 1))) ≡ cond t Edge (end_by k (f (i - suc (0 + m))))
      go true h = let l = leb-true i (0 + m) h in rw (eq-eqb (i - n) 0 (omega arith))
      go false h = let l = leb-false i (0 + m) h in let u : i - n - 1 ≡ i - suc (0 + m) = omega arith in rw (ne_eqb (i - n) 0 (λ z. omega arith), u)

  turned_end : end_before k f limit i ≡ end_after k turned i limit 0
  unfolding end_before end_after
  turned_end =
      let z : i - 0 ≡ i = omega arith in
      turned_next (run_before k f limit i) (run_after k turned i limit 0) (turned_run (min limit i) (omega arith) ∙ ap (λ (l : ℕ). run k turned 0 (min limit l)) (sym z))

  -- how it ended
  pub before_end : end_before k f limit i ≡ end_of limit i (run_back k f i i)
  before_end =
      let z : i - 0 ≡ i = omega arith in
      turned_end ∙ after_end k turned i limit 0 ∙ ap (λ (l : ℕ). end_of limit l (run k turned 0 l)) z ∙ ap (end_of limit i) (sym (turned_run i (omega arith)))

-- ---- what the code finds is how the run ended
module _ (k : Bool) (f : ℕ → Bool) (len limit i left most n : ℕ) (l : left ≡ len - i) (m : most ≡ min limit left) (r : n ≡ run k f i most) where
  count_is : n ≡ run_after k f len limit i
  count_is = r ∙ ap (run k f i) (m ∙ ap (min limit) l)

  -- it stopped before its bound
  pub at_change : n < most → ◌≡◌ {A = Run} (record { count = n; end = Change }) (limited_after k f len limit i)
  at_change h =
      let c = count_is ∙ after_count k f len limit i in
      let e : Change ≡ end_after k f len limit i = to_change limit (len - i) (run k f i (len - i)) (omega arith) (λ z. omega arith) ∙ sym (after_end k f len limit i) in
      rw (← count_is, ← e)

  pub at_edge : len ≤ i + n → ◌≡◌ {A = Run} (record { count = n; end = Edge }) (limited_after k f len limit i)
  unfolding end_after
  at_edge h = rw (← count_is, le-leb len (i + n) h)

  pub at-pixel : i + n < len → (d : Bool) → d ≡ f (i + n) → (e : End) → e ≡ end_by k d → ◌≡◌ {A = Run} (record { count = n; end = e }) (limited_after k f len limit i)
  unfolding end_after
  at-pixel h d g e q = rw (← count_is, lt-leb len (i + n) h, ← g, q)

module _ (k : Bool) (f : ℕ → Bool) (limit i most n : ℕ) (m : most ≡ min limit i) (r : n ≡ run_back k f i most) where
  back_count_is : n ≡ run_before k f limit i
  back_count_is = r ∙ ap (run_back k f i) m

  pub back_at_change : n < most → ◌≡◌ {A = Run} (record { count = n; end = Change }) (limited_before k f limit i)
  back_at_change h =
      let c = back_count_is ∙ before_count k f limit i in
      let e : Change ≡ end_before k f limit i = to_change limit i (run_back k f i i) (omega arith) (λ z. omega arith) ∙ sym (before_end k f limit i) in
      rw (← back_count_is, ← e)

  pub back_at_edge : i - n ≡ 0 → ◌≡◌ {A = Run} (record { count = n; end = Edge }) (limited_before k f limit i)
  unfolding end_before
  back_at_edge h = rw (← back_count_is, eq-eqb (i - n) 0 h)

  pub back_at-pixel : (i - n ≡ 0 → ⊥) → (d : Bool) → d ≡ f (i - n - 1) → (e : End) → e ≡ end_by k d → ◌≡◌ {A = Run} (record { count = n; end = e }) (limited_before k f limit i)
  unfolding end_before
  back_at-pixel h d g e q = rw (← back_count_is, ne_eqb (i - n) 0 h, ← g, q)
