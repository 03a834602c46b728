-- The hits of a line, window by window: what is left of them after some runs. Assumes nothing.
use Rattle.std.specs.Prelude.{Option, Some, None}
use Rattle.std.proofs.Common.{◌≡◌, ℕ, zero, suc, ◌+◌, ◌-◌, ◌*◌, ◌<◌, ◌≤◌, Bool, true, false, cond, not, ltb, List, [], ◌∷◌, ◌++◌, sym, refl, ap, ◌∙◌, inl, inr, add-zero, eq-or-lt_of_le, arith, ltb-true}
use mathlib.Core.Bool.{beq, and-false}
use native.Mathlib.Nat.{sub-zero}
use lib.Ieee.{Float}
use borrow.Author.Tests.{lt-leb}
use Rattle.float.specs.Steps.{◌⊖◌, ◌⊘◌, whole32}
use Rattle.float.specs.Constants.{f2}
use Rattle.binary.specs.Line.{run}
use Rattle.ratio.specs.Ratio.{passes, near_one, match_of}
use Rattle.finders.specs.Hits.{runs, five_runs, hits, line_hits}
use Rattle.finders.specs.Inner.{runs_from, hits_after}
use Rattle.finders.specs.declared.search.LastRuns.{LastRuns}

-- ---- a run of no pixels at either end does not pass
far_zero : (s : ℕ) → 0 < s → near_one s 0 ≡ false
far_zero s h = lt-leb (20 * (4 * 0 - s + (s - 4 * 0))) (11 * s) (omega arith)

first_empty : (b c d e : ℕ) → match_of 0 b c d e ≡ None
unfolding match_of passes
first_empty b c d e = go (ltb 0 (0 + b + d + e)) refl
  where
    go : (t : Bool) → ltb 0 (0 + b + d + e) ≡ t → match_of 0 b c d e ≡ None
    go true h = rw (far_zero (0 + b + d + e) (ltb-true 0 (0 + b + d + e) h), and-false, and-false)
    go false h = rw (h, and-false, and-false)

last_empty : (a b c d : ℕ) → match_of a b c d 0 ≡ None
unfolding match_of passes
last_empty a b c d = go (ltb 0 (a + b + d + 0)) refl
  where
    go : (t : Bool) → ltb 0 (a + b + d + 0) ≡ t → match_of a b c d 0 ≡ None
    go true h = rw (far_zero (a + b + d + 0) (ltb-true 0 (a + b + d + 0) h), and-false, and-false, and-false)
    go false h = rw (h, and-false, and-false)

-- ---- the runs of a line start with its first run
other : (a k : Bool) → beq a k ≡ false → beq a (not k) ≡ true
other true true h = sym h
other true false h = refl
other false true h = refl
other false false h = sym h

runs_split : (f : ℕ → Bool) (k : Bool) (m i n : ℕ)
    → runs f k m i n ≡ (m + run k f i n) ∷ runs_from f (not k) (i + run k f i n) (n - run k f i n)
unfolding runs run
runs_split f k m i zero = rw add-zero
runs_split f k m i (suc n) = go (beq (f i) k) refl (runs_split f k (suc m) (suc i) n)
  where
    go : (t : Bool) → beq (f i) k ≡ t
        → runs f k (suc m) (suc i) n ≡ (suc m + run k f (suc i) n) ∷ runs_from f (not k) (suc i + run k f (suc i) n) (n - run k f (suc i) n)
        → cond t (runs f k (suc m) (suc i) n) (m ∷ runs f (not k) 1 (suc i) n)
        ≡ (m + cond t (suc (run k f (suc i) n)) 0) ∷ runs_from f (not k) (i + cond t (suc (run k f (suc i) n)) 0) (suc n - cond t (suc (run k f (suc i) n)) 0)
    go true e h =
        let r = run k f (suc i) n in
        let a : suc m + r ≡ m + suc r = omega arith in
        let b : suc i + r ≡ i + suc r = omega arith in
        let d : n - r ≡ suc n - suc r = omega arith in
        h ∙ rw (a, b, d)
    go false e h = rw (add-zero, add-zero, sub-zero, other (f i) k e)

-- where pixels are left
after_split : (f : ℕ → Bool) (k : Bool) (i n : ℕ) → 0 < n → runs_from f k i n ≡ run k f i n ∷ runs_from f (not k) (i + run k f i n) (n - run k f i n)
after_split f k i zero h = absurd (omega arith)
after_split f k i (suc n) h = runs_split f k 0 i (suc n) ∙ (let a : 0 + run k f i (suc n) ≡ run k f i (suc n) = omega arith in rw a)

-- ---- what is left of the hits
abbrev pub win : ℕ → ℕ → ℕ → ℕ → LastRuns
win c d e at = record { c = c; d = d; e = e; at = at }

zeros : (r : ℕ) (rest : List ℕ) → hits 0 (r ∷ rest) ≡ hits 0 (0 ∷ 0 ∷ r ∷ rest)
unfolding hits five_runs
zeros r [] = refl
zeros r (l ∷ []) = refl
zeros r (l ∷ m ∷ rest) = rw (first_empty 0 r l m)

pub remaining_start : (f : ℕ → Bool) (len e : ℕ) → e ≡ run true f 0 len → line_hits f len ≡ hits_after f len (win 0 0 e e)
unfolding line_hits
remaining_start f len e h =
    let z : e - (0 + 0 + e) ≡ 0 = omega arith in
    let a : 0 + run true f 0 len ≡ e = omega (arith, h) in
    ap (hits 0) (runs_split f true 0 0 len)
    ∙ rw (a, ← h) (zeros e (runs_from f false e (len - e)))
    ∙ ap (λ p. hits p (0 ∷ 0 ∷ e ∷ runs_from f false e (len - e))) (sym z)

pub remaining_end : (f : ℕ → Bool) (len : ℕ) (w : LastRuns) → len ≤ w.at → hits_after f len w ≡ []
unfolding hits
remaining_end f len w h = let z : len - w.at ≡ 0 = omega arith in rw z

-- one turn of the search: the light run l from pixel `at` on, and the dark run m after it
pub record Turn (f : ℕ → Bool) (len c d e at l m : ℕ) : Type 0 where
  pub here : at < len
  pub fit : c + d + e ≤ at
  pub light : l ≡ run false f at (len - at)
  pub bound : at + l ≤ len
  pub dark : m ≡ run true f (at + l) (len - (at + l))

module _ {f : ℕ → Bool} {len c d e at l m : ℕ} (t : Turn f len c d e at l m) where
  -- one window more
  next_window : (rest : List ℕ) → runs_from f false at (len - at) ≡ l ∷ m ∷ rest
      → hits (at - (c + d + e)) (c ∷ d ∷ e ∷ runs_from f false at (len - at)) ≡ five_runs (at + l + m) c d e l m ++ hits (at + l + m - (e + l + m)) (e ∷ l ∷ m ∷ rest)
  unfolding hits
  next_window rest g =
      let p : at - (c + d + e) + c + d + e + l + m ≡ at + l + m = omega arith in
      let q : at - (c + d + e) + c + d ≡ at + l + m - (e + l + m) = omega arith in
      rw (g, p, q)

  one : runs_from f false at (len - at) ≡ l ∷ runs_from f true (at + l) (len - (at + l))
  one =
      let n : 0 < len - at = omega arith in
      let z : len - at - l ≡ len - (at + l) = omega arith in
      after_split f false at (len - at) n ∙ rw (← t.light, z)

  two : at + l < len → runs_from f false at (len - at) ≡ l ∷ m ∷ runs_from f false (at + l + m) (len - (at + l + m))
  two g =
      let n : 0 < len - (at + l) = omega arith in
      let z : len - (at + l) - m ≡ len - (at + l + m) = omega arith in
      one ∙ ap (λ r. l ∷ r) (after_split f true (at + l) (len - (at + l)) n ∙ rw (← t.dark, z))

  at_end : at + l ≡ len → hits_after f len (win c d e at) ≡ five_runs (at + l + m) c d e l m ++ hits_after f len (win e l m (at + l + m))
  unfolding hits five_runs run
  at_end g =
      let z : len - (at + l) ≡ 0 = omega arith in
      let o : m ≡ 0 = t.dark ∙ rw z in
      let y : len ≤ at + l + 0 = omega arith in
      rw (one, z, o, last_empty c d e l, remaining_end f len (win e l 0 (at + l + 0)) y)

  remaining_step : hits_after f len (win c d e at) ≡ five_runs (at + l + m) c d e l m ++ hits_after f len (win e l m (at + l + m))
  remaining_step = elim (eq-or-lt_of_le t.bound) [ inl g ↦ at_end g | inr g ↦ next_window (runs_from f false (at + l + m) (len - (at + l + m))) (two g) ]

  -- a turn passes a pixel at least
  pub progress : 0 < l + m
  unfolding run
  progress = go (len - at) refl
    where
      go : (n : ℕ) → len - at ≡ n → 0 < l + m
      go zero g = absurd (omega arith)
      go (suc n) g = pick (f at) refl
        where
          pick : (b : Bool) → f at ≡ b → 0 < l + m
          pick true k =
              let a : l ≡ 0 = t.light ∙ rw (g, k) in
              let q : len - (at + 0) ≡ suc n = omega arith in
              let b : m ≡ suc (run true f (suc at) n) = t.dark ∙ rw (a, q, add-zero, k) in
              omega arith
          pick false k =
              let a : l ≡ suc (run false f (suc at) n) = t.light ∙ rw (g, k) in
              omega arith

  -- one more hit, or none
  module _ (r : Option Float) (R : r ≡ match_of c d e l m) where
    pub hits_hit : (p : Float) → r ≡ Some p
        → hits_after f len (win c d e at)
        ≡ record { centre = whole32 (at + l + m) ⊖ whole32 m ⊖ whole32 l ⊖ whole32 e ⊘ f2; «module» = p } ∷ hits_after f len (win e l m (at + l + m))
    unfolding five_runs
    hits_hit p g = remaining_step ∙ rw (← R, g)

    pub hits_skip : r ≡ None → hits_after f len (win c d e at) ≡ hits_after f len (win e l m (at + l + m))
    unfolding five_runs
    hits_skip g = remaining_step ∙ rw (← R, g)
