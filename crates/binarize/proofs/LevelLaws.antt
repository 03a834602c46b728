-- Laws of levels. Assumes nothing.
use mathlib.Core.Path.{◌≡◌, refl, sym, ap, ◌∙◌}
use mathlib.Core.Bool.{Bool, true, false, cond, ◌||◌}
use mathlib.Core.List.{List, [], ◌∷◌, map, append-nil}
use Prim.Native.Nat.{ℕ, zero, suc, ◌+◌, ◌-◌, ◌*◌, ◌/◌, ◌%◌, ◌≤◌, ◌<◌}
use native.Mathlib.Nat.{add-zero}
use native.Mathlib.Numerals.{add-one}
use native.Mathlib.Omega.{arith}
use lib.ListN.{length, take}
use lib.Dec.{eqb, ltb}
use borrow.Author.Tests.{lt-ltb}
use Rattle.std.specs.Prelude.{Option, Some, None, unwrap_or}
use Rattle.std.specs.List.{list_any}
use Rattle.std.proofs.lemmas.List.Folds.{list_any_more}
use Rattle.lists.specs.Lists.{count, range, flat_map, how_many, mean, at}
use Rattle.lists.proofs.Filters.{how_many-append}
use Rattle.lists.proofs.Folds.{range_more}
use Rattle.blocks.specs.Blocks.{cells, about}
use Rattle.binarize.specs.Levels.{midway, level, first_level, marked, marked_means, any_marked, chosen, global_level, window, window_level}
use Rattle.binarize.specs.Splits.{Tally, level_of, Tallied}

-- ---- the level of a list of means

pub level-none : (l : List ℕ) → length l ≡ 0 → None ≡ level_of l
level-none [] e = refl
level-none (x ∷ l) e = absurd (omega arith)

pub level_some : (l : List ℕ) (m v : ℕ) (t : Tally) → (length l ≡ 0 → ⊥) → m ≡ mean l → Tallied l m t
    → v ≡ cond (eqb t.lows 0 || eqb t.highs 0) m ((t.low / t.lows + t.high / t.highs) / 2) → Some v ≡ level_of l
unfolding level midway
level_some [] m v t some e h q = absurd (some refl)
level_some (x ∷ l) m v t some e h q = ap Some (q ∙ rw (h.low, h.lows, h.high, h.highs, e) refl)

first_step : (l : List ℕ) (windows : List (List ℕ)) (other : ℕ) → first_level (l ∷ windows) other ≡ unwrap_or (level_of l) (first_level windows other)
first_step [] windows other = refl
first_step (v ∷ l) windows other = refl

first_of_four : (a b c d : List ℕ) (other : ℕ)
    → first_level (a ∷ b ∷ c ∷ d ∷ []) other ≡ unwrap_or (level_of a) (unwrap_or (level_of b) (unwrap_or (level_of c) (unwrap_or (level_of d) other)))
first_of_four a b c d other =
    first_step a (b ∷ c ∷ d ∷ []) other
    ∙ ap (unwrap_or (level_of a)) (first_step b (c ∷ d ∷ []) other ∙ ap (unwrap_or (level_of b)) (first_step c (d ∷ []) other ∙ ap (unwrap_or (level_of c)) (first_step d [] other)))

first_of_one : (l : List ℕ) (other : ℕ) → first_level (l ∷ []) other ≡ unwrap_or (level_of l) other
first_of_one l other = first_step l [] other

-- ---- all blocks, as one row

same_row : (n : ℕ) (xs : List ℕ) → map (λ x. 0 * n + x) xs ≡ xs
same_row n [] = refl
same_row n (x ∷ xs) = let e : 0 * n + x ≡ x = omega arith in rw (e, same_row n xs)

one_row-cells : (n : ℕ) (xs : List ℕ) → cells n xs (range 0 1) ≡ xs
unfolding cells flat_map count
one_row-cells n xs = append-nil (map (λ x. 0 * n + x) xs) ∙ same_row n xs

-- either of two lists has n values
pub either : (t : Bool) (e n : List ℕ) (k : ℕ) → k ≤ length e → k ≤ length n → k ≤ length (cond t e n)
either true e n k g h = g
either false e n k g h = h

-- ---- whether any block is marked

module _ (mark : ℕ → ℕ) where
  many_more : (n : ℕ) → how_many (marked mark) (range 0 (suc n)) ≡ how_many (marked mark) (range 0 n) + cond (eqb (mark n) 1) 1 0
  unfolding how_many
  many_more n = ap (how_many (marked mark)) (range_more 0 n (omega arith)) ∙ how_many-append (marked mark) (range 0 n) (n ∷ [])

any_more : (n : ℕ) (b : Bool) → ltb 0 (n + cond b 1 0) ≡ ltb 0 n || b
any_more n true = lt-ltb 0 (n + 1) (omega arith) ∙ sym (with_true (ltb 0 n))
  where
    with_true : (b : Bool) → b || true ≡ true
    with_true true = refl
    with_true false = refl
any_more n false = ap (ltb 0) (add-zero n) ∙ with_false (ltb 0 n)
  where
    with_false : (b : Bool) → b ≡ b || false
    with_false true = refl
    with_false false = refl

-- what the library's `any` says of the first n
pub any_is : (marks : List ℕ) (n : ℕ) → n ≤ length marks → list_any (λ (m : ℕ). eqb m 1) (take n marks) ≡ any_marked (at marks) n
unfolding how_many count
any_is marks zero h = refl
any_is marks (suc n) h =
    let ih = any_is marks n (omega arith) in
    rw (← add-one n) (list_any_more (λ (m : ℕ). eqb m 1) marks n 0 (omega arith))
    ∙ ap (λ (b : Bool). b || eqb (at marks n) 1) ih
    ∙ sym (ap (ltb 0) (many_more (at marks) n) ∙ any_more (how_many (marked (at marks)) (range 0 n)) (eqb (at marks n) 1))

-- ---- the global level

at-cond : (b : Bool) (e n : List ℕ) → at (cond b e n) ≡ cond b (at e) (at n)
at-cond true e n = refl
at-cond false e n = refl

pub global_is : (means edges nears marks : List ℕ) (bw bh : ℕ) (r : Option ℕ) → marks ≡ cond (any_marked (at edges) (bh * bw)) edges nears
    → r ≡ level_of (marked_means (at means) (at marks) (cells (bh * bw) (range 0 (bh * bw)) (range 0 1))) → unwrap_or r 0 ≡ global_level (at means) (at edges) (at nears) bw bh
unfolding global_level
global_is means edges nears marks bw bh r e q =
    let n = bh * bw in
    let all : level_of (marked_means (at means) (at marks) (cells n (range 0 n) (range 0 1))) ≡ level_of (marked_means (at means) (chosen (at edges) (at nears) n) (range 0 n)) =
    rw (one_row-cells n (range 0 n), e, at-cond (any_marked (at edges) n) edges nears)
    in
    ap (λ (l : Option ℕ). unwrap_or l 0) (q ∙ all) ∙ sym (first_of_one (marked_means (at means) (chosen (at edges) (at nears) n) (range 0 n)) 0)

-- ---- the windows of a block in their order: kinds 0 to 3

module _ (means edges nears : List ℕ) (bw bh x y global : ℕ) where
  abbrev pub kind_level : ℕ → Option ℕ
  kind_level k = level_of (marked_means (at means) (at (cond (ltb k 2) edges nears)) (cells bw (about bw x (2 + k % 2 * 2)) (about bh y (2 + k % 2 * 2))))

  -- the last n kinds
  rest : ℕ → ℕ
  rest zero = global
  rest (suc n) = unwrap_or (kind_level (3 - n)) (rest n)

  -- those from kind k on
  pub from : ℕ → ℕ
  unfolding rest
  from k = rest (4 - k)

  pub from_first : window_level (at means) (at edges) (at nears) bw bh x y global ≡ from 0
  unfolding from window_level
  from_first =
      first_of_four (window (at means) (at edges) (at nears) bw bh (at edges) x y 2) (window (at means) (at edges) (at nears) bw bh (at edges) x y 4)
      (window (at means) (at edges) (at nears) bw bh (at nears) x y 2) (window (at means) (at edges) (at nears) bw bh (at nears) x y 4) global

  pub from_last : (k : ℕ) → k ≡ 4 → from k ≡ global
  unfolding from
  from_last k e = rw e

  next : (k : ℕ) → k < 4 → from k ≡ unwrap_or (kind_level k) (from (k + 1))
  unfolding from
  next k h =
      let e : 4 - k ≡ suc (4 - (k + 1)) = omega arith in
      let q : 3 - (4 - (k + 1)) ≡ k = omega arith in
      rw (e, q)

  pub from_found : (k v : ℕ) → k < 4 → kind_level k ≡ Some v → from k ≡ v
  from_found k v h e = next k h ∙ ap (λ (l : Option ℕ). unwrap_or l (from (k + 1))) e

  pub from_missed : (k : ℕ) → k < 4 → kind_level k ≡ None → from k ≡ from (k + 1)
  from_missed k h e = next k h ∙ ap (λ (l : Option ℕ). unwrap_or l (from (k + 1))) e

-- what the search for the first window goes by
pub ruleset kind_steps = (from_first, from_last, from_missed)
