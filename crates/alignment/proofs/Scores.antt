-- Scores that need not be finished, and the better of two sites. Assumes nothing.
use mathlib.Core.Path.{◌≡◌, refl, sym}
use mathlib.Core.Bool.{Bool, true, false, cond, ◌&&◌, ◌||◌}
use mathlib.Core.List.{List}
use mathlib.Core.Logic.{inl, inr}
use Prim.Native.Nat.{ℕ, zero, suc, ◌+◌, ◌-◌, ◌≤◌, ◌<◌}
use native.Mathlib.Nat.{add-zero, add-suc}
use native.Mathlib.Omega.{arith}
use lib.Dec.{ltb, leb, eqb}
use lib.Ieee.{Float, lt}
use borrow.Author.Tests.{ltb-true, ltb-false, eqb-true, eqb-false, le-leb, lt-leb}
use Rattle.lists.specs.Lists.{sum_to}
use Rattle.transform.specs.declared.Transform.{Transform}
use Rattle.alignment.specs.declared.template.Site.{Site}
use Rattle.alignment.specs.Template.{agree, template_score, beats, better_of}
use Rattle.alignment.specs.Counting.{UpTo, least_of}
use Rattle.alignment.proofs.Taps.{bit_most}

-- ---- a sum of terms that are at most 1
sum_most : (f : ℕ → ℕ) → ((i : ℕ) → f i ≤ 1) → (k j : ℕ) → sum_to (k + j) f ≤ sum_to k f + j
unfolding sum_to
sum_most f h k zero = rw (add-zero, add-zero) (omega arith)
sum_most f h k (suc j) = rw (add-suc k j) (omega (arith, sum_most f h k j, h (k + j)))

module _ (bits : List ℕ) (w h : ℕ) (t : Transform) (x y : Float) where
  pub agree_most : (k : ℕ) → agree bits w h t x y k ≤ 1
  unfolding agree
  agree_most k = bit_most _

  -- the score after k modules, n of which agree, cannot reach least
  pub out_of_reach : (least k n : ℕ) → k ≤ 25 → n ≡ sum_to k (agree bits w h t x y) → n + (25 - k) < least → UpTo least (template_score bits w h t x y) n
  unfolding template_score
  out_of_reach least k n l e b =
      let m = sum_most (agree bits w h t x y) agree_most k (25 - k) in
      let z : k + (25 - k) ≡ 25 = omega arith in
      let g = rw z at m in
      inr (omega arith, omega (arith, g))

-- ---- the least score by which a site with a test t beats one with score a
beats_when : (a b : ℕ) (t : Bool) → (ltb a b || (eqb b a && t)) ≡ leb (cond t a (a + 1)) b
beats_when a b true = go (ltb a b) (eqb b a) refl refl
  where
    go : (v w : Bool) → ltb a b ≡ v → eqb b a ≡ w → (v || (w && true)) ≡ leb a b
    go true w p q = sym (le-leb a b (omega (arith, ltb-true a b p)))
    go false true p q = sym (le-leb a b (omega (arith, eqb-true b a q)))
    go false false p q = let n = eqb-false b a q in sym (lt-leb a b (omega (arith, ltb-false a b p)))
beats_when a b false = go (ltb a b) (eqb b a) refl
  where
    go : (v w : Bool) → ltb a b ≡ v → (v || (w && false)) ≡ leb (a + 1) b
    go true w p = sym (le-leb (a + 1) b (omega (arith, ltb-true a b p)))
    go false true p = sym (lt-leb (a + 1) b (omega (arith, ltb-false a b p)))
    go false false p = sym (lt-leb (a + 1) b (omega (arith, ltb-false a b p)))

module _ (best s : Site) (least r : ℕ) (e : least ≡ least_of best s.offset2) (u : UpTo least s.score r) where
  beaten : beats s best ≡ leb least s.score
  unfolding beats least_of
  beaten = rw e (beats_when best.score s.score (lt s.offset2 best.offset2))

  pub best_stays : r < least → best ≡ better_of best s
  unfolding better_of
  best_stays h = rw (beaten, lt-leb least s.score (below u))
    where
      below : UpTo least s.score r → s.score < least
      below (inl q) = omega arith
      below (inr q) = q.1

  pub site_taken : least ≤ r → ◌≡◌ {A = Site} (record { score = r; offset2 = s.offset2; x = s.x; y = s.y }) (better_of best s)
  unfolding better_of
  site_taken h = go u
    where
      go : UpTo least s.score r → ◌≡◌ {A = Site} (record { score = r; offset2 = s.offset2; x = s.x; y = s.y }) (cond (beats s best) s best)
      go (inl q) = rw (beaten, le-leb least s.score (omega arith), q)
      go (inr q) = absurd (omega arith)
