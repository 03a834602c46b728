-- The last sweep may start from the score 22: where 23 or more are reached, the best site is the same. Assumes nothing.
use mathlib.Core.Path.{◌≡◌, refl, sym, ap, ◌∙◌, subst}
use mathlib.Core.Bool.{Bool, true, false, cond}
use mathlib.Core.List.{List, [], ◌∷◌}
use mathlib.Core.Logic.{inl, inr}
use Prim.Native.Nat.{ℕ, ◌*◌, ◌≤◌, ◌<◌}
use native.Mathlib.Omega.{arith}
use lib.Dec.{ltb}
use lib.Ieee.{Float}
use borrow.Author.Tests.{ltb-true, ltb-false, lt-ltb}
use Rattle.lists.specs.Lists.{folded, range}
use Rattle.float.specs.Constants.{f0, f1/2, f1/8, f1/32}
use Rattle.transform.specs.declared.Transform.{Transform}
use Rattle.alignment.specs.declared.template.Site.{Site}
use Rattle.alignment.specs.Template.{no_site, beats, better_of, site_of, better_at, sweep_best, best_of}
use Rattle.alignment.specs.Known.{raised_of, SameFrom}

better_less : (n : ℕ) (p s : Site) → p.score < n → s.score < n → (better_of p s).score < n
unfolding better_of
better_less n p s h g = go (beats s p)
  where
    go : (v : Bool) → (cond v s p).score < n
    go true = g
    go false = h

better_more : (n : ℕ) (p s : Site) → p.score < n → (s.score < n → ⊥) → better_of p s ≡ s
unfolding better_of beats
better_more n p s h g = rw (lt-ltb p.score s.score (omega arith))

same_step : (n : ℕ) (p q s : Site) → SameFrom n p q → SameFrom n (better_of p s) (better_of q s)
same_step n p q s (inl e) = inl (ap (λ (z : Site). better_of z s) e)
same_step n p q s (inr h) = go (ltb s.score n) refl
  where
    go : (v : Bool) → ltb s.score n ≡ v → SameFrom n (better_of p s) (better_of q s)
    go true e = let g = ltb-true s.score n e in inr (better_less n p s h.0 g, better_less n q s h.1 g)
    go false e =
        let g : s.score < n → ⊥ = λ l. let k = ltb-false s.score n e in omega arith in
        inl (rw (better_more n p s h.0 g, better_more n q s h.1 g))

same_fold : (n : ℕ) (g : ℕ → Site) (ks : List ℕ) (p q : Site) → SameFrom n p q → SameFrom n (folded (λ b k. better_of b (g k)) p ks) (folded (λ b k. better_of b (g k)) q ks)
unfolding folded
same_fold n g [] p q h = h
same_fold n g (k ∷ ks) p q h = same_fold n g ks (better_of p (g k)) (better_of q (g k)) (same_step n p q (g k) h)

raised_same : (b : Site) → SameFrom 23 (raised_of b) b
unfolding raised_of
raised_same b = go (ltb b.score 22) refl
  where
    go : (v : Bool) → ltb b.score 22 ≡ v → SameFrom 23 (cond v (record { score = 22; offset2 = f0; x = b.x; y = b.y }) b) b
    go true e = inr (omega arith, omega (arith, ltb-true b.score 22 e))
    go false e = inl refl

raised_place : (b : Site) → ((raised_of b).x ≡ b.x) × ((raised_of b).y ≡ b.y)
unfolding raised_of
raised_place b = go (ltb b.score 22)
  where
    go : (v : Bool) → ((cond v (record { score = 22; offset2 = f0; x = b.x; y = b.y }) b).x ≡ b.x) × ((cond v (record { score = 22; offset2 = f0; x = b.x; y = b.y }) b).y ≡ b.y)
    go true = (refl, refl)
    go false = (refl, refl)

module _ (bits : List ℕ) (w h : ℕ) (t : Transform) (c : Float) where
  -- a sweep about another site at the same place
  sweep_at : (m : ℕ) (step : Float) (p q : Site) → p.x ≡ q.x → p.y ≡ q.y → sweep_best bits w h t c m step p ≡ folded (better_at bits w h t c m step q.x q.y) p (range 0 (m * m))
  unfolding sweep_best
  sweep_at m step p q e f =
      ap (λ (z : Float). folded (better_at bits w h t c m step z p.y) p (range 0 (m * m))) e ∙ ap (λ (z : Float). folded (better_at bits w h t c m step q.x z) p (range 0 (m * m))) f

  last_sweep : (m : ℕ) (step : Float) (b : Site) → SameFrom 23 (sweep_best bits w h t c m step (raised_of b)) (sweep_best bits w h t c m step b)
  unfolding sweep_best
  last_sweep m step b =
      subst (λ (z : Site). SameFrom 23 z (sweep_best bits w h t c m step b)) (sym (sweep_at m step (raised_of b) b (raised_place b).0 (raised_place b).1))
      (same_fold 23 (site_of bits w h t c m step b.x b.y) (range 0 (m * m)) (raised_of b) b (raised_same b))

  -- the three sweeps, the last about a raised site
  pub best_by : (k : Float) (a b r s : Site) → k ≡ c → a ≡ sweep_best bits w h t c 13 f1/2 no_site → b ≡ sweep_best bits w h t k 9 f1/8 a → r ≡ raised_of b → s ≡ sweep_best bits w h t k 9 f1/32 r
      → SameFrom 23 s (best_of bits w h t c)
  unfolding best_of
  best_by k a b r s e p q o z =
      let q' : b ≡ sweep_best bits w h t c 9 f1/8 a = q ∙ ap (λ (y : Float). sweep_best bits w h t y 9 f1/8 a) e in
      let z' : s ≡ sweep_best bits w h t c 9 f1/32 (raised_of b) = z ∙ ap (λ (y : Float). sweep_best bits w h t y 9 f1/32 r) e ∙ ap (sweep_best bits w h t c 9 f1/32) o in
      rw (← p, ← q', z') (last_sweep 9 f1/32 b)

-- both have less than n, or both are the same site
pub same_less : (n : ℕ) (r s : Site) → SameFrom n r s → r.score < n → ltb s.score n ≡ true
same_less n r s (inl e) h = lt-ltb s.score n (rw (← e) h)
same_less n r s (inr q) h = lt-ltb s.score n q.1

pub same_reached : (n : ℕ) (r s : Site) → SameFrom n r s → n ≤ r.score → r ≡ s
same_reached n r s (inl e) h = e
same_reached n r s (inr q) h = absurd (omega arith)
