-- `beats` is a strict order of the sites, and off NaN a site that does not beat another is beaten by what beats that other. Assumes nothing.
use mathlib.Core.Path.{◌≡◌, refl, sym, ◌∙◌}
use mathlib.Core.Bool.{Bool, true, false, ◌&&◌, ◌||◌, true≢false}
use Prim.Native.Nat.{ℕ, ◌<◌, ◌≤◌}
use native.Mathlib.Omega.{arith}
use lib.Dec.{ltb, eqb}
use lib.Ieee.{lt}
use borrow.Author.Tests.{ltb-true, ltb-false, eqb-true, eqb-false, lt-ltb, le-ltb, eq-eqb}
use Rattle.float.specs.Floats.{is_number}
use Rattle.float.proofs.Order.{lt_trans, not_lt-trans}
use Rattle.alignment.specs.declared.template.Site.{Site}
use Rattle.alignment.specs.Template.{beats}

-- a greater number, or an equal one and a true test
data Above (a b : ℕ) (t : Bool) : Type 0 where
  more : a < b → Above a b t
  level : a ≡ b → t ≡ true → Above a b t

above_of : (a b : ℕ) (t : Bool) → (ltb a b || (eqb b a && t)) ≡ true → Above a b t
above_of a b t h = go (ltb a b) refl (eqb b a) refl h
  where
    go : (v : Bool) → ltb a b ≡ v → (w : Bool) → eqb b a ≡ w → (v || (w && t)) ≡ true → Above a b t
    go true p w q e = more (ltb-true a b p)
    go false p true q e = level (sym (eqb-true b a q)) e
    go false p false q e = absurd (true≢false (sym e))

of_above : (a b : ℕ) (t : Bool) → Above a b t → (ltb a b || (eqb b a && t)) ≡ true
of_above a b t (more h) = rw (lt-ltb a b h)
of_above a b t (level h e) = rw (le-ltb a b (omega arith), eq-eqb b a (sym h)) e

beats_above : (s t u : Site) → Above t.score s.score (lt s.offset2 t.offset2) → Above u.score t.score (lt t.offset2 u.offset2) → Above u.score s.score (lt s.offset2 u.offset2)
beats_above s t u (more h) (more g) = more (omega arith)
beats_above s t u (more h) (level g e) = more (omega arith)
beats_above s t u (level h e) (more g) = more (omega arith)
beats_above s t u (level h e) (level g f) = level (g ∙ h) (lt_trans s.offset2 t.offset2 u.offset2 e f)

pub beats-trans : (s t u : Site) → beats s t ≡ true → beats t u ≡ true → beats s u ≡ true
unfolding beats
beats-trans s t u h g = of_above _ _ _ (beats_above s t u (above_of t.score s.score _ h) (above_of u.score t.score _ g))

-- no greater number, nor an equal one and a true test
under_of : (a b : ℕ) (t : Bool) → (ltb a b || (eqb b a && t)) ≡ false → (b ≤ a) × (b ≡ a → t ≡ false)
under_of a b t h = go (ltb a b) refl (eqb b a) refl h
  where
    go : (v : Bool) → ltb a b ≡ v → (w : Bool) → eqb b a ≡ w → (v || (w && t)) ≡ false → (b ≤ a) × (b ≡ a → t ≡ false)
    go true p w q e = absurd (true≢false e)
    go false p true q e = (ltb-false a b p, λ z. e)
    go false p false q e = (ltb-false a b p, λ z. absurd (eqb-false b a q z))

-- where x does not beat b, what beats b beats x
pub beats_over : (s b x : Site) → is_number x.offset2 ≡ true → beats s b ≡ true → beats x b ≡ false → beats s x ≡ true
unfolding beats
beats_over s b x n h g = of_above _ _ _ (go (above_of b.score s.score _ h) (under_of b.score x.score _ g) (ltb x.score b.score) refl)
  where
    go : Above b.score s.score (lt s.offset2 b.offset2) → (x.score ≤ b.score) × (x.score ≡ b.score → lt x.offset2 b.offset2 ≡ false) → (v : Bool) → ltb x.score b.score ≡ v
        → Above x.score s.score (lt s.offset2 x.offset2)
    go (more p) u v e = more (omega arith)
    go (level p q) u true e = more (omega (arith, ltb-true x.score b.score e))
    go (level p q) u false e =
        let z : x.score ≡ b.score = omega (arith, ltb-false x.score b.score e) in
        level (z ∙ p) (nearer (lt s.offset2 x.offset2) refl)
      where
        nearer : (w : Bool) → lt s.offset2 x.offset2 ≡ w → w ≡ true
        nearer true k = refl
        nearer false k =
            let z : x.score ≡ b.score = omega (arith, ltb-false x.score b.score e) in
            absurd (true≢false (sym q ∙ not_lt-trans s.offset2 x.offset2 b.offset2 n k (u.1 z)))
