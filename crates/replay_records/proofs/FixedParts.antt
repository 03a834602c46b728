-- The fixed part of a function's payload, from a table by number. Assumes nothing.
use Rattle.std.proofs.Common.{◌≡◌, ℕ, ◌≤◌, Bool, true, false, cond, eqb, ltb, List, [], ◌∷◌, sym, refl, ap, ◌∙◌, true≢false, arith, ltb-false, ne_eqb, eqb-true}
use Rattle.replay_records.specs.Record.{lookup, fixed_parts, fixed_part, asked_of}

-- one of the functions that are listed
pub listed : (f k n : ℕ) → f ≡ k → n ≡ fixed_part k → n ≡ fixed_part f
listed f k n e q = q ∙ ap fixed_part (sym e)

-- none of them, as a match on their numbers says it: the last one outermost
abbrev pub NoneOf : List ℕ → ℕ → Type 0
NoneOf [] f = Unit {0}
NoneOf (k ∷ ks) f = NoneOf ks f × (f ≡ k → ⊥)

is_in : ℕ → List ℕ → Bool
is_in k [] = false
is_in k (x ∷ ks) = cond (eqb k x) true (is_in k ks)

apart : (ks : List ℕ) (f k : ℕ) → NoneOf ks f → is_in k ks ≡ true → f ≡ k → ⊥
unfolding is_in
apart [] f k n i e = true≢false (sym i)
apart (x ∷ ks) f k n i e = go (eqb k x) refl i (λ q. apart ks f k n.0 q e)
  where
    go : (v : Bool) → eqb k x ≡ v → cond v true (is_in k ks) ≡ true → (is_in k ks ≡ true → ⊥) → ⊥
    go true p q ih = n.1 (e ∙ eqb-true k x p)
    go false p q ih = ih q

within : List (ℕ × ℕ) → List ℕ → Bool
within [] ks = true
within (e ∷ rest) ks = cond (is_in e.0 ks) (within rest ks) false

none_listed : (xs : List (ℕ × ℕ)) (ks : List ℕ) (f : ℕ) → within xs ks ≡ true → NoneOf ks f → lookup f xs ≡ 0
unfolding lookup within
none_listed [] ks f w n = refl
none_listed (e ∷ rest) ks f w n = go (is_in e.0 ks) refl w (λ q. none_listed rest ks f q n)
  where
    go : (v : Bool) → is_in e.0 ks ≡ v → cond v (within rest ks) false ≡ true → (within rest ks ≡ true → lookup f rest ≡ 0) → cond (eqb f e.0) e.1 (lookup f rest) ≡ 0
    go true p q ih = rw (ne_eqb f e.0 (apart ks f e.0 n p), ih q)
    go false p q ih = absurd (true≢false (sym q))

-- the numbers that are listed, the last first
abbrev turned : List (ℕ × ℕ) → List ℕ → List ℕ
turned [] ks = ks
turned (e ∷ rest) ks = turned rest (e.0 ∷ ks)

pub not_listed : (f : ℕ) → NoneOf (turned fixed_parts []) f → 0 ≡ fixed_part f
unfolding fixed_part within is_in
not_listed f n = sym (none_listed fixed_parts (turned fixed_parts []) f refl n)

-- what is asked for has its fixed part
fixed_none : fixed_part 0 ≡ 0
unfolding fixed_part lookup
fixed_none = refl

pub asked_fits : (f len : ℕ) → fixed_part (asked_of f len) ≤ len
asked_fits f len = go (ltb len (fixed_part f)) refl
  where
    go : (v : Bool) → ltb len (fixed_part f) ≡ v → fixed_part (cond v 0 f) ≤ len
    go true p = omega (arith, fixed_none)
    go false p = ltb-false len (fixed_part f) p
