-- The order of floats, stated once: off NaN `lt` is a strict weak order, and `eq` says that neither of two numbers is below the other. Assumes nothing.
use Rattle.std.proofs.lemmas.Bool.{and_parts}
use mathlib.Core.Path.{◌≡◌, refl, sym, ap, ◌∙◌}
use mathlib.Core.Bool.{Bool, true, false}
use Prim.Native.Nat.{ℕ, ◌+◌, ◌*◌, ◌<◌}
use native.Mathlib.Nat.{zero-mul, add-mul, mul_right_comm, mul-le-mul_right, mul-lt-mul_of_pos_right}
use native.Mathlib.Omega.{arith}
use lib.Dec.{ltb, eqb}
use lib.Ieee.{Float, nan, inf, fin, up, down, below, level, lt, eq, le, ne}
use lib.Ieee.Fits.{down_pos}
use borrow.Author.Tests.{ltb-true, ltb-false, lt-ltb, le-ltb, eqb-true, eq-eqb}
use Rattle.float.specs.Floats.{is_number}

no : {A : Type 0} → ◌≡◌ {A = Bool} true false → A
no h = let z : ◌≡◌ {A = ℕ} 0 1 = cc in absurd (omega arith)

-- ---- sizes with a sign, ±a against ±b
below_asym : (s : Bool) (a : ℕ) (t : Bool) (b : ℕ) → below s a t b ≡ true → below t b s a ≡ false
below_asym false a false b h = le-ltb b a (omega (arith, ltb-true a b h))
below_asym false a true b h = no (sym h)
below_asym true a false b h = refl
below_asym true a true b h = le-ltb a b (omega (arith, ltb-true b a h))

below_trans : (s : Bool) (a : ℕ) (t : Bool) (b : ℕ) (u : Bool) (c : ℕ) → below s a t b ≡ true → below t b u c ≡ true → below s a u c ≡ true
below_trans false a false b false c h g = lt-ltb a c (omega (arith, ltb-true a b h, ltb-true b c g))
below_trans s a false b true c h g = no (sym g)
below_trans false a true b u c h g = no (sym h)
below_trans true a false b false c h g = lt-ltb 0 (a + c) (omega (arith, ltb-true 0 (a + b) h, ltb-true b c g))
below_trans true a true b false c h g = lt-ltb 0 (a + c) (omega (arith, ltb-true b a h, ltb-true 0 (b + c) g))
below_trans true a true b true c h g = lt-ltb c a (omega (arith, ltb-true b a h, ltb-true c b g))

not_below_trans : (s : Bool) (a : ℕ) (t : Bool) (b : ℕ) (u : Bool) (c : ℕ) → below s a t b ≡ false → below t b u c ≡ false → below s a u c ≡ false
not_below_trans false a false b false c h g = le-ltb a c (omega (arith, ltb-false a b h, ltb-false b c g))
not_below_trans false a t b true c h g = refl
not_below_trans false a true b false c h g = le-ltb a c (omega (arith, ltb-false 0 (b + c) g))
not_below_trans true a false b false c h g = le-ltb 0 (a + c) (omega (arith, ltb-false 0 (a + b) h, ltb-false b c g))
not_below_trans true a false b true c h g = le-ltb c a (omega (arith, ltb-false 0 (a + b) h))
not_below_trans true a true b false c h g = le-ltb 0 (a + c) (omega (arith, ltb-false b a h, ltb-false 0 (b + c) g))
not_below_trans true a true b true c h g = le-ltb c a (omega (arith, ltb-false b a h, ltb-false c b g))

level_not_below : (s : Bool) (a : ℕ) (t : Bool) (b : ℕ) → level s a t b ≡ true → (below s a t b ≡ false) × (below t b s a ≡ false)
level_not_below false a false b h = let e = eqb-true a b (and_parts (eqb a b) true h).0 in (le-ltb a b (omega arith), le-ltb b a (omega arith))
level_not_below false a true b h = let z = and_parts (eqb a b) (eqb a 0) h in let e = eqb-true a b z.0 in let o = eqb-true a 0 z.1 in (refl, le-ltb 0 (b + a) (omega arith))
level_not_below true a false b h = let z = and_parts (eqb a b) (eqb a 0) h in let e = eqb-true a b z.0 in let o = eqb-true a 0 z.1 in (le-ltb 0 (a + b) (omega arith), refl)
level_not_below true a true b h = let e = eqb-true a b (and_parts (eqb a b) true h).0 in (le-ltb b a (omega arith), le-ltb a b (omega arith))

not_below_level : (s : Bool) (a : ℕ) (t : Bool) (b : ℕ) → below s a t b ≡ false → below t b s a ≡ false → level s a t b ≡ true
not_below_level false a false b h g = rw (eq-eqb a b (omega (arith, ltb-false a b h, ltb-false b a g)))
not_below_level false a true b h g = rw (eq-eqb a b (omega (arith, ltb-false 0 (b + a) g)), eq-eqb a 0 (omega (arith, ltb-false 0 (b + a) g)))
not_below_level true a false b h g = rw (eq-eqb a b (omega (arith, ltb-false 0 (a + b) h)), eq-eqb a 0 (omega (arith, ltb-false 0 (a + b) h)))
not_below_level true a true b h g = rw (eq-eqb a b (omega (arith, ltb-false b a h, ltb-false a b g)))

ltb_scale : (a b k : ℕ) → 0 < k → ltb (a * k) (b * k) ≡ ltb a b
ltb_scale a b k K = go (ltb a b) refl
  where
    go : (v : Bool) → ltb a b ≡ v → ltb (a * k) (b * k) ≡ v
    go true h = lt-ltb (a * k) (b * k) (mul-lt-mul_of_pos_right (ltb-true a b h) K)
    go false h = le-ltb (a * k) (b * k) (mul-le-mul_right k (ltb-false a b h))

pub below_scale : (s : Bool) (a : ℕ) (t : Bool) (b : ℕ) (k : ℕ) → 0 < k → below s (a * k) t (b * k) ≡ below s a t b
below_scale false a false b k K = ltb_scale a b k K
below_scale false a true b k K = refl
below_scale true a false b k K = ap (λ (n : ℕ). ltb 0 n) (sym (add-mul a b k)) ∙ ap (λ (z : ℕ). ltb z ((a + b) * k)) (sym (zero-mul k)) ∙ ltb_scale 0 (a + b) k K
below_scale true a true b k K = ltb_scale b a k K

-- What holds of x, y and z as whole numbers holds of the fractions x / dx, y / dy and z / dz: both laws above are carried to floats by this
module _ (v s t u : Bool) (law : (a b c : ℕ) → below s a t b ≡ v → below t b u c ≡ v → below s a u c ≡ v) where
  over_fractions : (x dx y dy z dz : ℕ) → 0 < dx → 0 < dy → 0 < dz → below s (x * dy) t (y * dx) ≡ v → below t (y * dz) u (z * dy) ≡ v → below s (x * dz) u (z * dx) ≡ v
  over_fractions x dx y dy z dz X Y Z h g =
      let p : below s (x * dy * dz) t (y * dz * dx) ≡ v = rw (← mul_right_comm y dx dz) (below_scale s (x * dy) t (y * dx) dz Z ∙ h) in
      let q : below t (y * dz * dx) u (z * dx * dy) ≡ v = rw (← mul_right_comm z dy dx) (below_scale t (y * dz) u (z * dy) dx X ∙ g) in
      let r : below s (x * dz * dy) u (z * dx * dy) ≡ v = rw (← mul_right_comm x dy dz) (law (x * dy * dz) (y * dz * dx) (z * dx * dy) p q) in
      sym (below_scale s (x * dz) u (z * dx) dy Y) ∙ r

-- ---- floats
pub lt_asym : (x y : Float) → lt x y ≡ true → lt y x ≡ false
unfolding lt
lt_asym nan y h = no (sym h)
lt_asym (inf s) nan h = refl
lt_asym (inf true) (inf true) h = no (sym h)
lt_asym (inf true) (inf false) h = refl
lt_asym (inf false) (inf t) h = no (sym h)
lt_asym (inf true) (fin t n d) h = refl
lt_asym (inf false) (fin t n d) h = no (sym h)
lt_asym (fin s m e) nan h = no (sym h)
lt_asym (fin s m e) (inf true) h = no (sym h)
lt_asym (fin s m e) (inf false) h = refl
lt_asym (fin s m e) (fin t n d) h = below_asym s (m * up e * down d) t (n * up d * down e) h

pub lt_irrefl : (x : Float) → lt x x ≡ false
lt_irrefl x = go (lt x x) refl
  where
    go : (v : Bool) → lt x x ≡ v → v ≡ false
    go true h = sym h ∙ lt_asym x x h
    go false h = refl

pub lt_trans : (x y z : Float) → lt x y ≡ true → lt y z ≡ true → lt x z ≡ true
unfolding lt
lt_trans nan y z h g = no (sym h)
lt_trans (inf false) nan z h g = no (sym h)
lt_trans (inf false) (inf t) z h g = no (sym h)
lt_trans (inf false) (fin t k d) z h g = no (sym h)
lt_trans (inf true) nan z h g = no (sym h)
lt_trans (inf true) (inf true) z h g = no (sym h)
lt_trans (inf true) (inf false) nan h g = no (sym g)
lt_trans (inf true) (inf false) (inf u) h g = no (sym g)
lt_trans (inf true) (inf false) (fin u l f) h g = no (sym g)
lt_trans (inf true) (fin t k d) nan h g = no (sym g)
lt_trans (inf true) (fin t k d) (inf u) h g = g
lt_trans (inf true) (fin t k d) (fin u l f) h g = refl
lt_trans (fin s m e) nan z h g = no (sym h)
lt_trans (fin s m e) (inf true) z h g = no (sym h)
lt_trans (fin s m e) (inf false) nan h g = no (sym g)
lt_trans (fin s m e) (inf false) (inf u) h g = no (sym g)
lt_trans (fin s m e) (inf false) (fin u l f) h g = no (sym g)
lt_trans (fin s m e) (fin t k d) nan h g = no (sym g)
lt_trans (fin s m e) (fin t k d) (inf u) h g = g
lt_trans (fin s m e) (fin t k d) (fin u l f) h g =
    over_fractions true s t u (λ a b c. below_trans s a t b u c) (m * up e) (down e) (k * up d) (down d) (l * up f) (down f) (down_pos e) (down_pos d) (down_pos f) h g

-- `x` is not below `z` if it is not below a number that is not below `z`
pub not_lt-trans : (x y z : Float) → is_number y ≡ true → lt x y ≡ false → lt y z ≡ false → lt x z ≡ false
unfolding lt is_number ne eq
not_lt-trans nan y z n h g = refl
not_lt-trans (inf s) nan z n h g = no (sym n)
not_lt-trans (fin s m e) nan z n h g = no (sym n)
not_lt-trans (inf s) (inf t) nan n h g = refl
not_lt-trans (inf s) (fin t k d) nan n h g = refl
not_lt-trans (fin s m e) (inf t) nan n h g = refl
not_lt-trans (fin s m e) (fin t k d) nan n h g = refl
not_lt-trans (inf false) (inf t) (inf u) n h g = refl
not_lt-trans (inf true) (inf true) (inf u) n h g = g
not_lt-trans (inf true) (inf false) (inf u) n h g = no h
not_lt-trans (inf false) (fin t k d) (inf u) n h g = refl
not_lt-trans (inf true) (fin t k d) (inf u) n h g = no h
not_lt-trans (inf false) (inf t) (fin u l f) n h g = refl
not_lt-trans (inf true) (inf true) (fin u l f) n h g = no g
not_lt-trans (inf true) (inf false) (fin u l f) n h g = no h
not_lt-trans (inf s) (fin t k d) (fin u l f) n h g = h
not_lt-trans (fin s m e) (inf true) (inf u) n h g = g
not_lt-trans (fin s m e) (inf false) (inf u) n h g = no h
not_lt-trans (fin s m e) (inf true) (fin u l f) n h g = no g
not_lt-trans (fin s m e) (inf false) (fin u l f) n h g = no h
not_lt-trans (fin s m e) (fin t k d) (inf u) n h g = g
not_lt-trans (fin s m e) (fin t k d) (fin u l f) n h g =
    over_fractions false s t u (λ a b c. not_below_trans s a t b u c) (m * up e) (down e) (k * up d) (down d) (l * up f) (down f) (down_pos e) (down_pos d) (down_pos f) h g

-- ---- equality
pub eq_not_lt : (x y : Float) → eq x y ≡ true → (lt x y ≡ false) × (lt y x ≡ false)
unfolding lt eq
eq_not_lt nan y h = no (sym h)
eq_not_lt (inf s) nan h = no (sym h)
eq_not_lt (inf true) (inf true) h = (refl, refl)
eq_not_lt (inf true) (inf false) h = no (sym h)
eq_not_lt (inf false) (inf true) h = no (sym h)
eq_not_lt (inf false) (inf false) h = (refl, refl)
eq_not_lt (inf s) (fin t n d) h = no (sym h)
eq_not_lt (fin s m e) nan h = no (sym h)
eq_not_lt (fin s m e) (inf t) h = no (sym h)
eq_not_lt (fin s m e) (fin t n d) h = level_not_below s (m * up e * down d) t (n * up d * down e) h

pub not_lt-eq : (x y : Float) → is_number x ≡ true → is_number y ≡ true → lt x y ≡ false → lt y x ≡ false → eq x y ≡ true
unfolding lt eq ne is_number
not_lt-eq nan y n k h g = no (sym n)
not_lt-eq (inf s) nan n k h g = no (sym k)
not_lt-eq (inf true) (inf true) n k h g = refl
not_lt-eq (inf true) (inf false) n k h g = no h
not_lt-eq (inf false) (inf true) n k h g = no g
not_lt-eq (inf false) (inf false) n k h g = refl
not_lt-eq (inf true) (fin t m d) n k h g = no h
not_lt-eq (inf false) (fin t m d) n k h g = no g
not_lt-eq (fin s m e) nan n k h g = no (sym k)
not_lt-eq (fin s m e) (inf true) n k h g = no g
not_lt-eq (fin s m e) (inf false) n k h g = no h
not_lt-eq (fin s m e) (fin t o d) n k h g = not_below_level s (m * up e * down d) t (o * up d * down e) h g

-- nothing is at most a NaN
pub le-nan : (x : Float) → le x nan ≡ false
unfolding le lt eq
le-nan nan = refl
le-nan (inf s) = refl
le-nan (fin s m e) = refl
