-- The sites of a sweep, and the first best of them. Assumes nothing.
use Rattle.std.proofs.lemmas.Bool.{and_parts}
use mathlib.Core.Path.{◌≡◌, refl, sym, subst}
use mathlib.Core.Bool.{Bool, true, false, ◌&&◌}
use mathlib.Core.List.{List, [], ◌∷◌}
use Prim.Native.Nat.{ℕ, zero, suc, ◌+◌, ◌-◌, ◌*◌, ◌/◌, ◌%◌, ◌<◌}
use native.Mathlib.Nat.{mod-lt, div-lt_iff_lt-mul}
use native.Mathlib.Omega.{arith}
use lib.Dec.{eqb}
use borrow.Author.Tests.{eqb-true, eqb-false}
use lib.Ieee.{Float, binary32}
use Rattle.lists.specs.Lists.{Each, count, range, folded}
use Rattle.lists.proofs.Filters.{each_right}
use Rattle.float.specs.Floats.{is_number}
use Rattle.float.specs.Steps.{◌⊗◌}
use Rattle.transform.specs.declared.Transform.{Transform}
use Rattle.alignment.specs.Template.{signed32, along, site_at, site_of, better_of, sweep_best}
use Rattle.alignment.specs.declared.template.Site.{Site}
use Rattle.alignment.proofs.NumberLaws.{Number, finite, plus_number, squares_number}
use Rattle.alignment.proofs.First.{FirstBest, Numbered, first-best}

-- g of each number, in order
listed : (ℕ → Site) → List ℕ → List Site
listed g [] = []
listed g (k ∷ ks) = g k ∷ listed g ks

folded_listed : (g : ℕ → Site) (r : Site) (ks : List ℕ) → folded (λ b k. better_of b (g k)) r ks ≡ folded better_of r (listed g ks)
unfolding folded listed
folded_listed g r [] = refl
folded_listed g r (k ∷ ks) = folded_listed g (better_of r (g k)) ks

each_listed : (P : Site → Type 0) (g : ℕ → Site) (k n : ℕ) → ((i : ℕ) → i < k + n → P (g i)) → Each P (listed g (count k n))
unfolding count listed
each_listed P g k zero h = tt
each_listed P g k (suc n) h = (h k (omega arith), each_listed P g (suc k) n (λ i l. h i (omega arith)))

-- a test of each number below n
unfoldable pub all_below : ℕ → (ℕ → Bool) → Bool
all_below zero p = true
all_below (suc n) p = all_below n p && p n

all_below_at : (n : ℕ) (p : ℕ → Bool) → all_below n p ≡ true → (i : ℕ) → i < n → p i ≡ true
unfolding all_below
all_below_at zero p h i l = absurd (omega arith)
all_below_at (suc n) p h i l = go (eqb i n) refl (all_below_at n p (and_parts (all_below n p) (p n) h).0 i)
  where
    go : (v : Bool) → eqb i n ≡ v → (i < n → p i ≡ true) → p i ≡ true
    go true e f = rw (eqb-true i n e) (and_parts (all_below n p) (p n) h).1
    go false e f = let x = eqb-false i n e in f (omega arith)

-- the steps of a sweep are finite
unfoldable pub finite_steps : ℕ → Float → Bool
finite_steps m step = all_below m (λ i. finite (signed32 i (m / 2) ⊗ step))

-- a site at numbers
pub record Placed (s : Site) : Type 0 where
  pub x_number : Number s.x
  pub y_number : Number s.y
  pub offset2_number : is_number s.offset2 ≡ true

module _ (bits : List ℕ) (w h : ℕ) (t : Transform) (c : Float) where
  -- the sites of a sweep about the best so far, row by row
  pub sites : ℕ → Float → Site → List Site
  sites m step best = listed (site_of bits w h t c m step best.x best.y) (range 0 (m * m))

  module _ (m : ℕ) (step : Float) (best : Site) (some : 0 < m) (ok : finite_steps m step ≡ true) (b : Placed best) where
    along_number : (a : Float) → Number a → (i : ℕ) → i < m → Number (along m step a i)
    unfolding finite_steps
    along_number a n i l = plus_number binary32 a _ n (all_below_at m _ ok i l)

    site_placed : (k : ℕ) → k < m * m → Placed (site_of bits w h t c m step best.x best.y k)
    unfolding site_at
    site_placed k l =
        let p = along_number best.x b.x_number (k % m) (mod-lt k some) in
        let q = along_number best.y b.y_number (k / m) ((div-lt_iff_lt-mul some).1 l) in
        record { x_number = p; y_number = q; offset2_number = squares_number _ _ p q }

    all_placed : Each Placed (best ∷ sites m step best)
    unfolding sites
    all_placed = (b, each_listed Placed _ 0 (m * m - 0) (λ i l. site_placed i (omega arith)))

    numbered : (l : List Site) → Each Placed l → Numbered l
    numbered [] e = tt
    numbered (s ∷ l) e = (e.0.offset2_number, numbered l e.1)

    pub sweep_first : FirstBest (best ∷ sites m step best) (sweep_best bits w h t c m step best)
    unfolding sweep_best sites
    sweep_first = subst (FirstBest (best ∷ sites m step best)) (sym (folded_listed _ best (range 0 (m * m)))) (first-best best (sites m step best) (numbered (best ∷ sites m step best) all_placed))

    pub sweep_placed : Placed (sweep_best bits w h t c m step best)
    sweep_placed =
        let f = sweep_first in
        (each_right Placed f.earlier (sweep_best bits w h t c m step best ∷ f.later) (subst (Each Placed) f.placed all_placed)).0
