-- What the definitions say, in document 01's words. Assumes nothing.
use Rattle.std.specs.Prelude.{None, Ok}
use mathlib.Core.Path.{◌≡◌, refl, sym}
use mathlib.Core.Bool.{Bool, true, false, cond, ◌||◌}
use mathlib.Core.List.{List, ◌∷◌}
use Prim.Native.Nat.{ℕ, ◌+◌}
use native.Mathlib.Omega.{arith}
use lib.Count.{count_trailing_zeros}
use lib.ListN.{length}
use lib.Ieee.{Float, nan, of_bits, of_fields, of_int, mul, round, units, odd, size, span, climb, lt, eq, ne, to_unsigned}
use Rattle.lcr_core.proofs.Answers.{checked_passed}
use Rattle.float.specs.Floats.{is_number}
use Rattle.float.specs.Constants.{f1/2, f1/8, f1/32}
use Rattle.float.proofs.Order.{le-nan}
use Rattle.binary.specs.Binary.{bit, dark_at}
use Rattle.transform.specs.declared.Transform.{Transform}
use Rattle.lcr_core.specs.Finder.{point}
use Rattle.geometry.specs.declared.Corners.{Corners}
use Rattle.alignment.specs.Alignment.{alignment_checks, alignment_refusal, located_of, rebuilt_of, refined_of, refine_answer}
use Rattle.alignment.specs.Template.{outside_of, pixel_at, tapped, signed32, no_site, sweep_best, best_of, matched_of}
use Rattle.alignment.specs.declared.template.Votes.{Votes}
use Rattle.alignment.proofs.First.{FirstBest}
use Rattle.alignment.proofs.Sweeps.{all_below, finite_steps, Placed, sites, sweep_first, sweep_placed}

-- a not-a-number coordinate reads as coordinate 0
inside-nan : (n : ℕ) → outside_of n nan ≡ false
unfolding outside_of lt
inside-nan n = rw le-nan

pub nan_tap : (bits : List ℕ) (w h : ℕ) (v : Votes) → tapped bits w h v (point nan nan) ≡ record { seen = v.seen + 1; dark = v.dark + bit (dark_at bits w h 0 0) }
unfolding tapped outside_of pixel_at lt to_unsigned
nan_tap bits w h v = rw (le-nan, le-nan)

-- also where only x, or only y, is one
pub nan_x : (bits : List ℕ) (w h : ℕ) (v : Votes) (y : Float)
    → tapped bits w h v (point nan y) ≡ cond (outside_of h y) v (record { seen = v.seen + 1; dark = v.dark + bit (dark_at bits w h 0 (to_unsigned 32 y)) })
unfolding tapped outside_of pixel_at lt to_unsigned
nan_x bits w h v y = rw le-nan

pub nan_y : (bits : List ℕ) (w h : ℕ) (v : Votes) (x : Float)
    → tapped bits w h v (point x nan) ≡ cond (outside_of w x) v (record { seen = v.seen + 1; dark = v.dark + bit (dark_at bits w h (to_unsigned 32 x) 0) })
unfolding tapped pixel_at to_unsigned
nan_y bits w h v x = rw (inside-nan h) (go (outside_of w x))
  where
    go : (b : Bool)
        → cond (b || false) v (record { seen = v.seen + 1; dark = v.dark + bit (dark_at bits w h (to_unsigned 32 x) 0) })
        ≡ cond b v (record { seen = v.seen + 1; dark = v.dark + bit (dark_at bits w h (to_unsigned 32 x) 0) })
    go true = refl
    go false = refl

-- none below version 2
pub match_one : (bits : List ℕ) (w h : ℕ) (t : Transform) → matched_of bits w h t 1 ≡ None
unfolding matched_of
match_one bits w h t = refl

pub locate_one : (bits : List ℕ) (w h : ℕ) (t : Transform) (m : Float) → located_of bits w h t 1 m ≡ None
unfolding located_of
locate_one bits w h t m = refl

-- where refining finds no marker, it answers none and keeps the transform it was given
pub refine_none : (bits : List ℕ) (w h : ℕ) (c : Corners) (v : ℕ) (t : Transform) (m : Float) → alignment_refusal (length bits) w h v ≡ 0 → located_of bits w h t v m ≡ None
    → refine_answer bits w h c v t m ≡ Ok (record { transform = t; marker = None })
unfolding refine_answer refined_of rebuilt_of alignment_refusal
refine_none bits w h c v t m e n = rw n (sym (checked_passed (alignment_checks (length bits) w h v) _ (sym e)))

-- ---- the three sweeps, each about the best so far: its best beats each earlier site, by a higher score or an equal one and a smaller squared offset,
-- and no later site beats it, so that equal scores and squared offsets go to the earlier site
first_steps : finite_steps 13 f1/2 ≡ true
unfolding finite_steps all_below signed32 of_bits of_fields of_int mul round units odd size span climb count_trailing_zeros
first_steps = refl

second_steps : finite_steps 9 f1/8 ≡ true
unfolding finite_steps all_below signed32 of_bits of_fields of_int mul round units odd size span climb count_trailing_zeros
second_steps = refl

third_steps : finite_steps 9 f1/32 ≡ true
unfolding finite_steps all_below signed32 of_bits of_fields of_int mul round units odd size span climb count_trailing_zeros
third_steps = refl

none-placed : Placed no_site
unfolding of_bits of_fields is_number ne eq
none-placed = record { x_number = tt; y_number = tt; offset2_number = refl }

pub best_sites : (bits : List ℕ) (w h : ℕ) (t : Transform) (c : Float) → let a = sweep_best bits w h t c 13 f1/2 no_site in let b = sweep_best bits w h t c 9 f1/8 a in
    FirstBest (no_site ∷ sites bits w h t c 13 f1/2 no_site) a × FirstBest (a ∷ sites bits w h t c 9 f1/8 a) b × FirstBest (b ∷ sites bits w h t c 9 f1/32 b) (best_of bits w h t c)
unfolding best_of
best_sites bits w h t c =
    let a = sweep_best bits w h t c 13 f1/2 no_site in
    let b = sweep_best bits w h t c 9 f1/8 a in
    let p = sweep_placed bits w h t c 13 f1/2 no_site (omega arith) first_steps none-placed in
    let q = sweep_placed bits w h t c 9 f1/8 a (omega arith) second_steps p in (
      sweep_first bits w h t c 13 f1/2 no_site (omega arith) first_steps none-placed,
      sweep_first bits w h t c 9 f1/8 a (omega arith) second_steps p,
      sweep_first bits w h t c 9 f1/32 b (omega arith) third_steps q,
    )
