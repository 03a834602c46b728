-- What is known where the checks pass. Assumes nothing.
use Rattle.std.proofs.lemmas.Bool.{or_parts}
use mathlib.Core.Path.{◌≡◌, refl, ap}
use mathlib.Core.Bool.{Bool, false, ◌||◌}
use mathlib.Core.List.{List, [], ◌∷◌}
use Prim.Native.Nat.{ℕ, ◌*◌, ◌≤◌}
use lib.Dec.{ltb}
use borrow.Author.Tests.{ltb-false}
use Rattle.std.specs.List.{list_any}
use Rattle.lcr_core.specs.Outcome.{zero_side, large_side}
use Rattle.lcr_core.proofs.Checks.{first_passes, sides_pass}
use Rattle.lcr_core.specs.Passed.{Sides}
use Rattle.blocks.specs.Blocks.{blocks_in, under, picture_refusal, blocks_refusal}
use Rattle.blocks.specs.Steps.{BlocksPassed}

-- what the library's `any` says of the lengths
pub any_under : (n : ℕ) (ls : List ℕ) → list_any (λ (l : ℕ). ltb l n) ls ≡ under n ls
unfolding under
any_under n [] = refl
any_under n (l ∷ ls) = ap (λ (b : Bool). ltb l n || b) (any_under n ls)

-- of the picture alone
pub picture_passes : (len w h : ℕ) → picture_refusal len w h ≡ 0 → Sides w h × (w * h ≤ len)
unfolding picture_refusal
picture_passes len w h z =
    let p1 = first_passes (zero_side w h) 0 _ z in
    let p2 = first_passes (large_side w h) 1 _ p1.1 in
    let p3 = first_passes (ltb len (w * h)) 3 _ p2.1 in
    (sides_pass w h p1.0 p2.0, ltb-false len (w * h) p3.0)

-- and of the work slices too
pub passes : (len w h m lo hi e n : ℕ) → blocks_refusal len w h (m ∷ lo ∷ hi ∷ e ∷ n ∷ []) ≡ 0 → BlocksPassed len w h m lo hi e n
unfolding blocks_refusal under
passes len w h m lo hi e n z =
    let k = blocks_in w h in
    let p1 = first_passes (zero_side w h) 0 _ z in
    let p2 = first_passes (large_side w h) 1 _ p1.1 in
    let p3 = first_passes (ltb len (w * h)) 3 _ p2.1 in
    let p4 = first_passes (under k (m ∷ lo ∷ hi ∷ e ∷ n ∷ [])) 4 _ p3.1 in
    let q1 = or_parts (ltb m k) (under k (lo ∷ hi ∷ e ∷ n ∷ [])) p4.0 in
    let q2 = or_parts (ltb lo k) (under k (hi ∷ e ∷ n ∷ [])) q1.1 in
    let q3 = or_parts (ltb hi k) (under k (e ∷ n ∷ [])) q2.1 in
    let q4 = or_parts (ltb e k) (under k (n ∷ [])) q3.1 in
    let q5 = or_parts (ltb n k) false q4.1 in
    record {
      sides = sides_pass w h p1.0 p2.0;
      bytes = ltb-false len (w * h) p3.0;
      means = ltb-false m k q1.0;
      least = ltb-false lo k q2.0;
      greatest = ltb-false hi k q3.0;
      edges = ltb-false e k q4.0;
      nears = ltb-false n k q5.0;
    }
