-- What is refused, and what is known where the checks pass. Assumes nothing.
use Rattle.std.proofs.lemmas.Bool.{or_parts}
use mathlib.Core.Path.{◌≡◌, refl}
use mathlib.Core.Bool.{Bool, true, false, cond, ◌||◌}
use mathlib.Core.List.{List}
use Prim.Native.Nat.{ℕ, ◌*◌}
use native.Mathlib.Omega.{arith}
use lib.Dec.{ltb}
use borrow.Author.Tests.{ltb-false}
use Rattle.lcr_core.specs.Outcome.{zero_side, large_side}
use Rattle.lcr_core.proofs.Checks.{first_passes}
use Rattle.binary.specs.Binary.{bytes_of}
use Rattle.blocks.specs.Blocks.{blocks_in, under, blocks_refusal}
use Rattle.binarize.specs.Binarize.{binarize_refusal}
use Rattle.binarize.specs.Splits.{BinarizePassed}

-- the checks in their order
abbrev chain : Bool → Bool → Bool → Bool → ℕ
chain a b c d = cond a 1 (cond b 2 (cond c 4 (cond d 5 0)))

-- what `block_values` refuses is refused with the same number
pub values_refused : (len w h room : ℕ) (work : List ℕ) → (blocks_refusal len w h work ≡ 0 → ⊥) → blocks_refusal len w h work ≡ binarize_refusal len w h room work
unfolding blocks_refusal binarize_refusal
values_refused len w h room work = go (zero_side w h) (large_side w h) (ltb len (w * h)) (ltb room (bytes_of (w * h))) (under (blocks_in w h) work)
  where
    go : (a b c r u : Bool) → (chain a b c u ≡ 0 → ⊥) → chain a b c u ≡ chain a b c (r || u)
    go true b c r u h = refl
    go false true c r u h = refl
    go false false true r u h = refl
    go false false false true true h = refl
    go false false false false true h = refl
    go false false false r false h = absurd (h refl)

-- otherwise the room for the bits decides
pub room_decides : (len w h room : ℕ) (work : List ℕ) → blocks_refusal len w h work ≡ 0 → cond {A = ℕ} (ltb room (bytes_of (w * h))) 5 0 ≡ binarize_refusal len w h room work
unfolding blocks_refusal binarize_refusal
room_decides len w h room work = go (zero_side w h) (large_side w h) (ltb len (w * h)) (ltb room (bytes_of (w * h))) (under (blocks_in w h) work)
  where
    go : (a b c r u : Bool) → chain a b c u ≡ 0 → chain false false false r ≡ chain a b c (r || u)
    go true b c r u h = absurd (omega arith)
    go false true c r u h = absurd (omega arith)
    go false false true r u h = absurd (omega arith)
    go false false false r true h = absurd (omega arith)
    go false false false true false h = refl
    go false false false false false h = refl

pub passes : (len w h room : ℕ) (work : List ℕ) → binarize_refusal len w h room work ≡ 0 → BinarizePassed len w h room work
unfolding binarize_refusal blocks_refusal
passes len w h room work z =
    let p1 = first_passes (zero_side w h) 0 _ z in
    let p2 = first_passes (large_side w h) 1 _ p1.1 in
    let p3 = first_passes (ltb len (w * h)) 3 _ p2.1 in
    let p4 = first_passes (ltb room (bytes_of (w * h)) || under (blocks_in w h) work) 4 _ p3.1 in
    let q = or_parts (ltb room (bytes_of (w * h))) (under (blocks_in w h) work) p4.0 in
    record {
      values = simp (p1.0, p2.0, p3.0, q.1);
      bits = ltb-false room (bytes_of (w * h)) q.0;
    }
