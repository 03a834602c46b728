-- Where no block is marked each level is 0, and no pixel is dark. Assumes nothing.
use mathlib.Core.Path.{◌≡◌, refl, sym, ap, ◌∙◌}
use mathlib.Core.Bool.{Bool, true, false, cond, ◌&&◌}
use mathlib.Core.List.{List, [], ◌∷◌, map}
use Prim.Native.Nat.{ℕ, ◌+◌, ◌*◌, ◌/◌, ◌%◌, ◌<◌}
use native.Mathlib.Omega.{arith}
use lib.Dec.{eqb, ltb}
use borrow.Author.Tests.{le-ltb}
use Rattle.lists.specs.Lists.{range, at}
use Rattle.lists.proofs.Numbers.{row_within}
use Rattle.lists.proofs.Filters.{those-none}
use Rattle.lists.proofs.Folds.{each_range}
use Rattle.blocks.specs.Blocks.{blocks_on}
use Rattle.binarize.specs.Levels.{first_level, marked, any_marked, chosen, global_level, level_at}
use Rattle.binarize.specs.Binarize.{dark_by}
use Rattle.binarize.proofs.FlagLaws.{level-none-about}

module _ (means edge near : ℕ → ℕ) (bw bh : ℕ) (no_edge : (i : ℕ) → i < bh * bw → edge i ≡ 0) (no_near : (i : ℕ) → i < bh * bw → near i ≡ 0) where
  none-marked : (mark : ℕ → ℕ) (i : ℕ) → mark i ≡ 0 → marked mark i ≡ false
  none-marked mark i e = ap (λ (v : ℕ). eqb v 1) e

  none-chosen : (i : ℕ) → i < bh * bw → chosen edge near (bh * bw) i ≡ 0
  none-chosen i l = go (any_marked edge (bh * bw))
    where
      go : (b : Bool) → cond b edge near i ≡ 0
      go true = no_edge i l
      go false = no_near i l

  global_zero : global_level means edge near bw bh ≡ 0
  unfolding global_level
  global_zero =
      let mark = chosen edge near (bh * bw) in
      ap (λ (is : List ℕ). first_level (map means is ∷ []) 0)
      (those-none (marked mark) (range 0 (bh * bw)) (each_range (λ i. marked mark i ≡ false) 0 (bh * bw) (λ i _ l. none-marked mark i (none-chosen i l))))

  level-zero : (x y : ℕ) → level_at means edge near bw bh x y ≡ 0
  level-zero x y =
      sym
      (level-none-about means edge near bw bh x y (global_level means edge near bw bh)
      (λ i j _ b _ d.
      let l : j * bw + i < bh * bw = omega (arith, row_within j bh bw (omega arith)) in
      (none-marked edge (j * bw + i) (no_edge (j * bw + i) l), none-marked near (j * bw + i) (no_near (j * bw + i) l))))
      ∙ global_zero

pub none_dark : (means edge near : ℕ → ℕ) (g : List ℕ) (w h : ℕ) → ((i : ℕ) → i < blocks_on h * blocks_on w → edge i ≡ 0)
    → ((i : ℕ) → i < blocks_on h * blocks_on w → near i ≡ 0) → (i : ℕ) → dark_by means edge near g w h i ≡ false
unfolding dark_by
none_dark means edge near g w h no_edge no_near i =
    rw (level-zero means edge near (blocks_on w) (blocks_on h) no_edge no_near (i % w / 8) (i / w / 8), le-ltb (at g i) 0 (omega arith)) (go (ltb i (w * h)))
  where
    go : (b : Bool) → b && false ≡ false
    go true = refl
    go false = refl
