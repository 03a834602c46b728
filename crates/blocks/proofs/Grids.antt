-- Laws of the cells of a grid, and of the blocks of a picture. Assumes nothing.
use mathlib.Core.Path.{◌≡◌, refl, sym, ap, ◌∙◌}
use mathlib.Core.List.{List, [], ◌∷◌, map}
use Prim.Native.Nat.{ℕ, zero, suc, ◌+◌, ◌-◌, ◌*◌, ◌/◌, ◌%◌, ◌≤◌, ◌<◌, min}
use native.Mathlib.Nat.{zero-mul, suc-mul, mul-zero, mod-lt, div-lt_iff_lt-mul}
use native.Mathlib.Omega.{arith}
use lib.ListN.{length, length-append, length-map}
use Rattle.lists.specs.Lists.{Each, range, folded, flat_map}
use Rattle.lists.proofs.Numbers.{mul_bound, row_within}
use Rattle.lists.proofs.Folds.{folded-append, folded_map, length-count, each_range, each_of_map, each_flat_map}
use Rattle.lcr_core.specs.Passed.{Sides}
use Rattle.blocks.specs.Blocks.{cells, blocks_on, blocks_in}

-- a fold over cells goes row by row
pub folded-cells : {S : Type 0} (g : S → ℕ → S) (w : ℕ) (xs ys : List ℕ) (s : S)
    → folded (λ (u : S) (y : ℕ). folded (λ (v : S) (x : ℕ). g v (y * w + x)) u xs) s ys ≡ folded g s (cells w xs ys)
unfolding cells flat_map folded
folded-cells g w xs [] s = refl
folded-cells {S} g w xs (y ∷ ys) s =
    sym
    (folded-append g s (map (λ x. y * w + x) xs) (cells w xs ys)
    ∙ ap (λ (u : S). folded g u (cells w xs ys)) (folded_map g (λ x. y * w + x) s xs)
    ∙ sym (folded-cells g w xs ys (folded (λ (v : S) (x : ℕ). g v (y * w + x)) s xs)))

length_rows : (w : ℕ) (xs ys : List ℕ) → length (cells w xs ys) ≡ length ys * length xs
unfolding cells flat_map
length_rows w xs [] = sym (zero-mul (length xs))
length_rows w xs (y ∷ ys) =
    let e = length_rows w xs ys in
    let m = suc-mul (length ys) (length xs) in
    simp (length-append, length-map) (omega arith)

pub length-cells : (w a b c d : ℕ) → length (cells w (range a b) (range c d)) ≡ (d - c) * (b - a)
length-cells w a b c d = length_rows w (range a b) (range c d) ∙ rw (length-count c (d - c), length-count a (b - a))

-- what holds in each column and row holds of each cell
pub each_cells : (P : ℕ → Type 0) (w a b c d : ℕ) → ((x y : ℕ) → a ≤ x → x < b → c ≤ y → y < d → P (y * w + x)) → Each P (cells w (range a b) (range c d))
unfolding cells
each_cells P w a b c d h =
    each_flat_map P (λ y. map (λ x. y * w + x) (range a b)) c d
    (λ y l m. each_of_map P (λ x. y * w + x) (range a b) (each_range (λ x. P (y * w + x)) a b (λ x k n. h x y k n l m)))

-- cells of h rows of w
pub cells-within : (w h a b c d : ℕ) → b ≤ w → d ≤ h → Each (λ i. i < h * w) (cells w (range a b) (range c d))
cells-within w h a b c d bw dh =
    each_cells (λ i. i < h * w) w a b c d (λ x y k l m n. omega (arith, row_within y h w (omega arith)))

-- column and row of cell number i
pub place : (i w h : ℕ) → i < h * w → (0 < w) × (i % w < w) × (i / w < h)
place i zero h l = let e = mul-zero h in absurd (omega arith)
place i (suc w) h l =
    let p : 0 < suc w = omega arith in (p, mod-lt i p, (div-lt_iff_lt-mul {k = suc w} {x = i} {y = h} p).1 l)

-- block number i has from 1 to 64 pixels
pub block_size : (w h i : ℕ) → Sides w h → i < blocks_in w h
    → let n = (min h (i / blocks_on w * 8 + 8) - i / blocks_on w * 8) * (min w (i % blocks_on w * 8 + 8) - i % blocks_on w * 8) in (0 < n) × (n ≤ 64)
block_size w h i s l =
    let p = place i (blocks_on w) (blocks_on h) l in
    let x = min w (i % blocks_on w * 8 + 8) - i % blocks_on w * 8 in
    let y = min h (i / blocks_on w * 8 + 8) - i / blocks_on w * 8 in
    (omega (arith, mul_bound 1 1 y x (omega arith) (omega arith)), mul_bound y x 8 8 (omega arith) (omega arith))
