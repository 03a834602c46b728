-- A gray picture that is k brighter: the mean, the least and the greatest value of each block are k more, and its marks are the same (document 02, N6).
-- Assumes nothing.
use mathlib.Core.Path.{◌≡◌, refl, ap, ◌∙◌}
use mathlib.Core.List.{List, [], ◌∷◌, map}
use Prim.Native.Nat.{ℕ, ◌+◌, ◌-◌, ◌*◌, ◌/◌, ◌%◌, ◌≤◌, ◌<◌, min, max}
use native.Mathlib.Nat.{mul_comm, add-mul-div_left}
use native.Mathlib.Omega.{arith}
use lib.ListN.{length, length-map}
use Rattle.lists.specs.Lists.{Each, folded, sum, mean, least, greatest, at}
use Rattle.lists.proofs.Numbers.{mul_bound}
use Rattle.lists.proofs.Filters.{each_map}
use Rattle.lists.proofs.Folds.{map_same, each_of_map}
use Rattle.lcr_core.specs.Passed.{Sides}
use Rattle.blocks.specs.Blocks.{cells, blocks_on, blocks_in, block_pixels, mark, neighbours, block_at, mean_at, least_at, greatest_at, edge_at, near_at}
use Rattle.blocks.proofs.Grids.{cells-within, length-cells, place, block_size}

-- ---- values of a list
module _ (k : ℕ) where
  -- k more in each
  abbrev pub more : List ℕ → List ℕ
  more l = map (λ v. v + k) l

  sum_from : (a : ℕ) (l : List ℕ) → folded ◌+◌ (a + k) l ≡ folded ◌+◌ a l + k
  unfolding folded
  sum_from a [] = refl
  sum_from a (x ∷ l) = let e : a + k + x ≡ a + x + k = omega arith in ap (λ (n : ℕ). folded ◌+◌ n l) e ∙ sum_from (a + x) l

  sum_more : (a : ℕ) (l : List ℕ) → folded ◌+◌ a (more l) ≡ folded ◌+◌ a l + length l * k
  unfolding folded
  sum_more a [] = omega arith
  sum_more a (x ∷ l) =
      let e : a + (x + k) ≡ a + x + k = omega arith in
      let i = sum_more (a + (x + k)) l in
      let j = ap (λ (n : ℕ). folded ◌+◌ n l) e ∙ sum_from (a + x) l in
      omega (arith, i, j)

  pub mean_more : (l : List ℕ) → 0 < length l → mean (more l) ≡ mean l + k
  mean_more l p =
      ap (λ (n : ℕ). sum (more l) / n) (length-map l (λ v. v + k))
      ∙ ap (λ (n : ℕ). n / length l) (sum_more 0 l)
      ∙ add-mul-div_left (sum l) k p

  min_from : (a : ℕ) (l : List ℕ) → folded min (a + k) (more l) ≡ folded min a l + k
  unfolding folded
  min_from a [] = refl
  min_from a (x ∷ l) = let e : min (a + k) (x + k) ≡ min a x + k = omega arith in ap (λ (n : ℕ). folded min n (more l)) e ∙ min_from (min a x) l

  max_from : (a : ℕ) (l : List ℕ) → folded max (a + k) (more l) ≡ folded max a l + k
  unfolding folded
  max_from a [] = refl
  max_from a (x ∷ l) = let e : max (a + k) (x + k) ≡ max a x + k = omega arith in ap (λ (n : ℕ). folded max n (more l)) e ∙ max_from (max a x) l

  -- here none may go above 255, from which the least value is sought
  pub least_more : (l : List ℕ) → 0 < length l → Each (λ v. v + k ≤ 255) l → least (more l) ≡ least l + k
  unfolding folded
  least_more [] p h = absurd (omega arith)
  least_more (x ∷ l) p h = let e : min 255 (x + k) ≡ min 255 x + k = omega (arith, h.0) in ap (λ (n : ℕ). folded min n (more l)) e ∙ min_from (min 255 x) l

  pub greatest_more : (l : List ℕ) → 0 < length l → greatest (more l) ≡ greatest l + k
  unfolding folded
  greatest_more [] p = absurd (omega arith)
  greatest_more (x ∷ l) p = let e : max 0 (x + k) ≡ max 0 x + k = omega arith in ap (λ (n : ℕ). folded max n (more l)) e ∙ max_from (max 0 x) l

  pub mark_more : (lo hi : ℕ) → mark (lo + k) (hi + k) ≡ mark lo hi
  unfolding mark
  mark_more lo hi = let spread : hi + k - (lo + k) ≡ hi - lo = omega arith in rw spread

  map_after : (f : ℕ → ℕ) (is : List ℕ) → map (λ i. f i + k) is ≡ more (map f is)
  map_after f [] = refl
  map_after f (i ∷ is) = ap (λ (l : List ℕ). (f i + k) ∷ l) (map_after f is)

  -- k more wherever a list of numbers below n is read
  pub map_more : (n : ℕ) (f f' : ℕ → ℕ) → ((i : ℕ) → i < n → f' i ≡ f i + k) → (is : List ℕ) → Each (λ i. i < n) is → map f' is ≡ more (map f is)
  map_more n f f' h is e = map_same f' (λ i. f i + k) is (each_map (λ i. i < n) (λ i. f' i ≡ f i + k) h is e) ∙ map_after f is

least_small : (a : ℕ) (l : List ℕ) → folded min a l ≤ a
unfolding folded
least_small a [] = omega arith
least_small a (x ∷ l) = omega (arith, least_small (min a x) l)

-- ---- the blocks of the gray pictures g and g', of which g' is k brighter
module _ (k : ℕ) (g g' : List ℕ) (w h : ℕ) (s : Sides w h) (brighter : (i : ℕ) → i < w * h → at g' i ≡ at g i + k) (bytes : (i : ℕ) → i < w * h → at g i + k ≤ 255) where
  pixels : (i : ℕ) → Each (λ j. j < w * h) (cells w (block_pixels w (i % blocks_on w)) (block_pixels h (i / blocks_on w)))
  pixels i =
      rw (mul_comm w h)
      (cells-within w h (i % blocks_on w * 8) (min w (i % blocks_on w * 8 + 8)) (i / blocks_on w * 8) (min h (i / blocks_on w * 8 + 8)) (omega arith) (omega arith))

  block_more : (i : ℕ) → block_at g' w h i ≡ more k (block_at g w h i)
  unfolding block_at
  block_more i = map_more k (w * h) (at g) (at g') brighter (cells w (block_pixels w (i % blocks_on w)) (block_pixels h (i / blocks_on w))) (pixels i)

  block_bytes : (i : ℕ) → Each (λ v. v + k ≤ 255) (block_at g w h i)
  unfolding block_at
  block_bytes i =
      let is = cells w (block_pixels w (i % blocks_on w)) (block_pixels h (i / blocks_on w)) in
      each_of_map (λ v. v + k ≤ 255) (at g) is (each_map (λ j. j < w * h) (λ j. at g j + k ≤ 255) bytes is (pixels i))

  block_some : (i : ℕ) → i < blocks_in w h → 0 < length (block_at g w h i)
  unfolding block_at
  block_some i l =
      let is = cells w (block_pixels w (i % blocks_on w)) (block_pixels h (i / blocks_on w)) in
      let e = length-map is (at g) in
      let n = length-cells w (i % blocks_on w * 8) (min w (i % blocks_on w * 8 + 8)) (i / blocks_on w * 8) (min h (i / blocks_on w * 8 + 8)) in
      omega (arith, e, n, (block_size w h i s l).0)

  pub means_more : (i : ℕ) → i < blocks_in w h → mean_at g' w h i ≡ mean_at g w h i + k
  means_more i l = rw (block_more i) (mean_more k (block_at g w h i) (block_some i l))

  leasts_more : (i : ℕ) → i < blocks_in w h → least_at g' w h i ≡ least_at g w h i + k
  leasts_more i l = rw (block_more i) (least_more k (block_at g w h i) (block_some i l) (block_bytes i))

  greatests_more : (i : ℕ) → i < blocks_in w h → greatest_at g' w h i ≡ greatest_at g w h i + k
  greatests_more i l = rw (block_more i) (greatest_more k (block_at g w h i) (block_some i l))

  pub edges_same : (i : ℕ) → i < blocks_in w h → edge_at g' w h i ≡ edge_at g w h i
  edges_same i l = rw (leasts_more i l, greatests_more i l) (mark_more k (least_at g w h i) (greatest_at g w h i))

  pub nears_same : (i : ℕ) → i < blocks_in w h → near_at g' w h i ≡ near_at g w h i
  nears_same i l =
      let bw = blocks_on w in
      let bh = blocks_on h in
      let p = place i bw bh l in
      let ns = neighbours bw bh i in
      let a = i % bw - 1 in
      let b = min bw (i % bw + 1 + 1) in
      let c = i / bw - 1 in
      let d = min bh (i / bw + 1 + 1) in
      let e : Each (λ j. j < blocks_in w h) ns = cells-within bw bh a b c d (omega arith) (omega arith) in
      let n : length ns ≡ (d - c) * (b - a) = length-cells bw a b c d in
      let o : 1 * 1 ≤ (d - c) * (b - a) = mul_bound 1 1 (d - c) (b - a) (omega arith) (omega arith) in
      let lo = map (least_at g w h) ns in
      let hi = map (greatest_at g w h) ns in
      let small : Each (λ v. v + k ≤ 255) lo =
      each_of_map (λ v. v + k ≤ 255) (least_at g w h) ns
      (each_map (λ j. j < blocks_in w h) (λ j. least_at g w h j + k ≤ 255) (λ j m. omega (arith, leasts_more j m, least_small 255 (block_at g' w h j))) ns e)
      in
      rw (map_more k (blocks_in w h) (least_at g w h) (least_at g' w h) leasts_more ns e, map_more k (blocks_in w h) (greatest_at g w h) (greatest_at g' w h) greatests_more ns e, least_more k lo (omega (arith, length-map ns (least_at g w h))) small, greatest_more k hi (omega (arith, length-map ns (greatest_at g w h))))
      (mark_more k (least lo) (greatest hi))
