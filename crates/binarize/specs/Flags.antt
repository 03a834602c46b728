-- For inner contracts and proofs. Flags of columns.
use Rattle.std.specs.Prelude.{ℕ, ◌+◌, ◌*◌, ◌≤◌, ◌<◌, ◌≡◌, false, cond, List, eqb}
use Rattle.lists.specs.Lists.{at}
use Rattle.binarize.specs.Levels.{marked}

-- a column's flag after one more of its marks: 1 where this marks, else as it was
unfoldable pub flagged : ℕ → ℕ → ℕ
flagged mark flag = cond (eqb mark 1) 1 flag

-- flags of w columns of blocks: where one is 0, no block of that column in the rows from c on below d is marked, by its edge mark or its near mark
unfoldable pub Flagged : (ℕ → ℕ) → (ℕ → ℕ) → ℕ → ℕ → ℕ → List ℕ → Type 0
Flagged edge near w c d flags = (x : ℕ) → x < w → at flags x ≡ 0 → (y : ℕ) → c ≤ y → y < d → (marked edge (y * w + x) ≡ false) × (marked near (y * w + x) ≡ false)
