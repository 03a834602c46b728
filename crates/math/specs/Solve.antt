-- To be believed. `solve` of document 005, at any size: Gaussian elimination with partial pivoting, and back substitution. Document 01: "`solve` (on fixed
-- tables of size 6 or 8)" refuses nothing, "none" is its answer where the Rust gives `None`, and the floats handed in may be any. Steps are f64, in the order
-- written.
use Rattle.std.specs.Prelude.{Bool, false, cond, ◌&&◌, ◌||◌, List, [], ◌∷◌, ℕ, zero, suc, ◌-◌, leb, ltb, eqb, get_or, Option, Some, None, Float}
use Rattle.std.specs.Float.{nan}
use Rattle.std.specs.Float.Ieee.{lt, eq}
use Rattle.float.specs.Floats.{abs_of}
use Rattle.float.specs.Steps.{◌⊟◌, ◌⊠◌, ◌⧄◌}
use Rattle.float.specs.Constants.{d0, d1e_12}

-- ---- the system

-- entry m r k is in row r and column k
abbrev pub Matrix : Type 0
Matrix = ℕ → ℕ → Float

-- x k is unknown k
abbrev pub Vector : Type 0
Vector = ℕ → Float

-- [a | b], of n rows: column n is the right-hand side
unfoldable pub augmented : ℕ → List (List Float) → List Float → Matrix
augmented n a b r k = cond (ltb k n) (get_or (get_or a r []) k nan) (get_or b r nan)

-- ---- row operations

-- rows p and q exchanged
unfoldable pub swapped : Matrix → ℕ → ℕ → Matrix
swapped m p q r = m (cond (eqb r q) p (cond (eqb r p) q r))

-- row r loses f times row c, from column c on
unfoldable pub reduced : Matrix → ℕ → ℕ → Float → Matrix
reduced m c r f i k = cond (eqb i r && leb c k) (m i k ⊟ f ⊠ m c k) (m i k)

-- ---- elimination

-- Partial pivoting: of row c and the rows after it before row n, the first with the largest entry of column c, by `>` on magnitudes from one row to the next
unfoldable pub pivot_row : Matrix → ℕ → ℕ → ℕ
pivot_row m c zero = c
pivot_row m c (suc r) = let p = pivot_row m c r in cond (ltb c r && lt (abs_of (m p c)) (abs_of (m r c))) r p

-- the pivot's row brought to place c
unfoldable pub pivoted : ℕ → Matrix → ℕ → Matrix
pivoted n m c = swapped m c (pivot_row m c n)

-- row r cleared of column c by row c; it is left where the multiple is 0
unfoldable pub row_cleared : Matrix → ℕ → ℕ → Matrix
row_cleared m c r = let f = m r c ⧄ m c c in cond (eq f d0) m (reduced m c r f)

-- the rows after c and before n cleared of column c, one after the other
unfoldable pub cleared : Matrix → ℕ → ℕ → Matrix
cleared m c zero = m
cleared m c (suc r) = cond (ltb c r) (row_cleared (cleared m c r) c r) (cleared m c r)

-- the matrix after the steps of the first j columns
unfoldable pub upper : ℕ → Matrix → ℕ → Matrix
upper n m zero = m
upper n m (suc c) = cleared (pivoted n (upper n m c) c) c n

-- the pivot of column c is below 1e-12
unfoldable pub small_pivot : ℕ → Matrix → ℕ → Bool
small_pivot n m c = lt (abs_of (pivoted n (upper n m c) c c c)) d1e_12

-- that of one of the first j columns is
unfoldable pub singular : ℕ → Matrix → ℕ → Bool
singular n m zero = false
singular n m (suc c) = singular n m c || small_pivot n m c

-- ---- back substitution on u, upper triangular

-- row r's right-hand side less the products u r k * x k, for the k from r + 1 below j, one after the other
unfoldable pub remainder : ℕ → Matrix → ℕ → Vector → ℕ → Float
remainder n u r x zero = u r n
remainder n u r x (suc k) = let s = remainder n u r x k in cond (ltb r k) (s ⊟ u r k ⊠ x k) s

-- the last j of the n unknowns, from the last row up; the others stand at 0
unfoldable pub unknowns : ℕ → Matrix → ℕ → Vector
unknowns n u zero k = d0
unknowns n u (suc j) k =
    let r = n - suc j in
    let x = unknowns n u j in
    cond (eqb k r) (remainder n u r x n ⧄ u r r) (x k)

-- ---- the answer

-- the first n
abbrev pub first_unknowns : ℕ → Vector → List Float
first_unknowns zero x = []
first_unknowns (suc n) x = x 0 ∷ first_unknowns n (λ k. x (suc k))

-- none where a pivot is below 1e-12; the n unknowns where none is
unfoldable pub solution_of : ℕ → Matrix → Option (List Float)
solution_of n m = cond (singular n m n) None (Some (first_unknowns n (unknowns n (upper n m n) n)))
