-- What the definitions say of small systems. Assumes nothing.
use mathlib.Core.Path.{◌≡◌, refl}
use Rattle.std.specs.Prelude.{Some, None}
use mathlib.Core.List.{[], ◌∷◌}
use Prim.Native.Nat.{ℕ}
use lib.IntN.{pos}
use lib.Ieee.{Float, binary64, of_bits, of_int, add, sub, mul, div, lt, eq}
use Rattle.math.specs.Solve.{augmented, swapped, reduced, pivot_row, pivoted, row_cleared, cleared, upper, small_pivot, singular, remainder, unknowns, solution_of}

-- a whole number
f : ℕ → Float
unfolding of_int
f n = of_int binary64 (pos n)

-- 2 y = 4 and x + y = 3, whose rows have to be swapped
swaps : solution_of 2 (augmented 2 ((f 0 ∷ f 2 ∷ []) ∷ (f 1 ∷ f 1 ∷ []) ∷ []) (f 4 ∷ f 3 ∷ [])) ≡ Some (f 1 ∷ f 2 ∷ [])
unfolding f of_bits of_int add sub mul div lt eq augmented swapped reduced pivot_row pivoted row_cleared cleared upper small_pivot singular remainder unknowns solution_of
swaps = refl

-- x + 2 y = 3 and 2 x + 4 y = 6, one equation twice
twice : solution_of 2 (augmented 2 ((f 1 ∷ f 2 ∷ []) ∷ (f 2 ∷ f 4 ∷ []) ∷ []) (f 3 ∷ f 6 ∷ [])) ≡ None
unfolding f of_bits of_int add sub mul div lt eq augmented swapped reduced pivot_row pivoted row_cleared cleared upper small_pivot singular solution_of
twice = refl
