-- To be believed. When five runs are a finder's, and the module that they give (document 01, "Finding and ranking", first paragraph; document 02, N5).
use Rattle.std.specs.Prelude.{ℕ, ◌+◌, ◌*◌, Bool, ◌&&◌, cond, not, leb, ltb, Float, Option, Some, None}
use Rattle.std.specs.Float.Ieee.{lt, le}
use Rattle.lists.specs.Lists.{dist}
use Rattle.float.specs.Floats.{abs_of}
use Rattle.float.specs.Steps.{◌⊖◌, ◌⊗◌, ◌⊘◌, whole32}
use Rattle.float.specs.Constants.{f0, f0_55, f3, f4, f7}
use Rattle.lcr_core.specs.Outcome.{max_side}

-- an outer run r is near one module: 20 × |4r - S| ≤ 11 × S
abbrev pub near_one : ℕ → ℕ → Bool
near_one s r = leb (20 * dist (4 * r) s) (11 * s)

-- the centre run c is near three: 20 × |4c - 3S| ≤ 33 × S
abbrev pub near_three : ℕ → ℕ → Bool
near_three s c = leb (20 * dist (4 * c) (3 * s)) (33 * s)

-- the runs pass, with S = a + b + d + e
unfoldable pub passes : ℕ → ℕ → ℕ → ℕ → ℕ → Bool
passes a b c d e =
    let s = a + b + d + e in
    leb 7 (a + b + c + d + e) && ltb 0 s && (near_one s a && near_one s b && near_one s d && near_one s e && near_three s c)

-- the module: total / 7, one rounding
abbrev pub module_of : ℕ → Float
module_of total = whole32 total ⊘ f7

-- `matches_finder`: nothing also for a total over the longest side, up to which the f32 test is proved to be this one
unfoldable pub match_of : ℕ → ℕ → ℕ → ℕ → ℕ → Option Float
match_of a b c d e =
    let total = a + b + c + d + e in
    cond (leb total max_side && passes a b c d e) (Some (module_of total)) None

-- ---- the f32 test of document 000, step by step: no code takes it, and up to the longest side it says the same (proofs/Theorems.antt)
-- outer: the mean of the four outer runs, whose sum is s
abbrev pub outer_of : ℕ → Float
outer_of s = whole32 s ⊘ f4

-- tol: the tolerance for one module
abbrev pub tolerance_of : Float → Float
tolerance_of outer = outer ⊗ f0_55

-- a run of n pixels is farther than tol from x
abbrev pub beyond : ℕ → Float → Float → Bool
beyond n x tol = lt tol (abs_of (whole32 n ⊖ x))

-- the runs pass: seven pixels, a mean that is not 0 or less, no outer run beyond tol from it, the centre run not beyond 3 tol from 3 of it
unfoldable pub float_passes : ℕ → ℕ → ℕ → ℕ → ℕ → Bool
float_passes a b c d e =
    let outer = outer_of (a + b + d + e) in
    let tol = tolerance_of outer in
    leb 7 (a + b + c + d + e) && not (le outer f0)
    && (not (beyond a outer tol) && not (beyond b outer tol) && not (beyond d outer tol) && not (beyond e outer tol) && not (beyond c (f3 ⊗ outer) (f3 ⊗ tol)))
