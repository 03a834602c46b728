-- To be believed. The hits of a line (document 01, "Finding and ranking": five runs that pass, "one past the end counts as light").
use Rattle.std.specs.Prelude.{ℕ, zero, suc, ◌+◌, Bool, true, cond, not, List, [], ◌∷◌, ◌++◌, Float, Option, Some, None}
use Rattle.std.specs.Bool.{beq}
use Rattle.float.specs.Steps.{◌⊖◌, ◌⊘◌, whole32}
use Rattle.float.specs.Constants.{f2}
use Rattle.ratio.specs.Ratio.{match_of}

-- five runs that pass: where on the line the third has its centre, and the module
pub record Hit : Type 0 where
  pub centre : Float
  pub «module» : Float

-- the runs of the pixels from i on, n of them, in turn of a colour and of the other, where k pixels of the first stand before i.
-- The line's end closes the last, of either colour, as a light pixel closes a dark run
unfoldable pub runs : (ℕ → Bool) → Bool → ℕ → ℕ → ℕ → List ℕ
runs f colour k i zero = k ∷ []
runs f colour k i (suc n) = cond (beq (f i) colour) (runs f colour (suc k) (suc i) n) (k ∷ runs f (not colour) 1 (suc i) n)

-- a hit with its centre at x, where the runs pass
abbrev pub hit_if : Option Float → Float → List Hit
hit_if (Some m) x = record { centre = x; «module» = m } ∷ []
hit_if None x = []

-- the hit of the runs a, b, c, d and e that end before pixel `end`
unfoldable pub five_runs : ℕ → ℕ → ℕ → ℕ → ℕ → ℕ → List Hit
five_runs end a b c d e =
    hit_if (match_of a b c d e) (whole32 end ⊖ whole32 e ⊖ whole32 d ⊖ whole32 c ⊘ f2)

-- each five runs in a row of which the first is dark; the first of all is dark and starts at pixel `at`
unfoldable pub hits : ℕ → List ℕ → List Hit
hits at (a ∷ b ∷ c ∷ d ∷ e ∷ rest) = five_runs (at + a + b + c + d + e) a b c d e ++ hits (at + a + b) (c ∷ d ∷ e ∷ rest)
hits at [] = []
hits at (a ∷ []) = []
hits at (a ∷ b ∷ []) = []
hits at (a ∷ b ∷ c ∷ []) = []
hits at (a ∷ b ∷ c ∷ d ∷ []) = []

-- those of a line of len pixels: its runs start with a dark one, which may have no pixel
unfoldable pub line_hits : (ℕ → Bool) → ℕ → List Hit
line_hits f len = hits 0 (runs f true 0 0 len)
