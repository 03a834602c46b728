-- To be believed. The refusal numbers (document 01, first section, and document 02), the checks that give them, and what a refusal leaves.
use Rattle.std.specs.Prelude.{ℕ, suc, zero, Bool, cond, ◌||◌, eqb, ltb, List, [], ◌∷◌, Result, Ok, Err}
use Rattle.lcr_core.specs.declared.Refusal.{Refusal}
use Rattle.lcr_core.specs.declared.Refusal.TheVariants.{ZeroSide, LargeSide, UnknownFormat, ShortPicture, ShortOutput, FullTable, BadVersion, BadList, LargeFrame}

-- each refusal's number
abbrev pub refusal_number : Refusal → ℕ
refusal_number ZeroSide = 1
refusal_number LargeSide = 2
refusal_number UnknownFormat = 3
refusal_number ShortPicture = 4
refusal_number ShortOutput = 5
refusal_number FullTable = 6
refusal_number BadVersion = 7
refusal_number BadList = 8
refusal_number LargeFrame = 10

-- an answer's number: 0 is done
abbrev pub number_of : {A : Type 0} → Result A Refusal → ℕ
number_of (Ok done) = 0
number_of (Err refusal) = refusal_number refusal

-- a check: whether it refuses, and why
pub record Check : Type 0 where
  pub refuses : Bool
  pub refusal : Refusal

-- the number that a list of checks gives: that of the first which refuses, or 0
abbrev pub first_of : List Check → ℕ
first_of [] = 0
first_of (c ∷ cs) = cond c.refuses (refusal_number c.refusal) (first_of cs)

-- what a call leaves of what was lent: after a refusal all as it was, else what the stage writes
abbrev pub if_refused : {A : Type 0} → ℕ → A → A → A
if_refused zero old new = new
if_refused (suc n) old new = old

-- 1: a side is 0
unfoldable pub zero_side : ℕ → ℕ → Bool
zero_side w h = eqb w 0 || eqb h 0

-- 2: a side is over 4,096
abbrev pub max_side : ℕ
max_side = 4096

unfoldable pub large_side : ℕ → ℕ → Bool
large_side w h = ltb max_side w || ltb max_side h

-- what every operation refuses first
abbrev pub side_checks : ℕ → ℕ → List Check
side_checks w h = record { refuses = zero_side w h; refusal = ZeroSide } ∷ record { refuses = large_side w h; refusal = LargeSide } ∷ []

unfoldable pub sides_refusal : ℕ → ℕ → ℕ
sides_refusal w h = first_of (side_checks w h)
