-- To be believed. What a call answers whose checks come first: the refusal of the first that refuses, or else what stands behind them.
use Rattle.std.specs.Prelude.{cond, List, [], ◌∷◌, Result, Ok, Err}
use Rattle.lcr_core.specs.Outcome.{Check}
use Rattle.lcr_core.specs.declared.Refusal.{Refusal}

-- an answer behind checks
abbrev pub behind : {A : Type 0} → List Check → Result A Refusal → Result A Refusal
behind [] answer = answer
behind (c ∷ cs) answer = cond c.refuses (Err c.refusal) (behind cs answer)

-- a value behind checks
abbrev pub checked : {A : Type 0} → List Check → A → Result A Refusal
checked cs x = behind cs (Ok x)
