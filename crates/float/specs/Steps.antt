-- To be believed. The f32 and f64 steps that the rules of every crate name, one rounding each: in a circle of f32, in a square of f64.
use Rattle.std.specs.Prelude.{ℕ, pos, Float}
use Rattle.std.specs.Float.Ieee as Ieee
use Rattle.std.specs.Float.{binary32, binary64}

infixl 65 ◌⊕◌ ◌⊖◌ ◌⊞◌ ◌⊟◌
infixl 70 ◌⊗◌ ◌⊘◌ ◌⊠◌ ◌⧄◌
abbrev pub ◌⊕◌ : Float → Float → Float
◌⊕◌ = Ieee.add binary32

abbrev pub ◌⊖◌ : Float → Float → Float
◌⊖◌ = Ieee.sub binary32

abbrev pub ◌⊗◌ : Float → Float → Float
◌⊗◌ = Ieee.mul binary32

abbrev pub ◌⊘◌ : Float → Float → Float
◌⊘◌ = Ieee.div binary32

abbrev pub ◌⊞◌ : Float → Float → Float
◌⊞◌ = Ieee.add binary64

abbrev pub ◌⊟◌ : Float → Float → Float
◌⊟◌ = Ieee.sub binary64

abbrev pub ◌⊠◌ : Float → Float → Float
◌⊠◌ = Ieee.mul binary64

abbrev pub ◌⧄◌ : Float → Float → Float
◌⧄◌ = Ieee.div binary64

-- a whole number as an f32
abbrev pub whole32 : ℕ → Float
whole32 n = Ieee.of_int binary32 (pos n)
