-- The column of a dark pixel. Assumes nothing.
use Rattle.std.proofs.lemmas.Bool.{and_parts}
use mathlib.Core.Path.{◌≡◌, sym, ◌∙◌}
use mathlib.Core.Bool.{Bool, true, ◌&&◌}
use mathlib.Core.List.{List}
use Prim.Native.Nat.{ℕ, ◌+◌, ◌*◌, ◌<◌}
use lib.Dec.{ltb}
use borrow.Author.Tests.{ltb-true}
use Rattle.binary.specs.Binary.{dark_bit, dark_at}

-- it lies in the picture
pub dark_within : (b : List ℕ) (w h x y : ℕ) (d : Bool) → d ≡ dark_at b w h x y → d ≡ true → x < w
unfolding dark_at
dark_within b w h x y d e t = ltb-true x w (and_parts (ltb x w) (ltb y h) (and_parts (ltb x w && ltb y h) (dark_bit b (y * w + x)) (sym e ∙ t)).0).0
