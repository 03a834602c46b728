-- A number of one byte is that byte. Assumes nothing.
use mathlib.Core.Path.{◌≡◌}
use mathlib.Core.List.{List}
use Prim.Native.Nat.{ℕ, ◌%◌, ◌<◌}
use native.Mathlib.Omega.{arith}
use lib.ListN.{get_or, set}
use Rattle.little_endian.specs.Bytes.{bytes_le, read_le, put}

pub read_one : (l : List ℕ) (i : ℕ) → read_le 1 l i ≡ get_or l i 0
unfolding read_le
read_one l i = omega arith

pub put_one : (b i : ℕ) (l : List ℕ) → b < 256 → put (bytes_le 1 b) i l ≡ set l i b
unfolding bytes_le put
put_one b i l h = let e : b % 256 ≡ b = omega arith in rw e
