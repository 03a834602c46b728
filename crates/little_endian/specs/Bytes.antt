-- To be believed. Numbers as bytes, the lowest first, as the stored list and the firmware's detections have them (document 01).
use Rattle.std.specs.Prelude.{ℕ, zero, suc, ◌+◌, ◌*◌, ◌/◌, ◌%◌, List, [], ◌∷◌, get_or, set, Float}
use Rattle.std.specs.Float.{binary32, binary64}
use Rattle.std.specs.Float.Ieee.{to_bits}

-- the k lowest bytes of n
unfoldable pub bytes_le : ℕ → ℕ → List ℕ
bytes_le zero n = []
bytes_le (suc k) n = n % 256 ∷ bytes_le k (n / 256)

-- an f32 by its bits, in four bytes
abbrev pub single_bytes : Float → List ℕ
single_bytes x = bytes_le 4 (to_bits binary32 x)

-- an f64 by its bits, in eight bytes
abbrev pub double_bytes : Float → List ℕ
double_bytes x = bytes_le 8 (to_bits binary64 x)

-- the number of the k bytes from place i on; a byte beyond the list is 0
unfoldable pub read_le : ℕ → List ℕ → ℕ → ℕ
read_le zero l i = 0
read_le (suc k) l i = get_or l i 0 + 256 * read_le k l (i + 1)

-- bytes put into a list from place i on; what would stand beyond it is left out
unfoldable pub put : List ℕ → ℕ → List ℕ → List ℕ
put [] i l = l
put (b ∷ bs) i l = put bs (i + 1) (set l i b)
