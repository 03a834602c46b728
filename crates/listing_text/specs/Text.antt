-- To be believed. Numbers and lines as text, each character by its ASCII code. Document 01, the listing program: module "as eight hexadecimal digits,
-- confirmations in decimal"; "transform numbers of sixteen hexadecimal digits"; "Fields are parted by one space; hexadecimal digits are lower case; alignment
-- x and y have eight of them, a missing alignment is one `-`, and version, sides and counts are decimal".
use Rattle.std.specs.Prelude.{ℕ, zero, suc, ◌/◌, ◌%◌, cond, List, [], ◌∷◌, ◌++◌, ltb, Float}
use Rattle.std.specs.Float.{binary32, binary64}
use Rattle.std.specs.Float.Ieee.{to_bits}
use Rattle.io.specs.Digits.{hex_digit_ascii, last_digits}

-- the character between two fields
abbrev pub space : ℕ
space = 32

-- the character at a line's end
abbrev pub line_feed : ℕ
line_feed = 10

-- the last k hexadecimal digits of n, the highest first, `0` to `9` and `a` to `f`
unfoldable pub hex_text : ℕ → ℕ → List ℕ
hex_text k n = last_digits 16 k n

-- the decimal digits of n, which has k at most: the last one, behind those of n / 10 where n is over 9
unfoldable pub decimal_up_to : ℕ → ℕ → List ℕ
decimal_up_to zero n = []
decimal_up_to (suc k) n = cond (ltb n 10) [] (decimal_up_to k (n / 10)) ++ (hex_digit_ascii (n % 10) ∷ [])

-- a number in decimal, without leading zeros; one of 64 bits has twenty digits at most
abbrev pub decimal_text : ℕ → List ℕ
decimal_text n = decimal_up_to 20 n

-- an f32: its bits as eight hexadecimal digits
abbrev pub single_text : Float → List ℕ
single_text x = hex_text 8 (to_bits binary32 x)

-- an f64: its bits as sixteen
abbrev pub double_text : Float → List ℕ
double_text x = hex_text 16 (to_bits binary64 x)

-- `-`
abbrev pub dash : List ℕ
dash = 45 ∷ []

-- a line: its fields parted by one space, and a line feed
unfoldable pub line_text : List (List ℕ) → List ℕ
line_text [] = line_feed ∷ []
line_text (f ∷ []) = f ++ (line_feed ∷ [])
line_text (f ∷ g ∷ rest) = f ++ (space ∷ line_text (g ∷ rest))
