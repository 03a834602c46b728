-- To be believed. Gray conversion (document 01: refusal 3; "Gray conversion: 1, 2, 3, then 4 .., then 5 .."; "gray pixels keep their value"; document 02, N3:
-- "the nearest whole number, halves up: (54 r + 183 g + 19 b + 128) / 256, rounded down").
use Rattle.std.specs.Prelude.{ℕ, ◌+◌, ◌-◌, ◌*◌, ◌/◌, ◌%◌, Bool, true, false, cond, ◌||◌, List, [], ◌∷◌, get_or, length, eqb, ltb, Option, Some, None, ◌++◌}
use Rattle.lists.specs.Lists.{filled}
use Rattle.lcr_core.specs.Outcome.{Check, first_of, if_refused, side_checks}
use Rattle.lcr_core.specs.declared.Refusal.TheVariants.{UnknownFormat, ShortPicture, ShortOutput}
use Rattle.gray.specs.declared.format.PixelFormat.{PixelFormat}
use Rattle.gray.specs.declared.format.PixelFormat.TheVariants.{Gray8, Rgb8, Rgba8}

-- the formats there are
abbrev pub formats : List PixelFormat
formats = Gray8 ∷ Rgb8 ∷ Rgba8 ∷ []

-- the byte of each, which is also the number of bytes of a pixel
abbrev pub channels_of : PixelFormat → ℕ
channels_of Gray8 = 1
channels_of Rgb8 = 3
channels_of Rgba8 = 4

-- the one whose byte it is, or none
abbrev pub among : List PixelFormat → ℕ → Option PixelFormat
among [] byte = None
among (f ∷ fs) byte = cond (eqb byte (channels_of f)) (Some f) (among fs byte)

-- of those there are
abbrev pub of_byte : ℕ → Option PixelFormat
of_byte byte = among formats byte

-- whether there is none
abbrev pub is_nothing : Option PixelFormat → Bool
is_nothing (Some f) = false
is_nothing None = true

-- 3: the byte of no format
unfoldable pub unknown_format : ℕ → Bool
unknown_format byte = is_nothing (of_byte byte)

-- 4: the stride s is below width × channels, or the bytes are fewer than (height - 1) × stride + width × channels
unfoldable pub short_picture : ℕ → ℕ → ℕ → ℕ → ℕ → Bool
short_picture len w h s channels = ltb s (w * channels) || ltb len ((h - 1) * s + w * channels)

-- what is refused of len bytes with format byte f, with room bytes for the result: 1, 2, 3, 4, 5, in this order
abbrev pub gray_checks : ℕ → ℕ → ℕ → ℕ → ℕ → ℕ → List Check
gray_checks len w h s f room =
    side_checks w h
    ++ (record { refuses = unknown_format f; refusal = UnknownFormat }
    ∷ record { refuses = short_picture len w h s f; refusal = ShortPicture }
    ∷ record { refuses = ltb room (w * h); refusal = ShortOutput }
    ∷ [])

-- the number of the first that refuses
unfoldable pub gray_refusal : ℕ → ℕ → ℕ → ℕ → ℕ → ℕ → ℕ
gray_refusal len w h s f room = first_of (gray_checks len w h s f room)

-- the gray value of a colour, to the nearest
abbrev pub gray_rule : ℕ → ℕ → ℕ → ℕ
gray_rule r g b = (54 * r + 183 * g + 19 * b + 128) / 256

-- that of the pixel with format byte f whose first byte stands at i: a gray pixel keeps its value
unfoldable pub gray_of : List ℕ → ℕ → ℕ → ℕ
gray_of p f i = cond (eqb f (channels_of Gray8)) (get_or p i 0) (gray_rule (get_or p i 0) (get_or p (i + 1) 0) (get_or p (i + 2) 0))

-- that of pixel number n, which is y × width + x
unfoldable pub gray_at : List ℕ → ℕ → ℕ → ℕ → ℕ → ℕ
gray_at p w s f n = gray_of p f (n / w * s + n % w * f)

-- what stands in the output afterwards: the gray values of all pixels and the rest as it was, or after a refusal all as it was
unfoldable pub gray_written : List ℕ → ℕ → ℕ → ℕ → ℕ → List ℕ → List ℕ
gray_written p w h s f old = if_refused (gray_refusal (length p) w h s f (length old)) old (filled (w * h) (gray_at p w s f) old)
