-- To be believed. Colours of 8 bits a channel (`Srgb8` of document 006).
use Rattle.std.specs.Prelude.{ℕ, ◌+◌, ◌*◌, ◌/◌, ◌%◌, Float}
use Rattle.float.specs.Steps.{◌⊕◌, ◌⊗◌, whole32}
use Rattle.float.specs.Constants.{f0_2126, f0_7152, f0_0722}
use Rattle.lcr_core.specs.declared.color.Srgb8.{Srgb8}

-- 0xRRGGBB
abbrev pub hex_of : Srgb8 → ℕ
hex_of c = c.r * 65536 + c.g * 256 + c.b

-- the colour of a number's low 24 bits
abbrev pub of_hex : ℕ → Srgb8
of_hex n = record { r = n / 65536 % 256; g = n / 256 % 256; b = n % 256 }

-- Rec. 709 luma, in f32 steps
abbrev pub luma_of : Srgb8 → Float
luma_of c = f0_2126 ⊗ whole32 c.r ⊕ f0_7152 ⊗ whole32 c.g ⊕ f0_0722 ⊗ whole32 c.b
