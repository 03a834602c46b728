-- For inner contracts and proofs. What is known where the checks pass.
use Rattle.std.specs.Prelude.{ℕ, ◌+◌, ◌-◌, ◌*◌, ◌^◌, ◌≤◌, ◌<◌, ◌≡◌, ◌⊎◌}
use Rattle.lcr_core.specs.Passed.{Sides}

-- a pixel of one byte, of three or of four
abbrev pub KnownFormat : ℕ → Type 0
KnownFormat f = (f ≡ 1) ⊎ (f ≡ 3) ⊎ (f ≡ 4)

pub record GrayPassed (len w h s f room : ℕ) : Type 0 where
  pub sides : Sides w h
  pub format : KnownFormat f
  pub stride : s < 2 ^ 32
  pub rows : w * f ≤ s
  pub bytes : (h - 1) * s + w * f ≤ len
  pub fits : w * h ≤ room
