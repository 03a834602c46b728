-- To be believed. Versions and their sides (document 004).
use Rattle.std.specs.Prelude.{Bool, cond, not, ◌&&◌, List, [], ◌∷◌, Option, Some, None, Result, Ok, Err, ℕ, ◌+◌, ◌-◌, ◌*◌, ◌/◌, ◌%◌, leb, eqb}
use Rattle.lcr_core.specs.Outcome.{Check, first_of}
use Rattle.lcr_core.specs.declared.Refusal.{Refusal}
use Rattle.lcr_core.specs.declared.Refusal.TheVariants.{BadVersion}
use Rattle.lcr_core.specs.declared.version.Version.{Version}

-- from 1 to 64
abbrev pub valid : ℕ → Bool
valid v = leb 1 v && leb v 64

-- 7: a version outside 1 to 64
abbrev pub version_checks : ℕ → List Check
version_checks v = record { refuses = not (valid v); refusal = BadVersion } ∷ []

unfoldable pub version_refusal : ℕ → ℕ
version_refusal v = first_of (version_checks v)

-- `Version::new`
abbrev pub new_of : ℕ → Result Version Refusal
new_of v = cond (valid v) (Ok (record { 0 = v })) (Err BadVersion)

-- modules on a side
abbrev pub side_of : ℕ → ℕ
side_of v = 17 + 4 * v

-- the version whose side it is, or none
abbrev pub of_side : ℕ → Option Version
of_side s = cond (leb (side_of 1) s && leb s (side_of 64) && eqb ((s - 17) % 4) 0) (Some (record { 0 = (s - 17) / 4 })) None
