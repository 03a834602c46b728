-- For inner contracts and proofs. What is known where the checks pass.
use Rattle.std.specs.Prelude.{ℕ, ◌*◌, ◌≤◌}
use Rattle.lcr_core.specs.Passed.{Sides}
use Rattle.binary.specs.Binary.{bytes_of}

pub record DenoisedPassed (len w h room : ℕ) : Type 0 where
  pub sides : Sides w h
  pub bytes : bytes_of (w * h) ≤ len
  pub fits : bytes_of (w * h) ≤ room
