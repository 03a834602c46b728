-- For inner contracts and proofs. What is known where the checks of the sides pass.
use Rattle.std.specs.Prelude.{ℕ, ◌≤◌, ◌<◌}
use Rattle.lcr_core.specs.Outcome.{max_side}

pub record Sides (w h : ℕ) : Type 0 where
  pub w_pos : 0 < w
  pub h_pos : 0 < h
  pub w_most : w ≤ max_side
  pub h_most : h ≤ max_side
