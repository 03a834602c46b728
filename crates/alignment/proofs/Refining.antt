-- The transform that refining rebuilds, or keeps. Assumes nothing.
use Rattle.std.specs.Prelude.{Option, None, Result, unwrap_or}
use Rattle.std.specs.Result.{result_unwrap_or}
use Rattle.lcr_core.specs.declared.Refusal.{Refusal}
use Rattle.std.specs.Option.{is_some}
use mathlib.Core.Path.{◌≡◌}
use mathlib.Core.Bool.{true, false}
use Prim.Native.Nat.{ℕ}
use Rattle.transform.specs.declared.Transform.{Transform}
use Rattle.geometry.specs.Build.{built_of}
use Rattle.geometry.specs.declared.Corners.{Corners}
use Rattle.alignment.specs.Alignment.{rebuilt_of}
use Rattle.lcr_core.specs.declared.point.Point.{Point}

module _ (corners : Corners) (a : Option Point) (v : ℕ) (t : Transform) where
  pub rebuilt_found : (b : Result (Option Transform) Refusal) (f : Option Transform) (r : Transform) → b ≡ built_of corners a v → is_some a ≡ true → f ≡ result_unwrap_or b None → r ≡ unwrap_or f t
      → r ≡ rebuilt_of corners a v t
  unfolding rebuilt_of
  rebuilt_found b f r q e g h = rw (e, ← q, ← g, h)

  pub rebuilt_missing : is_some a ≡ false → t ≡ rebuilt_of corners a v t
  unfolding rebuilt_of
  rebuilt_missing e = rw e
