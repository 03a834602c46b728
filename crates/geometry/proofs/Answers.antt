-- The answers put together, from the values that the calls gave. Assumes nothing.
use Rattle.std.proofs.lemmas.Bool.{or_right}
use Rattle.std.specs.Option.{option_or}
use Rattle.std.specs.Prelude.{Some, None, Option, MatchOption, Ok, Err}
use mathlib.Core.Path.{◌≡◌, refl}
use mathlib.Core.Bool.{Bool, true, false, cond, ◌||◌}
use Prim.Native.Nat.{ℕ, ◌+◌, ◌≤◌, ◌<◌, min}
use native.Mathlib.Omega.{arith}
use lib.Ieee.{Float, le, to_unsigned, binary32}
use borrow.Author.Tests.{lt-ltb, le-ltb}
use Rattle.float.specs.Floats.{round_of}
use Rattle.float.specs.Steps.{◌⊖◌, ◌⊘◌, whole32}
use Rattle.float.specs.Constants.{f0, f4, f6_5, f21}
use Rattle.lcr_core.specs.declared.point.Point.{Point}
use Rattle.transform.specs.declared.Triangle.{Triangle}
use Rattle.transform.specs.declared.Transform.{Transform}
use Rattle.transform.specs.Fit.{quad_fit}
use Rattle.lcr_core.specs.declared.Refusal.TheVariants.{BadVersion}
use Rattle.lcr_core.specs.Version.{valid, new_of, side_of}
use Rattle.lcr_core.specs.declared.version.Version.{Version}
use Rattle.lcr_core.specs.Finder.{point}
use Rattle.geometry.specs.Estimate.{side_in, nearest_version, estimate_of}
use Rattle.geometry.specs.Build.{modules_of, pixels_of, affine_of, homography_of, symbol_fit}
use Rattle.geometry.specs.declared.Corners.{Corners}

-- ---- the version
module _ (side r : Float) (n : ℕ) (e : r ≡ round_of binary32 ((side ⊖ f21) ⊘ f4)) (g : n ≡ to_unsigned 32 r) where
  nearest-is : nearest_version side ≡ min (n + 1) 32
  unfolding nearest_version
  nearest-is = cc

  pub version-in : n < 32 → n + 1 ≡ nearest_version side
  version-in h = omega (arith, nearest-is)

  pub version-top : 32 ≤ n → 32 ≡ nearest_version side
  version-top h = omega (arith, nearest-is)

module _ (c : Corners) where
  pub small-tl : le c.tl.«module» f0 ≡ true → None ≡ estimate_of c
  unfolding estimate_of
  small-tl h = rw h

  pub small-tr : le c.tr.«module» f0 ≡ true → None ≡ estimate_of c
  unfolding estimate_of
  small-tr h = rw (or_right (le c.tl.«module» f0) (le c.tr.«module» f0) h)

  pub small-bl : le c.bl.«module» f0 ≡ true → None ≡ estimate_of c
  unfolding estimate_of
  small-bl h = rw (or_right (le c.tl.«module» f0 || le c.tr.«module» f0) (le c.bl.«module» f0) h)

  pub estimated : (s : Float) (n : ℕ) → le c.tl.«module» f0 ≡ false → le c.tr.«module» f0 ≡ false → le c.bl.«module» f0 ≡ false
      → s ≡ side_in c → n ≡ nearest_version s → Some (record { 0 = n }) ≡ estimate_of c
  unfolding estimate_of
  estimated s n f g h e k = rw (f, g, h, k, e)

-- ---- the transform
module _ (c : Corners) (m : Option Point) (a : Point) (v side : ℕ) (f h : Option Transform) (e : m ≡ Some a) (s : side ≡ side_of v) (k : f ≡ affine_of c (whole32 side)) (l : h ≡ homography_of c a (whole32 side)) where
  pub fit-first : v < 2 → f ≡ symbol_fit c m v
  unfolding symbol_fit
  fit-first g = rw (e, lt-ltb v 2 g, k, s)

  pub fit-second : 2 ≤ v → option_or h f ≡ symbol_fit c m v
  unfolding symbol_fit
  fit-second g = rw (e, le-ltb v 2 g, k, l, s)

-- what `Option::or_else` gives
pub or_else-is : (h f r : Option Transform) → MatchOption h (r ≡ f) (λ t. r ≡ Some t) → r ≡ option_or h f
or_else-is None f r e = e
or_else-is (Some t) f r e = e

pub homography-is : (c : Corners) (m : Point) (side : Float) (s d : Triangle) (r : Option Transform) → s ≡ modules_of side → d ≡ pixels_of c
    → r ≡ quad_fit (record { a = s.a; b = s.b; c = s.c; d = point (side ⊖ f6_5) (side ⊖ f6_5) }) (record { a = d.a; b = d.b; c = d.c; d = m }) → r ≡ homography_of c m side
unfolding homography_of
homography-is c m side s d r e g h = cc

pub fit-missing : (c : Corners) (m : Option Point) (v side : ℕ) (f : Option Transform) → m ≡ None → side ≡ side_of v → f ≡ affine_of c (whole32 side) → f ≡ symbol_fit c m v
unfolding symbol_fit
fit-missing c m v side f e s k = rw (e, k, s)

-- a valid version is answered as it is
pub same_version : (v : ℕ) (w : Version) → Ok w ≡ new_of v → w.0 ≡ v
same_version v w e = go (valid v) e
  where
    go : (b : Bool) → Ok w ≡ cond b (Ok (record { 0 = v })) (Err BadVersion) → w.0 ≡ v
    go true k = cc
    go false k = let z : ◌≡◌ {A = ℕ} 0 1 = cc in absurd (omega arith)
