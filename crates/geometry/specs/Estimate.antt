-- To be believed. The version that three finders imply (`estimate_version`). Document 01: "a rounded value at the top of i32 gives 32". All steps are f32, in
-- the order written.
use Rattle.std.specs.Prelude.{cond, ◌||◌, ℕ, ◌+◌, min, Float, Option, Some, None}
use Rattle.std.specs.Float.Ieee.{le, to_unsigned}
use Rattle.std.specs.Float.{binary32}
use Rattle.float.specs.Floats.{round_of}
use Rattle.float.specs.Steps.{◌⊕◌, ◌⊖◌, ◌⊘◌}
use Rattle.float.specs.Constants.{f0, f2, f4, f7, f21}
use Rattle.geometry.specs.Order.{span_of}
use Rattle.lcr_core.specs.declared.finder.Finder.{Finder}
use Rattle.geometry.specs.declared.Corners.{Corners}
use Rattle.lcr_core.specs.declared.version.Version.{Version}

-- from a finder to another in modules, by the mean of their own two modules
unfoldable pub edge_of : Finder → Finder → Float
edge_of a b = span_of a b ⊘ ((a.«module» ⊕ b.«module») ⊘ f2)

-- the side in modules: the finders' centres are side - 7 apart
unfoldable pub side_in : Corners → Float
side_in c = (edge_of c.tl c.tr ⊕ edge_of c.tl c.bl) ⊘ f2 ⊕ f7

-- the version of the nearest side, from 1 to 32; what is no number counts as 0
unfoldable pub nearest_version : Float → ℕ
nearest_version side = min (to_unsigned 32 (round_of binary32 ((side ⊖ f21) ⊘ f4)) + 1) 32

-- `estimate_version`: none where a module is 0 or less
unfoldable pub estimate_of : Corners → Option Version
estimate_of c =
    cond (le c.tl.«module» f0 || le c.tr.«module» f0 || le c.bl.«module» f0) None (Some (record { 0 = nearest_version (side_in c) }))
