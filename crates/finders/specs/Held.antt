-- To be believed. The finders held so far, and what one more confirmed hit does to them (document 01, "Finding and ranking": "A hit joins the first held
-- finder whose own module bounds both coordinate distances, equality included, as running means in f32; else it is added to a table").
use Rattle.std.specs.Prelude.{ℕ, ◌+◌, Bool, cond, ◌&&◌, List, [], ◌∷◌, length, nat_le, Float}
use Rattle.std.specs.Float.Ieee.{le}
use Rattle.float.specs.Floats.{abs_of}
use Rattle.float.specs.Steps.{◌⊕◌, ◌⊖◌, ◌⊗◌, ◌⊘◌, whole32}
use Rattle.float.specs.Constants.{f1}
use Rattle.lcr_core.specs.declared.finder.Finder.{Finder}

-- a confirmed hit
pub record Sighting : Type 0 where
  pub x : Float
  pub y : Float
  pub «module» : Float

-- the finder's own module bounds both distances, equality included
abbrev pub within : Float → Float → Finder → Bool
within x y f = le (abs_of (f.x ⊖ x)) f.«module» && le (abs_of (f.y ⊖ y)) f.«module»

-- n values of mean a, and one more, b
abbrev pub running_mean : Float → Float → Float → Float
running_mean n a b = (a ⊗ n ⊕ b) ⊘ (n ⊕ f1)

-- the running means
unfoldable pub join : Float → Float → Float → Finder → Finder
join x y m f =
    let n = whole32 f.confirmations in
    record { x = running_mean n f.x x; y = running_mean n f.y y; «module» = running_mean n f.«module» m; confirmations = f.confirmations + 1 }

-- a finder seen once
abbrev pub fresh : Sighting → Finder
fresh s = record { x = s.x; y = s.y; «module» = s.«module»; confirmations = 1 }

-- the first finder that it is within takes the hit; where there is none, it comes last
unfoldable pub place : List Finder → Sighting → List Finder
place [] s = fresh s ∷ []
place (f ∷ fs) s = cond (within s.x s.y f) (join s.x s.y s.«module» f ∷ fs) (f ∷ place fs s)

-- the finders in discovery order, or one more than there are places
pub data Held : Type 0 where
  held : List Finder → Held
  over : Held

-- after one more hit, in a table of so many places
unfoldable pub merge : ℕ → List Finder → Sighting → Held
merge limit fs s = cond (nat_le (length (place fs s)) limit) (held (place fs s)) over

-- the same, where there may have been one finder too many before
abbrev pub merge_next : ℕ → Held → Sighting → Held
merge_next limit over s = over
merge_next limit (held fs) s = merge limit fs s
