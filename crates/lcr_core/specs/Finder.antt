-- To be believed. Points and finders.
use Rattle.std.specs.Prelude.{Float}
use Rattle.float.specs.Constants.{f0}
use Rattle.lcr_core.specs.declared.point.Point.{Point}
use Rattle.lcr_core.specs.declared.finder.Finder.{Finder}

-- the finder that fills places beyond a count
abbrev pub zero_finder : Finder
zero_finder = record { x = f0; y = f0; «module» = f0; confirmations = 0 }

-- a point by its coordinates, and a finder's
abbrev pub point : Float → Float → Point
point x y = record { x = x; y = y }

abbrev pub centre_of : Finder → Point
centre_of f = point f.x f.y
