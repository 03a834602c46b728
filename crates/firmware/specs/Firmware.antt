-- To be believed. The detections as the unit's firmware takes them (document 01, last section): "little-endian: their count in one byte, then for each 122
-- bytes: x, y, module, confirmations of its three finders (four bytes each), version, marker flag 1 or 0 (one byte each), marker x and y (four bytes each, 0
-- without a marker), the eight transform numbers (eight bytes each). Places of missing detections, up to three, are zero."
use Rattle.std.specs.Prelude.{ℕ, ◌+◌, ◌*◌, List, [], ◌∷◌, ◌++◌, get_or, Float, Option, Some, None}
use Rattle.std.specs.Float.{nan}
use Rattle.lists.specs.Lists.{tabulate, flat_map}
use Rattle.little_endian.specs.Bytes.{bytes_le, single_bytes, double_bytes}
use Rattle.transform.specs.declared.Transform.{Transform}
use Rattle.lcr_core.specs.declared.finder.Finder.{Finder}
use Rattle.candidates.specs.declared.Detection.{Detection}
use Rattle.candidates.specs.declared.Detections.{Detections}
use Rattle.lcr_core.specs.declared.point.Point.{Point}

-- a finder: x, y, module, confirmations
unfoldable pub finder_bytes : Finder → List ℕ
finder_bytes f = single_bytes f.x ++ (single_bytes f.y ++ (single_bytes f.«module» ++ bytes_le 4 f.confirmations))

-- a marker, if there is one: the marker flag, and then x and y
abbrev pub marker_bytes : Option Point → List ℕ
marker_bytes (Some p) = 1 ∷ (single_bytes p.x ++ single_bytes p.y)
marker_bytes None = 0 ∷ (bytes_le 4 0 ++ bytes_le 4 0)

-- the eight transform numbers
abbrev pub eight_numbers : Transform → List Float
eight_numbers t = tabulate 8 (λ i. get_or t.m i nan)

-- a transform: they alone, eight bytes each, and no lens terms
abbrev pub transform_bytes : Transform → List ℕ
transform_bytes t = flat_map double_bytes (eight_numbers t)

-- a detection: its three finders, its version, its marker and its transform
unfoldable pub detection_bytes : Detection → List ℕ
detection_bytes d =
    let c = d.finders in
    finder_bytes c.tl ++ (finder_bytes c.tr ++ (finder_bytes c.bl ++ ((d.version.0 ∷ []) ++ (marker_bytes d.marker ++ transform_bytes d.transform))))

-- how many bytes a detection has
abbrev pub detection_size : ℕ
detection_size = 122

-- the count in one byte, and the three places of the table, which are zero from the count on
unfoldable pub firmware_bytes : Detections → List ℕ
firmware_bytes t = bytes_le 1 t.count ++ flat_map detection_bytes t.at

-- how many bytes that are: 367
abbrev pub firmware_size : ℕ
firmware_size = 1 + 3 * detection_size
