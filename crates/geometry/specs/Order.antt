-- To be believed. What three finders say of the symbol (of document 000). Here: which is which (`order_finders`). Score.antt: what puts a triple out, and its
-- score; Estimate.antt: the version; Build.antt: the transform. Document 01: "`order_finders`, `estimate_version` .. refuse nothing; "none" is their answer
-- where the Rust gives `None`. Floats handed in may be any." All steps are f32, in the order written.
use Rattle.std.specs.Prelude.{Bool, cond, ◌&&◌, Float}
use Rattle.std.specs.Float.Ieee.{lt, le}
use Rattle.float.specs.Steps.{◌⊖◌, ◌⊗◌}
use Rattle.float.specs.Constants.{f0}
use Rattle.transform.specs.Apply.{distance2_of, distance_of}
use Rattle.lcr_core.specs.Finder.{centre_of}
use Rattle.lcr_core.specs.declared.finder.Finder.{Finder}
use Rattle.geometry.specs.declared.Corners.{Corners}

-- from a finder's centre to another's, and the square of such a distance
abbrev pub span_of : Finder → Finder → Float
span_of a b = distance_of (centre_of a) (centre_of b)

abbrev pub span2_of : Finder → Finder → Float
span2_of a b = distance2_of (centre_of a) (centre_of b)

-- which of p and q is top right, by the sign of the cross product at the corner c
unfoldable pub turned_of : Finder → Finder → Finder → Corners
turned_of c p q =
    cond (lt f0 ((p.x ⊖ c.x) ⊗ (q.y ⊖ c.y) ⊖ (p.y ⊖ c.y) ⊗ (q.x ⊖ c.x)))
    (record { tl = c; tr = p; bl = q })
    (record { tl = c; tr = q; bl = p })

-- x is no shorter than y and z
abbrev pub is_longest : Float → Float → Float → Bool
is_longest x y z = le y x && le z x

-- `order_finders`: the corner is the finder opposite the longest side, the first of ab, bc, ca that is no shorter than the others, else ca
unfoldable pub order_of : Finder → Finder → Finder → Corners
order_of a b c =
    let ab = span2_of a b in
    let bc = span2_of b c in
    let ca = span2_of c a in
    cond (is_longest ab bc ca) (turned_of c a b) (cond (is_longest bc ab ca) (turned_of a b c) (turned_of b c a))
