-- To be believed. Where a transform takes a point (document 02, N12: through the lens too), distances, and the module pitch.
use Rattle.std.specs.Prelude.{ℕ, ◌-◌, false, cond, List, slice_index_or, Float}
use Rattle.std.specs.Float.{nan, inf, binary32}
use Rattle.std.specs.Float.Ieee.{lt, eq}
use Rattle.float.specs.Floats.{abs_of, narrow_of, sqrt_of, min_of, max_of}
use Rattle.float.specs.Steps.{◌⊕◌, ◌⊖◌, ◌⊗◌, whole32, ◌⊞◌, ◌⊟◌, ◌⊠◌, ◌⧄◌}
use Rattle.float.specs.Constants.{f0, f1/2, f1_5, d0, d1, d1e_9}
use Rattle.transform.specs.Fit.{widened}
use Rattle.lcr_core.specs.declared.point.Point.{Point}
use Rattle.transform.specs.declared.Wide.{Wide}
use Rattle.transform.specs.declared.Transform.{Transform}
use Rattle.transform.specs.declared.Pitches.{Pitches}

-- ---- in f64

-- a u + b v + c
unfoldable pub linear_of : Float → Float → Float → Wide → Float
linear_of a b c p = a ⊠ p.x ⊞ b ⊠ p.y ⊞ c

-- a divisor less than 1e-9 from 0 is 1e-9
unfoldable pub apart_of : Float → Float
apart_of w = cond (lt (abs_of w) d1e_9) d1e_9 w

-- ((m0 u + m1 v + m2) / w, (m3 u + m4 v + m5) / w) with w = m6 u + m7 v + 1, kept apart from 0
unfoldable pub projected : List Float → Wide → Wide
projected ms p =
    let m : ℕ → Float = λ i. slice_index_or ms i nan in
    let w = apart_of (linear_of (m 6) (m 7) d1 p) in
    record { x = linear_of (m 0) (m 1) (m 2) p ⧄ w; y = linear_of (m 3) (m 4) (m 5) p ⧄ w }

-- the nearest f32 of both
unfoldable pub narrowed : Wide → Point
narrowed p = record { x = narrow_of p.x; y = narrow_of p.y }

-- where eight numbers without a lens take (u, v)
unfoldable pub placed : List Float → Float → Float → Point
placed m u v = narrowed (projected m (widened (record { x = u; y = v })))

-- ---- the lens

-- from its centre (cx, cy) to p
abbrev pub offset_of : Wide → Float → Float → Wide
offset_of p cx cy = record { x = p.x ⊟ cx; y = p.y ⊟ cy }

-- one round, with its strength k: u / (1 + k (d.x d.x + d.y d.y)), whatever the divisor
unfoldable pub divided : Float → Wide → Wide → Wide
divided k u d =
    let s = d1 ⊞ k ⊠ (d.x ⊠ d.x ⊞ d.y ⊠ d.y) in
    record { x = u.x ⧄ s; y = u.y ⧄ s }

-- through it: four rounds of the division, the first from the offset u itself; the narrowing last
unfoldable pub bent : Transform → Wide → Point
bent t p =
    let u = offset_of p t.cx t.cy in
    let round : Wide → Wide = divided t.strength u in
    let d = round (round (round (round u))) in
    record { x = narrow_of (t.cx ⊞ d.x); y = narrow_of (t.cy ⊞ d.y) }

-- `apply`: without the lens where its strength equals 0, as -0.0 does and a not-a-number doesn't
unfoldable pub applied : Transform → Float → Float → Point
applied t u v = cond (eq t.strength d0) (placed t.m u v) (bent t (projected t.m (widened (record { x = u; y = v }))))

-- `with_radial`: the eight numbers with such a lens; an f32 is an f64 as it stands
abbrev pub with_radial : Transform → Float → Float → Float → Transform
with_radial t cx cy strength = record { m = t.m; cx = cx; cy = cy; strength = strength }

-- ---- in f32

-- the point at offsets dx and dy from the corner of module (x, y)
unfoldable pub in_module : Transform → ℕ → ℕ → Float → Float → Point
in_module t x y dx dy = applied t (whole32 x ⊕ dx) (whole32 y ⊕ dy)

-- `module_center`
unfoldable pub center_of : Transform → ℕ → ℕ → Point
center_of t x y = in_module t x y f1/2 f1/2

-- the squared distance
unfoldable pub distance2_of : Point → Point → Float
distance2_of p q = (p.x ⊖ q.x) ⊗ (p.x ⊖ q.x) ⊕ (p.y ⊖ q.y) ⊗ (p.y ⊖ q.y)

-- from p to q: the steps subtract p's coordinates from q's
unfoldable pub distance_of : Point → Point → Float
distance_of p q = sqrt_of binary32 (distance2_of q p)

-- `local_pitch`: half the sum of the distances from the centre of module (x, y) to the next one's on the right and below
unfoldable pub pitch_at : Transform → ℕ → ℕ → Float
pitch_at t x y =
    let c = center_of t x y in
    f1/2 ⊗ (distance_of c (in_module t x y f1_5 f1/2) ⊕ distance_of c (in_module t x y f1/2 f1_5))

-- `pitch_range`: the least and the greatest pitch of the corners, two modules in from the far edges
unfoldable pub pitches_of : Transform → ℕ → Pitches
pitches_of t side =
    let far = side - 2 in
    let a = pitch_at t 0 0 in
    let b = pitch_at t far 0 in
    let c = pitch_at t 0 far in
    let d = pitch_at t far far in
    record { least = min_of (min_of (min_of (min_of (inf false) a) b) c) d; greatest = max_of (max_of (max_of (max_of f0 a) b) c) d }
