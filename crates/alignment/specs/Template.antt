-- To be believed. The template match. Document 01: "Sweeps of 13 × 13, 9 × 9 and 9 × 9 sites with steps 1/2, 1/8, 1/32 modules, the later two about the best
-- so far; 23 of 25 modules needed; equal scores go to the smaller squared offset, then the earlier site", and a not-a-number coordinate "reads as coordinate
-- 0". Positions are f32, in modules, in the steps of document 000.
use Rattle.std.specs.Prelude.{ℕ, ◌+◌, ◌*◌, ◌/◌, ◌%◌, max, Bool, false, not, ◌&&◌, ◌||◌, cond, List, [], ◌∷◌, eqb, ltb, Float, Option, Some, None}
use Rattle.std.specs.Bool.{beq}
use Rattle.std.specs.Float.Ieee as Ieee
use Rattle.std.specs.Float.{inf, binary32}
use Rattle.std.specs.Float.Ieee.{neg, lt, le, minus, to_unsigned}
use Rattle.lists.specs.Lists.{range, folded, sum_to, dist}
use Rattle.float.specs.Steps.{◌⊕◌, ◌⊖◌, ◌⊗◌, whole32}
use Rattle.float.specs.Constants.{f0, f1/4, f1/2, f1/8, f1/32, f6_5}
use Rattle.binary.specs.Binary.{bit, dark_at}
use Rattle.lcr_core.specs.Version.{side_of}
use Rattle.lcr_core.specs.Finder.{point}
use Rattle.transform.specs.Apply.{applied}
use Rattle.lcr_core.specs.declared.point.Point.{Point}
use Rattle.transform.specs.declared.Transform.{Transform}
use Rattle.alignment.specs.declared.template.Votes.{Votes}
use Rattle.alignment.specs.declared.template.Site.{Site}

-- ---- a module: the majority of five taps, those outside the picture left out

-- a coordinate is outside 0 .. n; a NaN is not
unfoldable pub outside_of : ℕ → Float → Bool
outside_of n x = lt x f0 || le (whole32 n) x

-- the middle of a module, and a quarter of a module to the left, right, top and bottom of it
abbrev pub taps : List Point
taps = point f0 f0 ∷ point (neg f1/4) f0 ∷ point f1/4 f0 ∷ point f0 (neg f1/4) ∷ point f0 f1/4 ∷ []

-- the votes before the first tap
abbrev pub no_votes : Votes
no_votes = record { seen = 0; dark = 0 }

module _ (bits : List ℕ) (w h : ℕ) where
  -- the pixel at p, 1 for dark; a NaN's coordinate is 0
  unfoldable pub pixel_at : Point → ℕ
  pixel_at p = bit (dark_at bits w h (to_unsigned 32 p.x) (to_unsigned 32 p.y))

  -- the votes v after one tap more, at p, which counts if it is in the picture
  unfoldable pub tapped : Votes → Point → Votes
  tapped v p = cond (outside_of w p.x || outside_of h p.y) v (record { seen = v.seen + 1; dark = v.dark + pixel_at p })

  module _ (t : Transform) where
    -- the votes v after one tap more, at an offset of o modules from module (x, y)
    abbrev pub tap_by : Float → Float → Votes → Point → Votes
    tap_by x y v o = tapped v (applied t (x ⊕ o.x) (y ⊕ o.y))

    -- more than half of the taps seen are dark
    unfoldable pub module_dark : Float → Float → Bool
    module_dark x y = let v = folded (tap_by x y) no_votes taps in ltb v.seen (v.dark * 2)

-- ---- the marker: 5 × 5 modules, dark but for the ring about the middle one

-- whether the module in column i and row j is dark
unfoldable pub want_dark : ℕ → ℕ → Bool
want_dark i j = not (eqb (max (dist i 2) (dist j 2)) 1)

-- k - n as an f32
unfoldable pub signed32 : ℕ → ℕ → Float
signed32 k n = Ieee.of_int binary32 (minus k n)

module _ (bits : List ℕ) (w h : ℕ) (t : Transform) where
  -- 1 where module k of the marker centred at (x, y), in column k % 5 and row k / 5, has its colour
  unfoldable pub agree : Float → Float → ℕ → ℕ
  agree x y k =
      let i = k % 5 in
      let j = k / 5 in
      bit (beq (module_dark bits w h t (x ⊕ signed32 i 2) (y ⊕ signed32 j 2)) (want_dark i j))

  -- how many of the 25 modules have theirs
  unfoldable pub template_score : Float → Float → ℕ
  template_score x y = sum_to 25 (agree x y)

  -- the site at offset (x, y) from the predicted centre (c, c)
  unfoldable pub site_at : Float → Float → Float → Site
  site_at c x y = record { score = template_score (c ⊕ x) (c ⊕ y); offset2 = x ⊗ x ⊕ y ⊗ y; x = x; y = y }

-- ---- the best site

-- by a higher score, or an equal one and a smaller squared offset
unfoldable pub beats : Site → Site → Bool
beats s best = ltb best.score s.score || (eqb s.score best.score && lt s.offset2 best.offset2)

-- the site s where it beats the best of the earlier ones, which otherwise stays
unfoldable pub better_of : Site → Site → Site
better_of best s = cond (beats s best) s best

-- place i of m places, step apart, about a
abbrev pub along : ℕ → Float → Float → ℕ → Float
along m step a i = a ⊕ signed32 i (m / 2) ⊗ step

-- what the first sweep starts from: any site at a finite offset beats it
abbrev pub no_site : Site
no_site = record { score = 0; offset2 = inf false; x = f0; y = f0 }

-- about the predicted centre (c, c)
module _ (bits : List ℕ) (w h : ℕ) (t : Transform) (c : Float) where
  -- site k of m × m sites about (x, y), in column k % m and row k / m
  abbrev pub site_of : ℕ → Float → Float → Float → ℕ → Site
  site_of m step x y k = site_at bits w h t c (along m step x (k % m)) (along m step y (k / m))

  -- the better of the best so far and site k
  abbrev pub better_at : ℕ → Float → Float → Float → Site → ℕ → Site
  better_at m step x y best k = better_of best (site_of m step x y k)

  -- a sweep about the best site so far
  unfoldable pub sweep_best : ℕ → Float → Site → Site
  sweep_best m step best = folded (better_at m step best.x best.y) best (range 0 (m * m))

  -- the three sweeps
  unfoldable pub best_of : Site
  best_of = sweep_best 9 f1/32 (sweep_best 9 f1/8 (sweep_best 13 f1/2 no_site))

-- ---- the marker

-- its centre, which is its x and its y: 6.5 modules from the far sides
unfoldable pub marker_centre : ℕ → Float
marker_centre version = whole32 (side_of version) ⊖ f6_5

-- none below version 2, and none where fewer than 23 modules agree
unfoldable pub matched_of : List ℕ → ℕ → ℕ → Transform → ℕ → Option Point
matched_of bits w h t version =
    let c = marker_centre version in
    let s = best_of bits w h t c in
    cond (ltb version 2 || ltb s.score 23) None (Some (applied t (c ⊕ s.x) (c ⊕ s.y)))
