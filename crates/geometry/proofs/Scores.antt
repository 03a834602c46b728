-- The order of three finders and the rules on them, as the code's tests find them. Assumes nothing.
use Rattle.std.proofs.lemmas.Bool.{or_right}
use Rattle.std.specs.Prelude.{Option, Some, None}
use mathlib.Core.Path.{◌≡◌}
use mathlib.Core.Bool.{Bool, true, false}
use lib.Ieee.{Float, lt, ne}
use Rattle.float.specs.Floats.{is_number, abs_of, max_of}
use Rattle.float.specs.Steps.{◌⊕◌, ◌⊖◌, ◌⊗◌, ◌⊘◌}
use Rattle.float.specs.Constants.{f0_7, f1, f1_6}
use Rattle.geometry.specs.Order.{span2_of, is_longest, turned_of, order_of}
use Rattle.geometry.specs.Score.{out_by_pitch, right_leg, down_leg, dot_of, cosine_of, ratio_of, out_by_edge, out_by_angle, out_by_ratio, corner_score, admissible_corners, score_of, admissible, score_if}
use Rattle.lcr_core.specs.declared.finder.Finder.{Finder}
use Rattle.geometry.specs.declared.Corners.{Corners}

-- ---- the order
module _ (a b c : Finder) (ab bc ca : Float) (eab : ab ≡ span2_of a b) (ebc : bc ≡ span2_of b c) (eca : ca ≡ span2_of c a) (v : Bool) (e : v ≡ is_longest ab bc ca) where
  pub longest_ab : v ≡ true → turned_of c a b ≡ order_of a b c
  unfolding order_of
  longest_ab h = rw (← eab, ← ebc, ← eca, ← e, h)

  module _ (w : Bool) (g : w ≡ is_longest bc ab ca) (not-ab : v ≡ false) where
    pub longest_bc : w ≡ true → turned_of a b c ≡ order_of a b c
    unfolding order_of
    longest_bc h = rw (← eab, ← ebc, ← eca, ← e, not-ab, ← g, h)

    pub longest_ca : w ≡ false → turned_of b c a ≡ order_of a b c
    unfolding order_of
    longest_ca h = rw (← eab, ← ebc, ← eca, ← e, not-ab, ← g, h)

-- ---- the corners' rules
module _ (f : Corners) (n1 n2 : Float) (e1 : n1 ≡ right_leg f) (e2 : n2 ≡ down_leg f) where
  pub short_right : lt n1 f1 ≡ true → out_by_edge f ≡ true
  unfolding out_by_edge
  short_right h = rw (← e1, h)

  pub short_down : lt n2 f1 ≡ true → out_by_edge f ≡ true
  unfolding out_by_edge
  short_down h = rw (← e2) (or_right (lt (right_leg f) f1) (lt n2 f1) h)

  pub not_short : lt n1 f1 ≡ false → lt n2 f1 ≡ false → out_by_edge f ≡ false
  unfolding out_by_edge
  not_short h g = rw (← e1, ← e2, h, g)

  pub cosine_is : (d cos : Float) → d ≡ dot_of f → cos ≡ abs_of (d ⊘ (n1 ⊗ n2)) → cos ≡ abs_of (cosine_of f)
  unfolding cosine_of
  cosine_is d cos e h = rw (← e1, ← e2, ← e) h

  pub ratio_is : (r : Float) → r ≡ max_of (n1 ⊘ n2) (n2 ⊘ n1) → r ≡ ratio_of f
  unfolding ratio_of
  ratio_is r h = rw (← e1, ← e2) h

module _ (f : Corners) where
  pub out_edge : out_by_edge f ≡ true → None ≡ score_if (admissible_corners f) (corner_score f)
  unfolding admissible_corners
  out_edge h = rw h

  pub out_angle : (cos : Float) → cos ≡ abs_of (cosine_of f) → out_by_edge f ≡ false → lt f0_7 cos ≡ true → None ≡ score_if (admissible_corners f) (corner_score f)
  unfolding admissible_corners out_by_angle
  out_angle cos e h g = rw (h, ← e, g)

  module _ (cos ratio : Float) (ec : cos ≡ abs_of (cosine_of f)) (er : ratio ≡ ratio_of f) (edge : out_by_edge f ≡ false) (angle : lt f0_7 cos ≡ false) where
    pub out_ratio : lt f1_6 ratio ≡ true → None ≡ score_if (admissible_corners f) (corner_score f)
    unfolding admissible_corners out_by_angle out_by_ratio
    out_ratio g = rw (edge, ← ec, ← er, angle, g)

    pub out_number : (s : Float) → s ≡ cos ⊕ (ratio ⊖ f1) → lt f1_6 ratio ≡ false → ne s s ≡ true → None ≡ score_if (admissible_corners f) (corner_score f)
    unfolding admissible_corners out_by_angle out_by_ratio corner_score is_number
    out_number s e g n = rw (edge, ← ec, ← er, angle, g, ← e, n)

    pub scored : (s : Float) → s ≡ cos ⊕ (ratio ⊖ f1) → lt f1_6 ratio ≡ false → ne s s ≡ false → Some s ≡ score_if (admissible_corners f) (corner_score f)
    unfolding admissible_corners out_by_angle out_by_ratio corner_score is_number
    scored s e g n = rw (edge, ← ec, ← er, angle, g, ← e, n)

-- ---- the pitch first, then the corners
module _ (a b c : Finder) (v : Bool) (e : v ≡ out_by_pitch a b c) where
  pub pitch_out : v ≡ true → None ≡ score_if (admissible a b c) (score_of a b c)
  unfolding admissible
  pitch_out h = rw (← e, h)

  pub pitch_in : (f : Corners) (r : Option Float) → v ≡ false → f ≡ order_of a b c → r ≡ score_if (admissible_corners f) (corner_score f) → r ≡ score_if (admissible a b c) (score_of a b c)
  unfolding admissible score_of
  pitch_in f r h g k = rw (← e, h, ← g) k
