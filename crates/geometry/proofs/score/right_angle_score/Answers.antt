-- `geometry::score::right_angle_score` meets its contract, by its tests. Assumes nothing.
use mathlib.Core.Path.{◌≡◌, refl}
use mathlib.Core.Bool.{false}
use Rattle.float.specs.Floats.{abs_of}
use Rattle.geometry.specs.Score.{cosine_of, ratio_of, out_by_edge}
use Rattle.geometry.proofs.Scores.{short_right, short_down, not_short, cosine_is, ratio_is, out_edge, out_angle, out_ratio, out_number, scored}
use Rattle.geometry.proofs.score.right_angle_score.Goals.{After-abs-cos, After-max32-ratio, Else-n2}
use Rattle.geometry.proofs.score.right_angle_score.Goals as goal

-- no leg is under 1
edge : (c : Else-n2) → out_by_edge c.args.f ≡ false
edge c = let s = c in not_short _ _ _ s.span-n1.ensures s.span-n2.ensures c.if-n1.false c.if-n2.false

cosine : (c : After-abs-cos) → c.abs-cos.result ≡ abs_of (cosine_of c.args.f)
cosine c = let s = c in cosine_is _ _ _ s.span-n1.ensures s.span-n2.ensures _ _ c.dot.ensures c.abs-cos.ensures

ratio : (c : After-max32-ratio) → c.max32-ratio.result ≡ ratio_of c.args.f
ratio c = let s = c in ratio_is _ _ _ s.span-n1.ensures s.span-n2.ensures _ c.max32-ratio.ensures

pub returns-then-n1 : goal.returns-then-n1
returns-then-n1 c = out_edge _ (short_right _ _ _ c.span-n1.ensures c.span-n2.ensures c.if-n1.true)

pub returns-then-n2 : goal.returns-then-n2
returns-then-n2 c = out_edge _ (short_down _ _ _ c.span-n1.ensures c.span-n2.ensures c.if-n2.true)

pub returns-then-cos : goal.returns-then-cos
returns-then-cos c = out_angle _ _ (cosine (goal.at.returns-then-cos c).After-abs-cos) (edge (goal.at.returns-then-cos c).Else-n2) c.if-cos.true

pub returns-then-ratio : goal.returns-then-ratio
returns-then-ratio c =
    out_ratio _ _ _ (cosine (goal.at.returns-then-ratio c).After-abs-cos) (ratio (goal.at.returns-then-ratio c).After-max32-ratio) (edge (goal.at.returns-then-ratio c).Else-n2) c.if-cos.false c.if-ratio.true

pub returns-then-score : goal.returns-then-score
returns-then-score c =
    let m = (goal.at.returns-then-score c).After-max32-ratio in
    out_number _ _ _ (cosine (goal.at.returns-then-score c).After-abs-cos) (ratio (goal.at.returns-then-score c).After-max32-ratio) (edge (goal.at.returns-then-score c).Else-n2) m.if-cos.false _ refl c.if-ratio.false c.if-score.true

pub returns : goal.returns
returns c =
    let m = (goal.at.returns c).After-max32-ratio in
    scored _ _ _ (cosine (goal.at.returns c).After-abs-cos) (ratio (goal.at.returns c).After-max32-ratio) (edge (goal.at.returns c).Else-n2) m.if-cos.false _ refl c.if-ratio.false c.if-score.false
