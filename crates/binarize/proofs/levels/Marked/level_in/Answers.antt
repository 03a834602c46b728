-- `binarize::levels::Marked::level_in` meets its contract. Assumes nothing.
use mathlib.Core.Path.{sym, ap₂, ◌∙◌}
use mathlib.Core.List.{List}
use Prim.Native.Nat.{ℕ, ◌/◌}
use Rattle.lists.specs.Lists.{at}
use Rattle.blocks.specs.Rects.{cells_of}
use Rattle.binarize.specs.Levels.{marked_means}
use Rattle.binarize.specs.Splits.{Tallied, tally_of}
use Rattle.binarize.proofs.Tallies.{tallied}
use Rattle.binarize.proofs.LevelLaws.{level-none, level_some}
use Rattle.binarize.proofs.levels.Marked.level_in.Goals.{After-window_split-all}
use Rattle.binarize.proofs.levels.Marked.level_in.Goals as goal

-- the means in the window
abbrev inside : After-window_split-all → List ℕ
inside c = let m = c.args.self in marked_means (at m.means.now) (at m.marks.now) (cells_of m.width c.args.window)

-- what the first pass counted
first : (c : After-window_split-all) → Tallied (inside c) 0 (tally_of c.window_split-all.result)
first c = tallied _ _ _ _ _ c.window_split-all.ensures

pub returns-then-all-eq0 : goal.returns-then-all-eq0
returns-then-all-eq0 c = level-none (inside (goal.at.returns-then-all-eq0 c).After-window_split-all) (sym (first (goal.at.returns-then-all-eq0 c).After-window_split-all).count ∙ c.if-all-eq0.true)

pub returns : goal.returns
returns c =
    let t = first (goal.at.returns c).After-window_split-all in
    level_some (inside (goal.at.returns c).After-window_split-all) _ _ _ (λ e. c.if-all-eq0.false (t.count ∙ e))
    (c.mean-mean.ensures ∙ ap₂ (λ (x y : ℕ). x / y) t.total t.count) (tallied _ _ _ _ _ c.window_split-two.ensures) c.midpoint.ensures
