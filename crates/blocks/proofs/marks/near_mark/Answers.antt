-- `blocks::marks::near_mark` meets its contract. Assumes nothing.
use mathlib.Core.Path.{ap₂, ◌∙◌}
use Prim.Native.Nat.{◌/◌, ◌%◌, ◌<◌}
use borrow.Author.Rules.{rules}
use Rattle.blocks.specs.Blocks as blocks
use Rattle.blocks.specs.Rects.{IsAbout}
use Rattle.blocks.proofs.Measures.{values_in}
use Rattle.blocks.proofs.marks.near_mark.Goals.{After-about-near}
use Rattle.blocks.proofs.marks.near_mark.Goals as goal

-- the block lies in the grid
window : (c : After-about-near) → let a = c.args in IsAbout a.bw a.bh (a.i % a.bw) (a.i / a.bw) 1 c.about-near.result
window c = let a = c.args in let p : (a.i % a.bw < a.bw) × (a.i / a.bw < a.bh) = search rules in c.about-near.ensures p

pub rect_stats-low-requires : goal.rect_stats-low-requires
rect_stats-low-requires c = let e = window c in search rules

pub rect_stats-high-requires : goal.rect_stats-high-requires
rect_stats-high-requires c = let e = window (goal.at.rect_stats-high-requires c).After-about-near in search rules

pub returns : goal.returns
returns c =
    let e = window (goal.at.returns c).After-about-near in
    let low = (values_in c.args.least.now _ c.about-near.result _ c.rect_stats-low.ensures.0).1 in
    let high = (values_in c.args.greatest.now _ c.about-near.result _ c.rect_stats-high.ensures.0).2 in
    c.mark.ensures ∙ ap₂ blocks.mark low high ∙ rw (e.left, e.right, e.top, e.bottom)
