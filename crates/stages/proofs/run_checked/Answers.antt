-- `stages::run_checked` meets its contract. Assumes nothing.
use mathlib.Core.Path.{◌∙◌}
use Rattle.stages.specs.Lent.{picture_in}
use Rattle.stages.proofs.Refusals.{gray_done, denoised_done}
use Rattle.stages.proofs.Closed.{gray_closed, bits_closed, denoised_closed, means_closed, least_closed, greatest_closed, edges_closed, nears_closed}
use Rattle.stages.proofs.run_checked.Goals as goal

pub returns-clause-left : goal.returns-clause-left
returns-clause-left c =
    let p = picture_in c.args.pixels in
    let s = c.args.slices.now in
    let e = c.binarize.ensures in
    let g = gray_done p s.gray.now s.bits.now s.denoised.now _ c.requires _ c.gray_buffer.ensures.written in
    let z = e.refusal ∙ g.1 in
    let v = rw z at e.values in
    let bits = rw z at e.bits in
    let denoised = denoised_done p s.gray.now s.bits.now s.denoised.now _ c.requires _ _ _ bits c.denoised.ensures.written in record {
      gray = gray_closed p _ _ g.0;
      bits = bits_closed p _ _ g.0 _ _ bits;
      denoised = denoised_closed p _ _ g.0 _ _ bits _ _ denoised;
      means = means_closed p _ _ g.0 _ _ v.means;
      least = least_closed p _ _ g.0 _ _ v.least;
      greatest = greatest_closed p _ _ g.0 _ _ v.greatest;
      edges = edges_closed p _ _ g.0 _ _ v.edges;
      nears = nears_closed p _ _ g.0 _ _ v.nears;
    }
