use mathlib.Core.Path.{◌≡◌, ap}
use Rattle.lists.specs.Lists.{tabulate}
use Rattle.listing_text.specs.Inner.{spaced}
use native.Mathlib.Omega.{arith}
use Rattle.listing_text.specs.Listing.{number_fields}
use Rattle.listing_text.proofs.Writing.{adds_as}
use Rattle.listing_text.proofs.LineLaws.{numbers_none, number_next}
use Rattle.listing_text.proofs.pieces.Text.numbers.Invariants.{field}
use Rattle.listing_text.proofs.pieces.Text.numbers.Goals as goal

pub loop-x-init : goal.loop-x-init
loop-x-init c = numbers_none (field c.args.m) c.args.self.now

pub loop-x-preserved : goal.loop-x-preserved
loop-x-preserved c = number_next (field c.args.m) c.loop-x.x-index c.loop-x.invariant c.double.ensures

pub returns : goal.returns
unfolding number_fields
returns c = adds_as (let n : c.loop-x.x-index ≡ 8 = omega arith in ap (λ k. spaced (tabulate k (field c.args.m))) n) (omega arith) c.loop-x.invariant
