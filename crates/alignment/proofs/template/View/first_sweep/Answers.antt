-- `alignment::template::View::first_sweep` meets its contract. Assumes nothing.
use mathlib.Core.Path.{refl}
use native.Mathlib.Omega.{arith}
use lib.Ieee.{of_bits, div}
use Rattle.lcr_core.specs.Version.{side_of}
use Rattle.alignment.specs.Template.{marker_centre}
use Rattle.alignment.proofs.Colours.{known_all}
use Rattle.alignment.proofs.Views.{version_most}
use Rattle.alignment.proofs.template.View.first_sweep.Goals as goal

pub overflow_mul-side : goal.overflow_mul-side
overflow_mul-side c = omega (arith, c.side.ensures, version_most _ _ _ _ c.args.self.now.passes)

pub fill_colours-requires : goal.fill_colours-requires
fill_colours-requires c = (omega (arith, c.side.ensures, version_most _ _ _ _ c.args.self.now.passes), refl)

pub sweep-requires : goal.sweep-requires
unfolding marker_centre
sweep-requires c =
    let a = c.args in let s = a.self.now in
    let e = rw c.side.ensures at c.fill_colours.ensures in
    let l = version_most _ _ _ _ s.passes in
    (omega arith, omega arith, rw c.centre.ensures (known_all s.picture.bits.now s.picture.width s.picture.height s.transform (side_of s.version.0) _ _ (omega arith) (omega arith) refl refl e))

pub returns : goal.returns
unfolding of_bits div
returns c = rw (← c.centre.ensures) c.sweep.ensures
