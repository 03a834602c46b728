-- `alignment::template::View::majority` meets its contract. Assumes nothing.
use native.Mathlib.Omega.{arith}
use Rattle.alignment.proofs.Taps.{tap_is, module_dark_lem, module_light, module_five}
use Rattle.alignment.proofs.template.View.majority.Goals as goal

pub returns-then-c-eq3 : goal.returns-then-c-eq3
returns-then-c-eq3 g c = module_dark_lem _ _ _ _ _ _ _ _ _ (tap_is _ _ _ _ _ _ _ c.tap-a.ensures.value (c.requires.places _ _ _ c.place.ensures)) (tap_is _ _ _ _ _ _ _ c.tap-b.ensures.value (c.requires.places _ _ _ c.place-2.ensures)) (tap_is _ _ _ _ _ _ _ c.tap-c.ensures.value (c.requires.places _ _ _ c.place-3.ensures)) (omega arith) (omega arith) c.if-c-eq3.true

pub returns-then-c : goal.returns-then-c
returns-then-c g c = module_light _ _ _ _ _ _ _ _ _ (tap_is _ _ _ _ _ _ _ c.tap-a.ensures.value (c.requires.places _ _ _ c.place.ensures)) (tap_is _ _ _ _ _ _ _ c.tap-b.ensures.value (c.requires.places _ _ _ c.place-2.ensures)) (tap_is _ _ _ _ _ _ _ c.tap-c.ensures.value (c.requires.places _ _ _ c.place-3.ensures)) (omega arith) (omega arith) c.if-c.true

pub returns : goal.returns
returns g c = module_five _ _ _ _ _ _ _ _ _ (tap_is _ _ _ _ _ _ _ c.tap-a.ensures.value (c.requires.places _ _ _ c.place.ensures)) (tap_is _ _ _ _ _ _ _ c.tap-b.ensures.value (c.requires.places _ _ _ c.place-2.ensures)) (tap_is _ _ _ _ _ _ _ c.tap-c.ensures.value (c.requires.places _ _ _ c.place-3.ensures)) _ _ (tap_is _ _ _ _ _ _ _ c.tap-d.ensures.value (c.requires.places _ _ _ c.place-4.ensures)) (tap_is _ _ _ _ _ _ _ c.tap-e.ensures.value (c.requires.places _ _ _ c.place-5.ensures))
