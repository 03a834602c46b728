-- `binary::refusal::check_bits` meets its contract. Assumes nothing.
use mathlib.Core.Path.{refl}
use Rattle.lcr_core.specs.Outcome.{sides_refusal}
use Rattle.lcr_core.proofs.Checks.{refused_on, check_refuses, check_passes}
use Rattle.binary.specs.Refusal.{bits_checks, bits_refusal}
use Rattle.binary.proofs.refusal.check_bits.Goals as goal

pub returns-in_err-check_sides : goal.returns-in_err-check_sides
unfolding bits_refusal sides_refusal
returns-in_err-check_sides c = let a = c.args in refused_on _ _ c.from_residual.ensures.1 2 (bits_checks a.len a.width a.height) c.in_err-check_sides.ensures

pub returns-then-short_bits : goal.returns-then-short_bits
unfolding bits_refusal sides_refusal
returns-then-short_bits c = let a = c.args in check_refuses 2 (bits_checks a.len a.width a.height) _ _ refl c.in_ok-check_sides.ensures c.if-short_bits.ensures

pub returns : goal.returns
unfolding bits_refusal sides_refusal
returns c = let a = c.args in check_passes 2 (bits_checks a.len a.width a.height) _ _ refl c.in_ok-check_sides.ensures c.if-short_bits.ensures
