-- `denoise::check_denoised_lengths` meets its contract. Assumes nothing.
use mathlib.Core.Path.{◌≡◌, refl}
use Rattle.std.specs.Prelude.{take}
use Rattle.lcr_core.specs.Outcome.{first_of, sides_refusal}
use Rattle.lcr_core.proofs.Checks.{refused_on, check_refuses, check_passes}
use Rattle.denoise.specs.Denoise.{denoised_checks, denoised_refusal}
use Rattle.denoise.proofs.check_denoised_lengths.Goals.{Else-short_bits}
use Rattle.denoise.proofs.check_denoised_lengths.Goals as goal

pub returns-in_err-check_sides : goal.returns-in_err-check_sides
unfolding denoised_refusal sides_refusal
returns-in_err-check_sides c = let a = c.args in refused_on _ _ c.from_residual.ensures.1 2 (denoised_checks a.len a.width a.height a.room) c.in_err-check_sides.ensures

pub returns-then-short_bits : goal.returns-then-short_bits
unfolding denoised_refusal sides_refusal
returns-then-short_bits c = let a = c.args in check_refuses 2 (denoised_checks a.len a.width a.height a.room) _ _ refl c.in_ok-check_sides.ensures c.if-short_bits.ensures

passed_3 : (c : Else-short_bits) → let a = c.args in 0 ≡ first_of (take 3 (denoised_checks a.len a.width a.height a.room))
unfolding sides_refusal
passed_3 c = let a = c.args in check_passes 2 (denoised_checks a.len a.width a.height a.room) _ _ refl c.in_ok-check_sides.ensures c.if-short_bits.ensures

pub returns-then-short_bits-2 : goal.returns-then-short_bits-2
unfolding denoised_refusal
returns-then-short_bits-2 c = let a = c.args in check_refuses 3 (denoised_checks a.len a.width a.height a.room) _ _ refl (passed_3 (goal.at.returns-then-short_bits-2 c).Else-short_bits) c.if-short_bits-2.ensures

pub returns : goal.returns
unfolding denoised_refusal
returns c = let a = c.args in check_passes 3 (denoised_checks a.len a.width a.height a.room) _ _ refl (passed_3 (goal.at.returns c).Else-short_bits) c.if-short_bits-2.ensures
