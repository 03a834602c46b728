-- `gray::checked_format` meets its contract. Assumes nothing.
use borrow.Author.Tests.{lt-ltb, le-ltb}
use native.Mathlib.Omega.{arith}
use mathlib.Core.Path.{◌≡◌, refl, sym, ap, ◌∙◌}
use Rattle.std.specs.Prelude.{take}
use Rattle.lists.proofs.Numbers.{mul_bound}
use Rattle.lcr_core.specs.Outcome.{first_of, refusal_number, sides_refusal}
use Rattle.lcr_core.proofs.Checks.{refused_on, same_number, check_refuses, check_passes, sides_known}
use Rattle.gray.specs.Gray.{is_nothing, unknown_format, short_picture, gray_checks, gray_refusal}
use Rattle.gray.proofs.GrayLaws.{found_byte, format_read, format_refused}
use Rattle.gray.proofs.checked_format.Goals.{After-channels, After-short_picture, In_ok-known, Else-short_picture}
use Rattle.gray.proofs.checked_format.Goals as goal

-- the channels of a known format are its byte
step : (c : After-channels) → c.channels.result ≡ c.args.format
step c = c.channels.ensures ∙ found_byte _ _ (format_read _ _ c.in_ok-known.ensures)

tested : (c : After-short_picture) → let a = c.args in
    c.short_picture.result ≡ short_picture a.len a.width a.height a.stride a.format
tested c =
    let a = c.args in
    c.short_picture.ensures ∙ ap (short_picture a.len a.width a.height a.stride) (step c.before)

-- the checks that passed, each at the place behind it
passed_3 : (c : In_ok-known) → let a = c.args in 0 ≡ first_of (take 3 (gray_checks a.len a.width a.height a.stride a.format a.room))
unfolding unknown_format sides_refusal
passed_3 c =
    let a = c.args in
    check_passes 2 (gray_checks a.len a.width a.height a.stride a.format a.room) _ _ refl c.in_ok-check_sides.ensures (sym (ap is_nothing (format_read _ _ c.in_ok-known.ensures)))

passed_4 : (c : Else-short_picture) → let a = c.args in 0 ≡ first_of (take 4 (gray_checks a.len a.width a.height a.stride a.format a.room))
passed_4 c =
    let a = c.args in
    check_passes 3 (gray_checks a.len a.width a.height a.stride a.format a.room) _ _ refl (passed_3 (goal.at.Else-short_picture c).In_ok-known) (sym c.if-short_picture.false ∙ tested (goal.at.Else-short_picture c).After-short_picture)

pub returns-in_err-check_sides-clause-number : goal.returns-in_err-check_sides-clause-number
unfolding gray_refusal sides_refusal
returns-in_err-check_sides-clause-number c = let a = c.args in refused_on _ _ c.from_residual.ensures.1 2 (gray_checks a.len a.width a.height a.stride a.format a.room) c.in_err-check_sides.ensures

pub returns-in_err-known-clause-number : goal.returns-in_err-known-clause-number
unfolding gray_refusal unknown_format sides_refusal
returns-in_err-known-clause-number c =
    let a = c.args in
    let r = format_refused _ _ (c.in_err-known.ensures) in
    same_number _ _ c.from_residual-in_err-known.ensures.1
    ∙ ap refusal_number r.0
    ∙ check_refuses 2 (gray_checks a.len a.width a.height a.stride a.format a.room) _ _ refl c.in_ok-check_sides.ensures (sym r.1)

pub short_picture-requires : goal.short_picture-requires
short_picture-requires c =
    let s = sides_known c.args.width c.args.height c.in_ok-check_sides.ensures in
    omega (arith, step c)

pub returns-then-short_picture-clause-number : goal.returns-then-short_picture-clause-number
unfolding gray_refusal
returns-then-short_picture-clause-number c =
    let a = c.args in
    check_refuses 3 (gray_checks a.len a.width a.height a.stride a.format a.room) _ _ refl (passed_3 (goal.at.returns-then-short_picture-clause-number c).In_ok-known) (sym c.if-short_picture.true ∙ tested (goal.at.returns-then-short_picture-clause-number c).After-short_picture)

pub overflow_mul-width : goal.overflow_mul-width
overflow_mul-width c =
    let s = sides_known c.args.width c.args.height c.in_ok-check_sides.ensures in
    omega (arith, mul_bound c.args.width c.args.height 4096 4096 s.w_most s.h_most)

pub returns-then-room-width-clause-number : goal.returns-then-room-width-clause-number
unfolding gray_refusal
returns-then-room-width-clause-number c =
    let a = c.args in
    check_refuses 4 (gray_checks a.len a.width a.height a.stride a.format a.room) _ _ refl (passed_4 (goal.at.returns-then-room-width-clause-number c).Else-short_picture) (sym (lt-ltb _ _ c.if-room-width.true))

pub returns-clause-number : goal.returns-clause-number
unfolding gray_refusal
returns-clause-number c =
    let a = c.args in
    check_passes 4 (gray_checks a.len a.width a.height a.stride a.format a.room) _ _ refl (passed_4 (goal.at.returns-clause-number c).Else-short_picture) (sym (le-ltb _ _ c.if-room-width.false))
