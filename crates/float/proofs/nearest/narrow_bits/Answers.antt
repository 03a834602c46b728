-- `float::nearest::narrow_bits` meets its contract. Assumes nothing.
use mathlib.Core.Path.{sym, ap, ◌∙◌}
use mathlib.Core.Bool.{Bool}
use Prim.Native.Nat.{ℕ, ◌+◌, ◌%◌, ◌^◌}
use native.Mathlib.Nat.{zero-add}
use lib.Ieee.{binary32, binary64, top, of_bits}
use borrow.Author.Tests.{lt-leb, le-leb}
use Rattle.float.specs.Fields.{val, round_mag}
use Rattle.float.proofs.Patterns.{with_sign}
use Rattle.float.proofs.Narrowing.{narrow_nan, narrow_bits}
use Rattle.float.proofs.nearest.narrow_bits.Goals as goal

abbrev mag : ℕ → ℕ
mag b = round_mag binary32 (val binary64 (b % 2 ^ 63)) (2 ^ 1074)

pub returns-then-a-gt9218868437227405312 : goal.returns-then-a-gt9218868437227405312
returns-then-a-gt9218868437227405312 c = narrow_nan c.args.b c.if-a-gt9218868437227405312.true

pub returns-then-b-lt9223372036854775808 : goal.returns-then-b-lt9223372036854775808
returns-then-b-lt9223372036854775808 c =
    let b = c.args.b in
    ap (of_bits binary32) (c.narrow_mag-m.ensures ∙ sym (zero-add (mag b)))
    ∙ ap (λ (s : Bool). of_bits binary32 (with_sign binary32 s (mag b))) (sym (lt-leb (top binary64) b c.if-b-lt9223372036854775808.true))
    ∙ narrow_bits b c.if-a-gt9218868437227405312.false

pub returns-else-b-lt9223372036854775808 : goal.returns-else-b-lt9223372036854775808
returns-else-b-lt9223372036854775808 c =
    let b = c.args.b in
    ap (λ (x : ℕ). of_bits binary32 (2147483648 + x)) c.narrow_mag-m.ensures
    ∙ ap (λ (s : Bool). of_bits binary32 (with_sign binary32 s (mag b))) (sym (le-leb (top binary64) b c.if-b-lt9223372036854775808.false))
    ∙ narrow_bits b c.if-a-gt9218868437227405312.false
