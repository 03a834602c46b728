-- `float::round32` meets its contract. Assumes nothing.
use mathlib.Core.Path.{◌≡◌, refl, sym, ap, ◌∙◌, subst}
use mathlib.Core.Bool.{Bool, true, false}
use Prim.Native.Nat.{ℕ, ◌%◌, ◌^◌, ◌≤◌}
use lib.Dec.{T, le→leb}
use lib.IntN.{pos}
use lib.Ieee.{Float, binary32, top, round, neg, of_int, of_bits, in_float}
use borrow.Author.Tests.{lt-leb, le-leb}
use Rattle.float.specs.Floats.{round_of}
use Rattle.float.specs.Fields.{val}
use Rattle.float.proofs.Rounding.{half_up_lem, half_le, round_small, round_large}
use Rattle.float.proofs.Signs.{neg-round}
use Rattle.float.proofs.round32.Goals.{After-bits-b}
use Rattle.float.proofs.round32.Goals as goal

-- the pattern is x's
back : (c : After-bits-b) → of_bits binary32 c.bits-b.result ≡ c.args.x
back c = c.bits-b.ensures.back

in_float_lem : (n : ℕ) → n ≤ 2 ^ 24 → T (in_float binary32 (pos n))
unfolding in_float
in_float_lem n h = le→leb n (2 ^ 24) h

of_int_lem : (n : ℕ) → of_int binary32 (pos n) ≡ round binary32 false n 1
unfolding of_int
of_int_lem n = refl

pub returns-then-a-ge1258291200 : goal.returns-then-a-ge1258291200
returns-then-a-ge1258291200 c = subst (λ (x : Float). x ≡ round_of binary32 x) (back (goal.at.returns-then-a-ge1258291200 c).After-bits-b) (round_large c.bits-b.result c.if-a-ge1258291200.true)

pub int_to_float-w : goal.int_to_float-w
int_to_float-w c = in_float_lem c.half_up-w.result (subst (λ (w : ℕ). w ≤ 2 ^ 24) (sym c.half_up-w.ensures) (half_le (c.bits-b.result % 2 ^ 31) c.if-a-ge1258291200.false))

pub returns-then-b-lt2147483648 : goal.returns-then-b-lt2147483648
returns-then-b-lt2147483648 c =
    let s = c in
    let b = s.bits-b.result in
    of_int_lem s.half_up-w.result
    ∙ ap (λ (w : ℕ). round binary32 false w 1) s.half_up-w.ensures
    ∙ ap (λ (t : Bool). round binary32 t (half_up_lem (val binary32 (b % 2 ^ 31))) 1) (sym (lt-leb (top binary32) b c.if-b-lt2147483648.true))
    ∙ sym (round_small b s.if-a-ge1258291200.false)
    ∙ ap (round_of binary32) (back (goal.at.returns-then-b-lt2147483648 c).After-bits-b)

pub returns-else-b-lt2147483648 : goal.returns-else-b-lt2147483648
returns-else-b-lt2147483648 c =
    let s = c in
    let b = s.bits-b.result in
    ap neg (of_int_lem s.half_up-w.result) ∙ neg-round binary32 false s.half_up-w.result 1
    ∙ ap (λ (w : ℕ). round binary32 true w 1) s.half_up-w.ensures
    ∙ ap (λ (t : Bool). round binary32 t (half_up_lem (val binary32 (b % 2 ^ 31))) 1) (sym (le-leb (top binary32) b c.if-b-lt2147483648.false))
    ∙ sym (round_small b s.if-a-ge1258291200.false)
    ∙ ap (round_of binary32) (back (goal.at.returns-else-b-lt2147483648 c).After-bits-b)
