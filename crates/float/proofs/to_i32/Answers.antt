-- `float::to_i32` meets its contract. Assumes nothing.
use mathlib.Core.Path.{◌≡◌, refl, sym, ap, ◌∙◌, subst}
use mathlib.Core.Bool.{Bool, true, false, cond}
use Prim.Native.Nat.{ℕ, zero, suc, ◌-◌, ◌^◌, ◌<◌}
use native.Mathlib.Nat.{zero-lt-suc}
use native.Mathlib.Omega.{arith}
use lib.Dec.{leb}
use lib.IntN.{ℤ, pos, negsuc, neg_ℤ, ◌-ℤ◌}
use lib.Ieee.{binary32, top, of_bits, to_signed}
use lib.Ieee.Casts.{to_signed_in}
use mir.Syntax.{w32}
use mir.Val.{SFits, to_z, of_z}
use mir.ValLaws.{to_z-of_z}
use borrow.Author.Tests.{lt-ltb, lt-leb, le-leb}
use Rattle.float.proofs.Casting.{i32_in, i32_out, i32_nan}
use Rattle.float.proofs.to_i32.Goals.{After-bits-b, After-whole-w, Else-b-lt2147483648}
use Rattle.float.proofs.to_i32.Goals as goal

-- the pattern is x's
back : (c : After-bits-b) → to_signed 31 (of_bits binary32 c.bits-b.result) ≡ to_signed 31 c.args.x
back c = ap (to_signed 31) c.bits-b.ensures.back

-- a number below 2 ^ 31 as an i32, and its negative
small : (n : ℕ) → n < 2 ^ 31 → SFits w32 (pos n)
small n h = record { sfits = h }

minus : (n : ℕ) → pos 0 -ℤ pos n ≡ neg_ℤ (pos n)
minus zero = refl
minus (suc n) = ap (λ (t : Bool). cond t (negsuc (suc n - 1)) (pos (0 - suc n))) (lt-ltb 0 (suc n) (zero-lt-suc n)) ∙ ap negsuc (pred n)
  where
    pred : (n : ℕ) → suc n - 1 ≡ n
    pred n = omega arith

whole_lt : (c : After-whole-w) → c.whole-w.result < 2 ^ 31
whole_lt c =
    let b = c.bits-b.result in
    subst (λ (n : ℕ). n < 2 ^ 31) (sym c.whole-w.ensures) (i32_in b c.if-a-lt1325400064.true).0

as_signed : (c : After-whole-w) → to_z w32 c.whole-w.result ≡ pos c.whole-w.result
as_signed c = to_z-of_z w32 (pos c.whole-w.result) (small c.whole-w.result (whole_lt c))

-- x's whole part with its sign
is : (c : After-whole-w) (s : Bool) → leb (top binary32) c.bits-b.result ≡ s
    → cond s (neg_ℤ (pos c.whole-w.result)) (pos c.whole-w.result) ≡ to_signed 31 c.args.x
is c s e =
    let b = c.bits-b.result in
    ap (λ (t : Bool). cond t (neg_ℤ (pos c.whole-w.result)) (pos c.whole-w.result)) (sym e)
    ∙ ap (λ (k : ℕ). cond (leb (top binary32) b) (neg_ℤ (pos k)) (pos k)) c.whole-w.ensures
    ∙ sym (i32_in b c.if-a-lt1325400064.true).1
    ∙ back c.before.before.before

negative : (c : Else-b-lt2147483648) → pos 0 -ℤ to_z w32 c.whole-w.result ≡ to_signed 31 c.args.x
negative c =
    let w = c.before in
    ap (λ (z : ℤ). pos 0 -ℤ z) (as_signed w) ∙ minus w.whole-w.result ∙ is w true (le-leb (top binary32) w.bits-b.result c.if-b-lt2147483648.false)

in_range : (c : Else-b-lt2147483648) → SFits w32 (to_signed 31 c.args.x)
in_range c = record { sfits = to_signed_in 31 c.args.x }

pub returns-then-a-gt2139095040 : goal.returns-then-a-gt2139095040
returns-then-a-gt2139095040 c = i32_nan c.bits-b.result c.if-a-gt2139095040.true ∙ back (goal.at.returns-then-a-gt2139095040 c).After-bits-b

pub overflow_cast-w : goal.overflow_cast-w
overflow_cast-w c = small c.whole-w.result (whole_lt c)

pub overflow_sub-result : goal.overflow_sub-result
overflow_sub-result c = subst (SFits w32) (sym (negative c)) (in_range c)

pub returns-then-b-lt2147483648 : goal.returns-then-b-lt2147483648
returns-then-b-lt2147483648 c = as_signed (goal.at.returns-then-b-lt2147483648 c).After-whole-w ∙ is (goal.at.returns-then-b-lt2147483648 c).After-whole-w false (lt-leb (top binary32) c.bits-b.result c.if-b-lt2147483648.true)

pub returns-else-b-lt2147483648 : goal.returns-else-b-lt2147483648
returns-else-b-lt2147483648 c = ap (λ (z : ℤ). to_z w32 (of_z w32 z)) (negative c) ∙ to_z-of_z w32 (to_signed 31 c.args.x) (in_range c)

pub returns-then-b-lt2147483648-2 : goal.returns-then-b-lt2147483648-2
returns-then-b-lt2147483648-2 c =
    let b = c.bits-b.result in
    sym (i32_out b c.if-a-lt1325400064.false c.if-a-gt2139095040.false ∙ ap (λ (s : Bool). cond s (negsuc 2147483647) (pos 2147483647)) (lt-leb (top binary32) b c.if-b-lt2147483648-2.true))
    ∙ back (goal.at.returns-then-b-lt2147483648-2 c).After-bits-b

pub returns-else-b-lt2147483648-2 : goal.returns-else-b-lt2147483648-2
returns-else-b-lt2147483648-2 c =
    let b = c.bits-b.result in
    sym (i32_out b c.if-a-lt1325400064.false c.if-a-gt2139095040.false ∙ ap (λ (s : Bool). cond s (negsuc 2147483647) (pos 2147483647)) (le-leb (top binary32) b c.if-b-lt2147483648-2.false))
    ∙ back (goal.at.returns-else-b-lt2147483648-2 c).After-bits-b
