-- `ratio::matches_finder` meets its contract. Assumes nothing.
use Rattle.std.specs.Prelude.{Some, None}
use mathlib.Core.Path.{◌≡◌, sym, ◌∙◌}
use mathlib.Core.Bool.{true, false, and-false}
use Prim.Native.Nat.{ℕ, ◌+◌, ◌≤◌, ◌<◌}
use native.Mathlib.Omega.{arith}
use borrow.Author.Tests.{lt-leb, le-leb}
use Rattle.lcr_core.specs.Outcome.{max_side}
use Rattle.ratio.specs.Ratio.{passes, match_of, module_of}
use Rattle.ratio.proofs.Tolerance.{in_float_lem}
use Rattle.ratio.proofs.matches_finder.Goals as goal

-- ---- the rule, by the tests that lead to each answer
module _ (a b c d e : ℕ) where
  failed : passes a b c d e ≡ false → None ≡ match_of a b c d e
  unfolding match_of
  failed p = rw (p, and-false)

  long : max_side < a + b + c + d + e → None ≡ match_of a b c d e
  unfolding match_of
  long h = rw (lt-leb (a + b + c + d + e) max_side h)

  passed : passes a b c d e ≡ true → a + b + c + d + e ≤ max_side → Some (module_of (a + b + c + d + e)) ≡ match_of a b c d e
  unfolding match_of
  passed p h = rw (le-leb (a + b + c + d + e) max_side h, p)

pub returns-then-not-passes_finder : goal.returns-then-not-passes_finder
returns-then-not-passes_finder c = failed _ _ _ _ _ (sym c.passes_finder.ensures ∙ c.if-not-passes_finder.true)

pub returns-then-total-gt-MAX_SIDE : goal.returns-then-total-gt-MAX_SIDE
returns-then-total-gt-MAX_SIDE c = long _ _ _ _ _ c.if-total-gt-MAX_SIDE.true

pub int_to_float-result : goal.int_to_float-result
int_to_float-result c = in_float_lem _ (omega (arith, c.if-total-gt-MAX_SIDE.false))

pub returns : goal.returns
returns c = passed _ _ _ _ _ (sym c.passes_finder.ensures ∙ c.if-not-passes_finder.false) c.if-total-gt-MAX_SIDE.false
