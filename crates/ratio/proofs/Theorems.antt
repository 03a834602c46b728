-- Up to the longest side the f32 test of document 000 gives the same yes or no as the whole numbers, and so the same match. Assumes nothing.
use Rattle.std.specs.Prelude.{Some, None}
use mathlib.Core.Path.{◌≡◌, refl, sym, ap, ◌∙◌}
use mathlib.Core.Bool.{Bool, true, false, not, cond, and-false}
use Prim.Native.Nat.{ℕ, zero, suc, ◌+◌, ◌*◌, ◌≤◌, ◌<◌}
use native.Mathlib.Omega.{arith}
use lib.Dec.{ltb, lit<}
use lib.Ieee.{Float, lt, le, eq, of_bits, of_int, div}
use lib.Ieee.Exact.{HasValue}
use borrow.Author.Tests.{lt-ltb, ltb-true, le-leb}
use Rattle.float.specs.Constants.{f0}
use Rattle.float.proofs.Order.{lt_asym, eq_not_lt}
use Rattle.float.proofs.Exactly.{lt_is}
use Rattle.lcr_core.specs.Outcome.{max_side}
use Rattle.ratio.specs.Ratio.{passes, module_of, match_of, outer_of, float_passes}
use Rattle.ratio.proofs.Tolerance.{outer_is, one_test, three_test}

-- ---- the mean is above 0 if an outer run has a pixel
none : HasValue f0 false 0 1
unfolding of_bits
none = (refl, refl)

not_le : (x y : Float) → lt y x ≡ true → le x y ≡ false
unfolding le
not_le x y h = rw (lt_asym y x h) (go (eq x y) refl)
  where
    go : (b : Bool) → eq x y ≡ b → b ≡ false
    go true e = sym h ∙ (eq_not_lt x y e).1
    go false e = refl

mean_positive : (s : ℕ) → s ≤ 32768 → not (le (outer_of s) f0) ≡ ltb 0 s
unfolding le lt eq of_int div of_bits
mean_positive zero S = refl
mean_positive (suc s) S =
    let P : 0 < suc s = omega arith in
    let above : lt f0 (outer_of (suc s)) ≡ true = lt_is f0 (outer_of (suc s)) 0 1 (suc s) 4 (lit< tt) (lit< tt) none (outer_is (suc s) P S) ∙ lt-ltb (0 * 4) (suc s * 1) (omega arith) in
    ap not (not_le (outer_of (suc s)) f0 above) ∙ sym (lt-ltb 0 (suc s) P)

-- document 02, N5: "the float test stays as a definition proved to agree"
pub float_agrees : (a b c d e : ℕ) → a + b + c + d + e ≤ max_side → float_passes a b c d e ≡ passes a b c d e
unfolding float_passes passes
float_agrees a b c d e l = go (ltb 0 (a + b + d + e)) refl
  where
    S : a + b + d + e ≤ 32768
    S = omega arith

    go : (p : Bool) → ltb 0 (a + b + d + e) ≡ p → float_passes a b c d e ≡ passes a b c d e
    go true h =
        let s = a + b + d + e in
        let P : 0 < s = ltb-true 0 s h in
        rw (mean_positive s S, one_test s P S a (omega arith), one_test s P S b (omega arith), one_test s P S d (omega arith), one_test s P S e (omega arith), three_test s P S c (omega arith))
    go false h =
        let f : float_passes a b c d e ≡ false = rw (mean_positive (a + b + d + e) S, h, and-false) in
        let p : passes a b c d e ≡ false = rw (h, and-false) in
        f ∙ sym p

-- so `matches_finder` answers as document 000's function of that name
pub float_match : (a b c d e : ℕ) → a + b + c + d + e ≤ max_side → match_of a b c d e ≡ cond (float_passes a b c d e) (Some (module_of (a + b + c + d + e))) None
unfolding match_of
float_match a b c d e l = rw (le-leb (a + b + c + d + e) max_side l, float_agrees a b c d e l)
