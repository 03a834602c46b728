-- A block that counts by products with 0 or 1. Assumes nothing.
use mathlib.Core.Path.{◌≡◌}
use mathlib.Core.Bool.{Bool, true, false, cond}
use Prim.Native.Nat.{ℕ, ◌+◌, ◌-◌, ◌*◌}
use native.Mathlib.Omega.{arith}
use lib.Dec.{eqb, leb}
use Rattle.std.specs.Int.{from_bool}
use Rattle.binarize.specs.Splits.{Tally, with_block}

abbrev pub counted : Tally → ℕ → ℕ → ℕ → Tally
counted t v on one = record { low = t.low + v * (on * one); lows = t.lows + on * one; high = t.high + v * (on - on * one); highs = t.highs + (on - on * one) }

tally_same : (s t : Tally) → s.low ≡ t.low → s.lows ≡ t.lows → s.high ≡ t.high → s.highs ≡ t.highs → s ≡ t
tally_same s t e f g h = rw (e, f, g, h)

pub counted_is : (m : ℕ) (t : Tally) (v mark on one : ℕ) → on ≡ from_bool (eqb mark 1) → one ≡ from_bool (leb v m) → counted t v on one ≡ with_block m t v mark
unfolding with_block
counted_is m t v mark on one e f = rw (e, f) (go (eqb mark 1) (leb v m))
  where
    go : (p q : Bool) → counted t v (from_bool p) (from_bool q) ≡ cond p (cond q (record { low = t.low + v; lows = t.lows + 1; high = t.high; highs = t.highs })
        (record { low = t.low; lows = t.lows; high = t.high + v; highs = t.highs + 1 })) t
    go true true = tally_same _ _ (omega arith) (omega arith) (omega arith) (omega arith)
    go true false = tally_same _ _ (omega arith) (omega arith) (omega arith) (omega arith)
    go false true = tally_same _ _ (omega arith) (omega arith) (omega arith) (omega arith)
    go false false = tally_same _ _ (omega arith) (omega arith) (omega arith) (omega arith)
