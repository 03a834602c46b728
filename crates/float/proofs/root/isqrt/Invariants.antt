-- `float::root::isqrt` meets its contract. The root lies from r up to r + 2 ^ j. Assumes nothing.
use Prim.Native.Nat.{◌+◌, ◌*◌, ◌^◌, ◌≤◌, ◌<◌}
use Rattle.float.proofs.root.isqrt.Given as goal

abbrev pub invariant-loop-j : goal.invariant-loop-j
invariant-loop-j l = (l.r * l.r ≤ l.n) × (l.n < (l.r + 2 ^ l.j) * (l.r + 2 ^ l.j)) × (l.r + 2 ^ l.j ≤ 2 ^ 25)
