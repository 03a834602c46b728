-- `math::reduce` meets its contract. Assumes nothing.
use Rattle.std.proofs.Common.{◌≡◌, ℕ, ◌≤◌, ◌<◌, length, get_or}
use lib.Ieee.{nan}
use Rattle.float.specs.Steps.{◌⊟◌, ◌⊠◌}
use Rattle.math.proofs.reduce.Given as goal

abbrev pub invariant-loop-k : goal.invariant-loop-k
invariant-loop-k g l = record {
  len : length l.row ≡ g.row.N;
  before : (j : ℕ) → j < l.c → get_or l.row j nan ≡ get_or l.initial.row j nan;
  after : (j : ℕ) → l.c ≤ j → j < l.k → get_or l.row j nan ≡ get_or l.initial.row j nan ⊟ l.f ⊠ get_or l.pivot j nan;
  left : (j : ℕ) → l.k ≤ j → get_or l.row j nan ≡ get_or l.initial.row j nan;
}
