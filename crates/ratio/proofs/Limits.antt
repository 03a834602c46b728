-- A run r is at most k / 20 from n / 4 pixels, told by its limits in 80ths and without the distance. Assumes nothing.
use mathlib.Core.Path.{◌≡◌, refl, sym}
use mathlib.Core.Bool.{Bool, true, false, ◌&&◌}
use Prim.Native.Nat.{ℕ, ◌+◌, ◌*◌, ◌≤◌, ◌<◌}
use native.Mathlib.Omega.{arith}
use lib.Dec.{leb}
use borrow.Author.Tests.{leb-true, leb-false, lt-leb, le-leb}
use Rattle.lists.specs.Lists.{dist}

pub limits : (r n k lo hi : ℕ) → 20 * n ≡ lo + k → hi ≡ 20 * n + k → leb lo (80 * r) && leb (80 * r) hi ≡ leb (20 * dist (4 * r) n) k
limits r n k lo hi l h = go (leb lo (80 * r)) (leb (80 * r) hi) refl refl
  where
    go : (t u : Bool) → leb lo (80 * r) ≡ t → leb (80 * r) hi ≡ u → t && u ≡ leb (20 * dist (4 * r) n) k
    go true true p q =
        let a : lo ≤ 80 * r = leb-true lo (80 * r) p in
        let b : 80 * r ≤ hi = leb-true (80 * r) hi q in
        sym (le-leb (20 * dist (4 * r) n) k (omega arith))
    go true false p q = let b : hi < 80 * r = leb-false (80 * r) hi q in sym (lt-leb (20 * dist (4 * r) n) k (omega arith))
    go false u p q = let a : 80 * r < lo = leb-false lo (80 * r) p in sym (lt-leb (20 * dist (4 * r) n) k (omega arith))
