-- One byte more, read below the others or put after them. Assumes nothing.
use mathlib.Core.Path.{◌≡◌}
use mathlib.Core.List.{List}
use Prim.Native.Nat.{ℕ, zero, suc, ◌+◌, ◌-◌, ◌*◌, ◌/◌, ◌%◌, ◌^◌, ◌≤◌, ◌<◌}
use native.Mathlib.Nat.{pow-suc, pow-le-pow_right}
use native.Mathlib.Omega.{arith}
use lib.ListN.{get_or, set}
use Rattle.std.proofs.Common.{Fits, w8}
use Rattle.little_endian.specs.Bytes.{bytes_le, read_le, put}

-- ---- reading

-- so many bytes make a number below that power
pub read-lt : (j : ℕ) (s : List ℕ) (i : ℕ) → ((m : ℕ) → Fits w8 (get_or s m 0)) → read_le j s i < 256 ^ j
unfolding read_le
read-lt zero s i b = omega arith
read-lt (suc j) s i b = omega (arith, pow-suc 256 j, b i, read-lt j s (i + 1) b)

-- place k - 1 of a number below those from place k on
pub read_below : (size k i : ℕ) (s : List ℕ) → 0 < k → k ≤ size → 256 * read_le (size - k) s (i + k) + get_or s (i + (k - 1)) 0 ≡ read_le (size - (k - 1)) s (i + (k - 1))
unfolding read_le
read_below size k i s p h =
    let a : size - (k - 1) ≡ suc (size - k) = omega arith in
    let b : i + (k - 1) + 1 ≡ i + k = omega arith in
    rw (a, b) (omega arith)

-- and up to eight bytes fit 64 bits
pub read_fits : (size k i : ℕ) (s : List ℕ) → 0 < k → k ≤ size → size ≤ 8 → ((m : ℕ) → Fits w8 (get_or s m 0)) → 256 * read_le (size - k) s (i + k) + get_or s (i + (k - 1)) 0 < 2 ^ 64
read_fits size k i s p h eight b =
    let few : size - (k - 1) ≤ 8 = omega arith in
    let some : 0 < 256 = omega arith in
    omega (arith, read_below size k i s p h, read-lt (size - (k - 1)) s (i + (k - 1)) b, pow-le-pow_right {n = 256} some few)

-- ---- writing

-- place k before those from place k + 1 on
pub put_before : (size k i rest : ℕ) (s : List ℕ) → k < size → put (bytes_le (size - (k + 1)) (rest / 256)) (i + (k + 1)) (set s (i + k) (rest % 256)) ≡ put (bytes_le (size - k) rest) (i + k) s
unfolding bytes_le put
put_before size k i rest s h =
    let a : size - k ≡ suc (size - (k + 1)) = omega arith in
    let b : i + k + 1 ≡ i + (k + 1) = omega arith in
    rw (a, ← b)
