-- What is known of a picture and a version that are not refused. Assumes nothing.
use mathlib.Core.Path.{◌≡◌, refl}
use mathlib.Core.Bool.{Bool, true, false, not, ◌&&◌, true≢false}
use Prim.Native.Nat.{ℕ, ◌≤◌}
use lib.Dec.{leb}
use borrow.Author.Tests.{leb-true}
use Rattle.lcr_core.specs.Outcome.{zero_side, large_side}
use Rattle.lcr_core.specs.Version.{valid}
use Rattle.lcr_core.proofs.Checks.{first_passes}
use Rattle.binary.specs.Refusal.{short_bits}
use Rattle.alignment.specs.Alignment.{alignment_refusal}

second : (a b : Bool) → not (a && b) ≡ false → b ≡ true
second true true e = refl
second true false e = absurd (true≢false e)
second false b e = absurd (true≢false e)

pub version_most : (len w h v : ℕ) → alignment_refusal len w h v ≡ 0 → v ≤ 64
unfolding alignment_refusal
version_most len w h v e =
    let p = first_passes (zero_side w h) 0 _ e in
    let q = first_passes (large_side w h) 1 _ p.1 in
    let r = first_passes (short_bits len w h) 3 _ q.1 in
    let s = first_passes (not (valid v)) 6 _ r.1 in
    leb-true v 64 (second (leb 1 v) (leb v 64) s.0)
