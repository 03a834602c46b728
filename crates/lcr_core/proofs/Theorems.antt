-- A version is found by its side, and what is found has that side. Assumes nothing.
use Rattle.std.proofs.lemmas.Bool.{and_parts}
use mathlib.Core.Path.{◌≡◌, refl, ap}
use mathlib.Core.Bool.{Bool, true, false, cond, ◌&&◌}
use Prim.Native.Nat.{ℕ, ◌+◌, ◌-◌, ◌*◌, ◌/◌, ◌%◌, ◌≤◌}
use native.Mathlib.Omega.{arith}
use lib.Dec.{leb, eqb}
use borrow.Author.Tests.{le-leb, eq-eqb, leb-true, eqb-true}
use Rattle.std.specs.Prelude.{Some, None}
use Rattle.lcr_core.specs.Version.{side_of, of_side}
use Rattle.lcr_core.specs.declared.version.Version.{Version}

by_side : (v : ℕ) → 1 ≤ v → v ≤ 64 → of_side (side_of v) ≡ Some (record { 0 = v })
by_side v h l =
    let whole : (17 + 4 * v - 17) % 4 ≡ 0 = omega arith in
    let same : (17 + 4 * v - 17) / 4 ≡ v = omega arith in
    rw (le-leb 21 (17 + 4 * v) (omega arith), le-leb (17 + 4 * v) 273 (omega arith), eq-eqb _ 0 whole) (ap (λ (n : ℕ). Some (record { 0 = n })) same)

its_side : (s : ℕ) (v : Version) → of_side s ≡ Some v → (side_of v.0 ≡ s) × ((1 ≤ v.0) × (v.0 ≤ 64))
its_side s v h = go (leb 21 s && leb s 273 && eqb ((s - 17) % 4) 0) refl h
  where
    go : (b : Bool) → (leb 21 s && leb s 273 && eqb ((s - 17) % 4) 0) ≡ b → cond b (Some (record { 0 = (s - 17) / 4 })) None ≡ Some v → (side_of v.0 ≡ s) × ((1 ≤ v.0) × (v.0 ≤ 64))
    go false e k = let z : ◌≡◌ {A = ℕ} 0 1 = cc in absurd (omega arith)
    go true e k =
        let n : v.0 ≡ (s - 17) / 4 = cc in
        let p = and_parts (leb 21 s && leb s 273) _ e in
        let q = and_parts (leb 21 s) _ p.0 in
        omega (arith, leb-true 21 s q.0, leb-true s 273 q.1, eqb-true ((s - 17) % 4) 0 p.1, n)
