-- The refusals of the stages one after the other are those of the whole, and what they leave where nothing is refused. Assumes nothing.
use Rattle.std.proofs.lemmas.Bool.{or_parts}
use mathlib.Core.Path.{◌≡◌, refl, sym, ap, ◌∙◌}
use mathlib.Core.Bool.{Bool, true, false, cond, ◌||◌}
use mathlib.Core.List.{List}
use Prim.Native.Nat.{ℕ, ◌*◌, ◌≤◌}
use native.Mathlib.Omega.{arith}
use lib.ListN.{length}
use lib.Dec.{ltb}
use borrow.Author.Tests.{ltb-false}
use Rattle.lists.specs.Lists.{filled}
use Rattle.lists.proofs.Tabulate.{length-filled}
use Rattle.lcr_core.specs.Outcome.{zero_side, large_side}
use Rattle.lcr_core.proofs.Checks.{first_passes, if_refused_done}
use Rattle.binary.specs.Binary.{byte_of, bytes_of}
use Rattle.binary.specs.Refusal.{short_bits}
use Rattle.blocks.specs.Blocks.{blocks_in, under}
use Rattle.gray.specs.Gray.{unknown_format, short_picture, gray_refusal, gray_at, gray_written}
use Rattle.denoise.specs.Denoise.{denoised_refusal, denoised_at, denoised_written}
use Rattle.binarize.specs.Binarize.{binarize_refusal}
use Rattle.stages.specs.Stages.{Room, short_room, refusal_of, stages_refusal}
use Rattle.stages.specs.Pictures.{Picture}

-- the checks of gray conversion; those of all stages have the same with more behind number 5
abbrev five : Bool → Bool → Bool → Bool → Bool → ℕ
five z l u p r = cond z 1 (cond l 2 (cond u 3 (cond p 4 (cond r 5 0))))

-- 5 where there is too little room
abbrev short : Bool → ℕ
short b = cond b 5 0

module _ (len w h s f : ℕ) (r : Room) where
  abbrev gray_first : ℕ
  gray_first = gray_refusal len w h s f r.gray

  abbrev bits_then : ℕ
  bits_then = binarize_refusal r.gray w h r.bits r.work

  abbrev all : ℕ
  all = refusal_of len w h s f r

  -- what gray conversion refuses is refused with the same number
  pub gray_refused : (gray_first ≡ 0 → ⊥) → gray_first ≡ all
  unfolding gray_refusal refusal_of short_room
  gray_refused =
      go (zero_side w h) (large_side w h) (unknown_format f) (short_picture len w h s f) (ltb r.gray (w * h)) (ltb r.bits (bytes_of (w * h))) (ltb r.denoised (bytes_of (w * h))) (under (blocks_in w h) r.work)
    where
      go : (z l u p g b d k : Bool) → (five z l u p g ≡ 0 → ⊥) → five z l u p g ≡ five z l u p (g || b || d || k)
      go true l u p g b d k n = refl
      go false true u p g b d k n = refl
      go false false true p g b d k n = refl
      go false false false true g b d k n = refl
      go false false false false true b d k n = refl
      go false false false false false b d k n = absurd (n refl)

  -- where it refuses nothing
  gray_passes : gray_first ≡ 0
      → (zero_side w h ≡ false) × (large_side w h ≡ false) × (unknown_format f ≡ false) × (short_picture len w h s f ≡ false) × (ltb r.gray (w * h) ≡ false)
  unfolding gray_refusal
  gray_passes e =
      let p1 = first_passes (zero_side w h) 0 _ e in
      let p2 = first_passes (large_side w h) 1 _ p1.1 in
      let p3 = first_passes (unknown_format f) 2 _ p2.1 in
      let p4 = first_passes (short_picture len w h s f) 3 _ p3.1 in
      let p5 = first_passes (ltb r.gray (w * h)) 4 _ p4.1 in
      (p1.0, p2.0, p3.0, p4.0, p5.0)

  -- then what black and white conversion refuses
  pub bits_refused : gray_first ≡ 0 → (bits_then ≡ 0 → ⊥) → bits_then ≡ all
  unfolding binarize_refusal refusal_of short_room
  bits_refused e =
      let q = gray_passes e in
      rw (q.0, q.1, q.2, q.3, q.4) (go (ltb r.bits (bytes_of (w * h))) (ltb r.denoised (bytes_of (w * h))) (under (blocks_in w h) r.work))
    where
      go : (b d k : Bool) → (short (b || k) ≡ 0 → ⊥) → short (b || k) ≡ short (b || d || k)
      go true d k n = refl
      go false true true n = refl
      go false false true n = refl
      go false d false n = absurd (n refl)

  -- otherwise denoising decides
  pub denoised_decides : gray_first ≡ 0 → bits_then ≡ 0 → denoised_refusal r.bits w h r.denoised ≡ all
  unfolding binarize_refusal denoised_refusal short_bits refusal_of short_room
  denoised_decides e =
      let q = gray_passes e in
      rw (q.0, q.1, q.2, q.3, q.4) (go (ltb r.bits (bytes_of (w * h))) (ltb r.denoised (bytes_of (w * h))) (under (blocks_in w h) r.work))
    where
      go : (b d k : Bool) → short (b || k) ≡ 0 → cond b 4 (short d) ≡ short (b || d || k)
      go true d k n = absurd (omega arith)
      go false d true n = absurd (omega arith)
      go false true false n = refl
      go false false false n = refl

  -- where nothing is refused, no stage refuses, and there is room
  pub passes : all ≡ 0 → (gray_first ≡ 0) × (bits_then ≡ 0) × (denoised_refusal r.bits w h r.denoised ≡ 0) × (w * h ≤ r.gray) × (bytes_of (w * h) ≤ r.bits)
  unfolding gray_refusal binarize_refusal denoised_refusal short_bits refusal_of short_room
  passes e =
      let p1 = first_passes (zero_side w h) 0 _ e in
      let p2 = first_passes (large_side w h) 1 _ p1.1 in
      let p3 = first_passes (unknown_format f) 2 _ p2.1 in
      let p4 = first_passes (short_picture len w h s f) 3 _ p3.1 in
      let p5 = first_passes (short_room w h r) 4 _ p4.1 in
      let q1 = or_parts (ltb r.gray (w * h) || ltb r.bits (bytes_of (w * h)) || ltb r.denoised (bytes_of (w * h))) (under (blocks_in w h) r.work) p5.0 in
      let q2 = or_parts (ltb r.gray (w * h) || ltb r.bits (bytes_of (w * h))) (ltb r.denoised (bytes_of (w * h))) q1.0 in
      let q3 = or_parts (ltb r.gray (w * h)) (ltb r.bits (bytes_of (w * h))) q2.0 in (
        simp (p1.0, p2.0, p3.0, p4.0, q3.0),
        simp (p1.0, p2.0, q3.0, q3.1, q1.1),
        simp (p1.0, p2.0, q3.1, q2.1),
        ltb-false r.gray (w * h) q3.0,
        ltb-false r.bits (bytes_of (w * h)) q3.1,
      )

-- what the stages leave where nothing is refused
module _ (p : Picture) (gray bits denoised : List ℕ) (work : List ℕ) where
  abbrev room : Room
  room = record { gray = length gray; bits = length bits; denoised = length denoised; work = work }

  abbrev n : ℕ
  n = p.width * p.height

  module _ (zero : stages_refusal p room ≡ 0) where
    -- the gray picture is written, and black and white conversion does not refuse it
    pub gray_done : (new : List ℕ) → new ≡ gray_written p.bytes p.width p.height p.stride p.format gray
        → (new ≡ filled n (gray_at p.bytes p.width p.stride p.format) gray) × (binarize_refusal (length new) p.width p.height (length bits) work ≡ 0)
    unfolding gray_written stages_refusal refusal_of
    gray_done new e =
        let t = passes (length p.bytes) p.width p.height p.stride p.format room zero in
        let k = e ∙ sym (if_refused_done _ _ _ t.0) in
        let l : length new ≡ length gray = ap length k ∙ length-filled n (gray_at p.bytes p.width p.stride p.format) gray t.3 in
        (k, rw l t.1)

    -- the bits are written, and denoised
    pub denoised_done : (new out : List ℕ) (b : ℕ → ℕ) → new ≡ filled (bytes_of n) b bits → out ≡ denoised_written new p.width p.height denoised
        → out ≡ filled (bytes_of n) (byte_of (denoised_at new p.width p.height)) denoised
    unfolding denoised_written stages_refusal refusal_of
    denoised_done new out b k e =
        let t = passes (length p.bytes) p.width p.height p.stride p.format room zero in
        let l : length new ≡ length bits = ap length k ∙ length-filled (bytes_of n) b bits t.4 in
        let z : denoised_refusal (length new) p.width p.height (length denoised) ≡ 0 = rw l t.2 in
        e ∙ sym (if_refused_done _ _ _ z)
