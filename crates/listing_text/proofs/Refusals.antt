-- What is refused of an input, what is known where nothing is, and that the stages then refuse nothing. Assumes nothing.
use mathlib.Core.Path.{◌≡◌, sym}
use mathlib.Core.Bool.{false}
use mathlib.Core.List.{List, [], ◌∷◌}
use Prim.Native.Nat.{ℕ, ◌+◌, ◌-◌, ◌*◌, ◌≤◌, ◌<◌}
use native.Mathlib.Omega.{arith}
use lib.Dec.{ltb}
use lib.ListN.{length, drop, length-drop}
use borrow.Author.Tests.{lt-ltb, le-ltb, ltb-false}
use Rattle.lists.proofs.Numbers.{mul_bound, row_within}
use Rattle.lcr_core.specs.declared.Refusal.{Refusal}
use Rattle.lcr_core.specs.Outcome.{refusal_number, first_of, zero_side, large_side, sides_refusal}
use Rattle.lcr_core.specs.Passed.{Sides}
use Rattle.lcr_core.proofs.Checks.{first_passes, refused_first, sides_pass, sides_allowed}
use Rattle.binary.specs.Binary.{bytes_of}
use Rattle.blocks.specs.Blocks.{blocks_on, blocks_in, under}
use Rattle.gray.specs.Gray.{unknown_format, short_picture}
use Rattle.stages.specs.Pictures.{as_picture}
use Rattle.stages.specs.Stages.{Room, short_room, stages_refusal}
use Rattle.listing_text.specs.Inner.{ListingPassed}
use Rattle.listing_text.specs.Listing.{max_pixels, width_of, height_of, gray_bytes, listing_checks, listing_refusal}

-- ---- each refusal
pub refuses_few : (l : List ℕ) → length l < 4 → 4 ≡ listing_refusal l
unfolding listing_refusal
refuses_few l p = rw (lt-ltb (length l) 4 p)

module _ (l : List ℕ) (w h : ℕ) (e : w ≡ width_of l) (f : h ≡ height_of l) (long : 4 ≤ length l) where
  pub refuses_sides : (r : Refusal) → refusal_number r ≡ sides_refusal w h → refusal_number r ≡ listing_refusal l
  unfolding listing_refusal sides_refusal
  refuses_sides r q =
      let later : refusal_number r ≡ first_of (drop 1 (listing_checks l)) = refused_first 2 (drop 1 (listing_checks l)) r (rw (← e, ← f) q) in
      rw (le-ltb (length l) 4 long) later

  module _ (s : 0 ≡ sides_refusal w h) (n : ℕ) (ns : n ≡ w * h) where
    zero : zero_side w h ≡ false
    zero = sym (sides_allowed w h s).0

    large : large_side w h ≡ false
    large = sym (sides_allowed w h s).1

    pub refuses_many : max_pixels < n → 5 ≡ listing_refusal l
    unfolding listing_refusal
    refuses_many t = rw (le-ltb (length l) 4 long, ← e, ← f, zero, large, ← ns, lt-ltb max_pixels n t)

    pub refuses_short : n ≤ max_pixels → length l - 4 < n → 4 ≡ listing_refusal l
    unfolding listing_refusal
    refuses_short m t =
        let u : length (drop 4 l) < n = simp length-drop (omega arith) in
        rw (le-ltb (length l) 4 long, ← e, ← f, zero, large, ← ns, le-ltb max_pixels n m, lt-ltb (length (drop 4 l)) n u)

    pub refuses_none : n ≤ max_pixels → n ≤ length l - 4 → 0 ≡ listing_refusal l
    unfolding listing_refusal
    refuses_none m t =
        let u : n ≤ length (drop 4 l) = simp length-drop (omega arith) in
        rw (le-ltb (length l) 4 long, ← e, ← f, zero, large, ← ns, le-ltb max_pixels n m, le-ltb (length (drop 4 l)) n u)

-- ---- nothing is refused
pub passed : (l : List ℕ) → listing_refusal l ≡ 0 → (4 ≤ length l) × ListingPassed (width_of l) (height_of l) (gray_bytes l)
unfolding listing_refusal
passed l e =
    let w = width_of l in
    let h = height_of l in
    let p1 = first_passes (ltb (length l) 4) 3 _ e in
    let p2 = first_passes (zero_side w h) 0 _ p1.1 in
    let p3 = first_passes (large_side w h) 1 _ p2.1 in
    let p4 = first_passes (ltb max_pixels (w * h)) 4 _ p3.1 in
    let p5 = first_passes (ltb (length (gray_bytes l)) (w * h)) 3 _ p4.1 in
    (ltb-false (length l) 4 p1.0, (p2.0, p3.0, ltb-false max_pixels (w * h) p4.0, ltb-false (length (gray_bytes l)) (w * h) p5.0))

-- what the text of a picture asks for
pub ready : (l p : List ℕ) (w h : ℕ) → listing_refusal l ≡ 0 → w ≡ width_of l → h ≡ height_of l → p ≡ gray_bytes l → ListingPassed w h p
ready l p w h z e f g = rw (e, f, g) (passed l z).1

-- ---- the stages
-- a picture of so few pixels has so few blocks
blocks_few : (w h : ℕ) → Sides w h → w * h ≤ max_pixels → blocks_in w h ≤ 1600
blocks_few w h s m =
    let a : 8 * blocks_on h ≤ h + 7 = omega arith in
    let b : 8 * blocks_on w ≤ w + 7 = omega arith in
    let p : 8 * blocks_on h * (8 * blocks_on w) ≤ (h + 7) * (w + 7) = mul_bound (8 * blocks_on h) (8 * blocks_on w) (h + 7) (w + 7) a b in
    let x : 8 * blocks_on h * (8 * blocks_on w) ≡ 64 * (blocks_on h * blocks_on w) = omega arith in
    let y : (h + 7) * (w + 7) ≡ w * h + 7 * w + 7 * h + 49 = omega arith in
    let u = s.w_most in
    let v = s.h_most in
    omega (arith, p, x, y, m, u, v)

-- the room in the slices
abbrev pub slices_room : Room
slices_room = record { gray = max_pixels; bits = 5000; denoised = 5000; work = 1600 ∷ 1600 ∷ 1600 ∷ 1600 ∷ 1600 ∷ [] }

module _ (w h : ℕ) (p : List ℕ) (k : ListingPassed w h p) where
  few : blocks_in w h ≤ 1600
  few = blocks_few w h (sides_pass w h k.0 k.1) k.2

  long_picture : short_picture (length p) w h w 1 ≡ false
  unfolding short_picture
  long_picture =
      let s = sides_pass w h k.0 k.1 in
      let a : w * 1 ≤ w = omega arith in
      let b : (h - 1) * w + w ≤ h * w = row_within (h - 1) h w (omega (arith, s.h_pos)) in
      let c : (h - 1) * w + w * 1 ≤ length p = omega (arith, b, k.3) in
      rw (le-ltb w (w * 1) a, le-ltb (length p) ((h - 1) * w + w * 1) c)

  enough_room : short_room w h slices_room ≡ false
  unfolding short_room under
  enough_room =
      let b : bytes_of (w * h) ≤ 5000 = omega (arith, k.2) in
      rw (le-ltb max_pixels (w * h) k.2, le-ltb 5000 (bytes_of (w * h)) b, le-ltb 1600 (blocks_in w h) few)

  -- refuse nothing in slices that are enough for any such picture
  pub stages_pass : stages_refusal (as_picture p w h w 1) slices_room ≡ 0
  unfolding stages_refusal unknown_format
  stages_pass = rw (k.0, k.1, long_picture, enough_room)
