-- A brighter or darker exposure moves no fix (document 02, N6), and a picture without marks is blank at every exposure. Assumes nothing.
use Rattle.std.proofs.lemmas.Bool.{or_parts}
use mathlib.Core.Path.{◌≡◌, refl, sym, ap, ◌∙◌}
use mathlib.Core.Bool.{◌||◌}
use mathlib.Core.List.{List, [], ◌∷◌}
use Prim.Native.Nat.{ℕ, zero, suc, ◌+◌, ◌-◌, ◌*◌, ◌≤◌, ◌<◌}
use native.Mathlib.Nat.{mul-le-mul_right}
use native.Mathlib.Omega.{arith}
use lib.Dec.{ltb}
use lib.ListN.{length, length-map}
use borrow.Author.Tests.{ltb-false}
use Rattle.lists.proofs.Filters.{each_get_or}
use Rattle.lcr_core.specs.Outcome.{zero_side, large_side}
use Rattle.lcr_core.specs.Passed.{Sides}
use Rattle.lcr_core.proofs.Checks.{first_passes, sides_pass}
use Rattle.lists.specs.Lists.{at}
use Rattle.gray.specs.Gray.{unknown_format, short_picture}
use Rattle.stages.specs.Stages.{Room, room_of, stages_refusal}
use Rattle.stages.specs.Pictures.{bit_picture}
use Rattle.exposure.specs.Exposure.{as_gray8, brighter, NoneAbove, darker, NoneBelow, Brighter, SameFix, Unmarked, Blank}
use Rattle.chain.proofs.Theorems.{of_its_bytes}
use Rattle.exposure.proofs.Calls.{denoised_same, chain_same, same_fix}
use Rattle.exposure.proofs.Pictures.{bits_same, unmarked_bits, unmarked_denoised, unmarked_answer}

-- every pixel of a picture of w × h pixels in rows of s bytes has its byte
pub record Whole (w h s len : ℕ) : Type 0 where
  pub sides : Sides w h
  pub bytes : (h - 1) * s + w ≤ len

-- where the stages refuse nothing
whole : (p : List ℕ) (w h s : ℕ) (r : Room) → stages_refusal (as_gray8 p w h s) r ≡ 0 → Whole w h s (length p)
unfolding stages_refusal short_picture
whole p w h s r e =
    let len = length p in
    let p1 = first_passes (zero_side w h) 0 _ e in
    let p2 = first_passes (large_side w h) 1 _ p1.1 in
    let p3 = first_passes (unknown_format 1) 2 _ p2.1 in
    let p4 = first_passes (ltb s (w * 1) || ltb len ((h - 1) * s + w * 1)) 3 _ p3.1 in
    let q = or_parts (ltb s (w * 1)) (ltb len ((h - 1) * s + w * 1)) p4.0 in
    record { sides = sides_pass w h p1.0 p2.0; bytes = omega (arith, ltb-false len ((h - 1) * s + w * 1) q.1) }

-- ---- k more in every byte
at_more : (k : ℕ) (p : List ℕ) (i : ℕ) → i < length p → at (brighter k p) i ≡ at p i + k
at_more k [] i l = absurd (omega arith)
at_more k (b ∷ p) zero l = refl
at_more k (b ∷ p) (suc i) l = at_more k p i (omega arith)

brighter_is : (k : ℕ) (p : List ℕ) (w h s : ℕ) → NoneAbove k p → (h - 1) * s + w ≤ length p → Brighter k p (brighter k p) w h s
brighter_is k p w h s above l =
    let there : (x y : ℕ) → x < w → y < h → y * s + x < length p = λ x y a b. omega (arith, mul-le-mul_right {m = y} {n = h - 1} s (omega arith)) in
    record {
      bytes = length-map p (λ b. b + k);
      more = λ x y a b. at_more k p (y * s + x) (there x y a b);
      most = λ x y a b. omega (arith, at_more k p (y * s + x) (there x y a b), each_get_or _ p (y * s + x) 0 above (there x y a b));
    }

brighter_bits : (k : ℕ) (p : List ℕ) (w h s : ℕ) → NoneAbove k p → Whole w h s (length p)
    → bit_picture (as_gray8 (brighter k p) w h s) ≡ bit_picture (as_gray8 p w h s)
brighter_bits k p w h s above a = bits_same k p (brighter k p) w h s a.sides (brighter_is k p w h s above a.bytes)

-- ---- k less in every byte: k more gives the picture back
back : (k : ℕ) (p : List ℕ) → NoneBelow k p → brighter k (darker k p) ≡ p
back k [] e = refl
back k (b ∷ p) e = let v : b - k + k ≡ b = omega (arith, e.0.0) in rw (v, back k p e.1)

none_above : (k : ℕ) (p : List ℕ) → NoneBelow k p → NoneAbove k (darker k p)
none_above k [] e = tt
none_above k (b ∷ p) e = (omega (arith, e.0.0, e.0.1), none_above k p e.1)

darker_bits : (k : ℕ) (p : List ℕ) (w h s : ℕ) → NoneBelow k p → Whole w h s (length p)
    → bit_picture (as_gray8 (darker k p) w h s) ≡ bit_picture (as_gray8 p w h s)
darker_bits k p w h s below a =
    sym (brighter_bits k (darker k p) w h s (none_above k p below) (rw (length-map p (λ b. b - k)) a))
    ∙ ap (λ (q : List ℕ). bit_picture (as_gray8 q w h s)) (back k p below)

-- ---- calls on pictures of w × h pixels in rows of s bytes, with the same slices lent
module _ (w h s : ℕ) (gray bits denoised : List ℕ) (work : List (List ℕ)) where
  accepted : (p : List ℕ) → stages_refusal (as_gray8 p w h s) (room_of gray bits denoised work) ≡ 0 → Whole w h s (length p)
  accepted p = whole p w h s (room_of gray bits denoised work)

  -- a brighter exposure moves no fix
  pub brighter_exposure : (k : ℕ) (p detections : List ℕ) → NoneAbove k p → SameFix w h s gray bits denoised work detections p (brighter k p)
  brighter_exposure k p detections above =
      same_fix p (brighter k p) w h s gray bits denoised work detections (length-map p (λ b. b + k)) (λ z. brighter_bits k p w h s above (accepted p z))

  -- nor does a darker exposure
  pub darker_exposure : (k : ℕ) (p detections : List ℕ) → NoneBelow k p → SameFix w h s gray bits denoised work detections p (darker k p)
  darker_exposure k p detections below =
      same_fix p (darker k p) w h s gray bits denoised work detections (length-map p (λ b. b - k)) (λ z. darker_bits k p w h s below (accepted p z))

  -- nor one that leaves other bytes between and behind the rows
  pub pixel_exposure : (k : ℕ) (p q detections : List ℕ) → Brighter k p q w h s → SameFix w h s gray bits denoised work detections p q
  pixel_exposure k p q detections b =
      same_fix p q w h s gray bits denoised work detections b.bytes (λ z. bits_same k p q w h s (accepted p z).sides b)

  -- a picture without marks, which is not refused by 1 to 5, is blank at either exposure
  blank : (p q : List ℕ) → stages_refusal (as_gray8 p w h s) (room_of gray bits denoised work) ≡ 0
      → bit_picture (as_gray8 q w h s) ≡ bit_picture (as_gray8 p w h s) → Unmarked p w h s
      → Blank p w h s × Blank q w h s
  blank p q z e u =
      let dark = unmarked_bits p w h s u in
      let noise = unmarked_denoised p w h s u in
      let found = unmarked_answer p w h s (length p) (room_of gray bits denoised work) (of_its_bytes (as_gray8 p w h s) (room_of gray bits denoised work) z) u in (
        record { bits = dark; denoised = noise; answer = found },
        record { bits = rw e dark; denoised = rw (denoised_same p q w h s e) noise; answer = chain_same p q w h s e ∙ found },
      )

  pub brighter_unmarked : (k : ℕ) (p : List ℕ) → NoneAbove k p → stages_refusal (as_gray8 p w h s) (room_of gray bits denoised work) ≡ 0 → Unmarked p w h s
      → Blank p w h s × Blank (brighter k p) w h s
  brighter_unmarked k p above z = blank p (brighter k p) z (brighter_bits k p w h s above (accepted p z))

  pub darker_unmarked : (k : ℕ) (p : List ℕ) → NoneBelow k p → stages_refusal (as_gray8 p w h s) (room_of gray bits denoised work) ≡ 0 → Unmarked p w h s
      → Blank p w h s × Blank (darker k p) w h s
  darker_unmarked k p below z = blank p (darker k p) z (darker_bits k p w h s below (accepted p z))
