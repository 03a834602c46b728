-- The bytes of at most three detections, as of those in any answer, are 367, and those of missing ones are zero; score, mean module and lens terms are not
-- among them. Assumes nothing.
use mathlib.Core.Path.{◌≡◌, refl, ap, ◌∙◌}
use mathlib.Core.List.{List, [], ◌∷◌, ◌++◌}
use Prim.Native.Nat.{ℕ, zero, suc, ◌+◌, ◌-◌, ◌*◌, ◌%◌, ◌≤◌}
use native.Mathlib.Omega.{arith}
use lib.ListN.{length, replicate}
use lib.Ieee.{Float, to_bits, of_bits}
use Rattle.lists.specs.Lists.{padded, tabulate, flat_map}
use Rattle.lists.proofs.Folds.{flat_map-append}
use Rattle.lists.proofs.Padded.{length-padded}
use Rattle.little_endian.specs.Bytes.{bytes_le}
use Rattle.little_endian.proofs.Pieces.{length_flat}
use Rattle.finders.specs.Answer.{find_checks, finders_of}
use Rattle.candidates.specs.declared.Detection.{Detection}
use Rattle.candidates.specs.declared.Detections.{Detections}
use Rattle.candidates.specs.Detection.{zero_detection}
use Rattle.candidates.specs.Candidates.{detections_table, table_in, detections_of, detect_answer}
use Rattle.candidates.proofs.Answers.{in_checked}
use Rattle.lcr_core.specs.Answer.{checked}
use Rattle.lcr_core.specs.Outcome.{Check}
use Rattle.finders.specs.Search.{found}
use Rattle.candidates.proofs.Theorems.{three_at_most}
use Rattle.firmware.specs.Firmware.{finder_bytes, detection_bytes, detection_size, firmware_bytes, firmware_size}
use Rattle.firmware.proofs.Bytes.{length_detection}

pub zero_bytes : detection_bytes zero_detection ≡ replicate detection_size 0
unfolding detection_bytes finder_bytes bytes_le tabulate flat_map to_bits of_bits
zero_bytes = refl

-- a detection with another score and another mean module has the same bytes (document 02, N8: "the firmware's 367 bytes are unchanged")
pub ungraded : (d : Detection) (score mean : Float)
    → detection_bytes (record { finders = d.finders; marker = d.marker; version = d.version; transform = d.transform; score = score; mean = mean }) ≡ detection_bytes d
unfolding detection_bytes
ungraded d score mean = refl

-- nor has one with other lens terms any other (document 02, N12: "the eight numbers only")
pub unbent : (d : Detection) (cx cy strength : Float)
    → detection_bytes (record { finders = d.finders; marker = d.marker; version = d.version; transform = record { m = d.transform.m; cx = cx; cy = cy; strength = strength }; score = d.score; mean = d.mean }) ≡ detection_bytes d
unfolding detection_bytes
unbent d cx cy strength = refl

-- a table of three has 367 bytes
pub length_firmware : (t : Detections) → length t.at ≡ 3 → length (firmware_bytes t) ≡ firmware_size
unfolding firmware_bytes bytes_le
length_firmware t e = ap suc (length_flat detection_bytes detection_size length_detection t.at ∙ ap (λ z. detection_size * z) e)

-- so has every answer, as that for a picture of bits
answered_bytes : (cs : List Check) (ds : List Detection) → length ds ≤ 3 → length (firmware_bytes (table_in (checked cs (detections_table ds)))) ≡ firmware_size
answered_bytes cs ds l =
    in_checked (λ (t : Detections). length (firmware_bytes t) ≡ firmware_size) cs (detections_table ds)
    (length_firmware (detections_table []) (length-padded 3 zero_detection [] (omega arith)))
    (length_firmware (detections_table ds) (length-padded 3 zero_detection ds l))

pub answer_bytes : (bits : List ℕ) (w h : ℕ) → length (firmware_bytes (table_in (detect_answer bits w h))) ≡ firmware_size
unfolding detect_answer
answer_bytes bits w h =
    let fs = finders_of bits w h in
    answered_bytes (find_checks (length bits) w h (found bits w h)) (detections_of bits w h fs) (three_at_most bits w h fs)

replicate_more : {A : Type 0} (z : A) (a b : ℕ) → replicate a z ++ replicate b z ≡ replicate (a + b) z
replicate_more z zero b = ap (λ n. replicate n z) (let e : b ≡ 0 + b = omega arith in e)
replicate_more z (suc a) b = ap (λ l. z ∷ l) (replicate_more z a b) ∙ ap (λ n. replicate n z) (let e : suc (a + b) ≡ suc a + b = omega arith in e)

none-zero : (k : ℕ) → flat_map detection_bytes (replicate k zero_detection) ≡ replicate (detection_size * k) 0
unfolding flat_map
none-zero zero = refl
none-zero (suc k) = rw (zero_bytes, none-zero k) (replicate_more 0 detection_size (detection_size * k) ∙ ap (λ n. replicate n 0) (let e : detection_size + detection_size * k ≡ detection_size * suc k = omega arith in e))

-- the count, the bytes of each detection, and then zeros
pub missing_zero : (ds : List Detection) → length ds ≤ 3 → firmware_bytes (detections_table ds) ≡ padded firmware_size 0 (length ds ∷ flat_map detection_bytes ds)
unfolding firmware_bytes bytes_le
missing_zero ds h =
    let n : length ds % 256 ≡ length ds = omega arith in
    let k : detection_size * (3 - length ds) ≡ firmware_size - suc (length (flat_map detection_bytes ds)) = omega (arith, length_flat detection_bytes detection_size length_detection ds) in
    rw n (ap (λ l. length ds ∷ l) (flat_map-append detection_bytes ds (replicate (3 - length ds) zero_detection) ∙ ap (λ l. flat_map detection_bytes ds ++ l) (none-zero (3 - length ds) ∙ ap (λ n. replicate n 0) k)))
