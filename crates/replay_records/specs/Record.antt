-- To be believed. Parts of records and answers (docs/REPLAY.md, "Form"): "All numbers are little-endian, floats are their bits." A byte beyond a slice reads
-- as 0 and is not written. The bytes of floats, finders, transforms and detections are the firmware's.
use Rattle.std.specs.Prelude.{◌≡◌, ℕ, zero, suc, ◌+◌, ◌*◌, ◌/◌, ◌%◌, ◌^◌, ◌≤◌, min, Bool, true, false, cond, Option, IfSome, List, [], ◌∷◌, ◌++◌, length, take, drop, replicate, ◌==◌, bit_xor, from_bits, nat_lt, slice_index, slice_index_or, Float}
use Rattle.std.specs.Float.{nan, binary32, binary64}
use Rattle.lists.specs.Lists.{tabulate, flat_map, folded}
use Rattle.little_endian.specs.Bytes.{bytes_le, read_le, put, single_bytes, double_bytes}
use Rattle.lcr_core.specs.declared.point.Point.{Point}
use Rattle.transform.specs.declared.Transform.{Transform}
use Rattle.transform.specs.Fit.{plain}
use Rattle.lcr_core.specs.declared.finder.Finder.{Finder}
use Rattle.geometry.specs.declared.Corners.{Corners}
use Rattle.finders.specs.declared.Finders.{Finders}
use Rattle.finders.specs.Search.{max_finders}
use Rattle.finders.specs.Answer.{held_in}
use Rattle.candidates.specs.declared.Detection.{Detection}
use Rattle.candidates.specs.declared.Detections.{Detections}
use Rattle.replay_records.specs.declared.Call.{Call}
use Rattle.replay_records.specs.declared.Line.{Line}
use Rattle.firmware.specs.Firmware.{finder_bytes, transform_bytes, detection_size, firmware_bytes}

-- ---- what stands at a place of a record
-- f32
abbrev pub float_at : List ℕ → ℕ → Float
float_at p i = from_bits binary32 (read_le 4 p i)

-- f64
abbrev pub double_at : List ℕ → ℕ → Float
double_at p i = from_bits binary64 (read_le 8 p i)

-- n f64, one after the other
abbrev pub doubles_at : ℕ → List ℕ → ℕ → List Float
doubles_at n p i = tabulate n (λ k. double_at p (i + 8 * k))

-- point: x, y
abbrev pub point_at : List ℕ → ℕ → Point
point_at p i = record { x = float_at p i; y = float_at p (i + 4) }

-- transform: the eight numbers
abbrev pub transform_at : List ℕ → ℕ → Transform
transform_at p i = plain (doubles_at 8 p i)

-- lens transform: the eight numbers, cx, cy, strength
abbrev pub lens_at : List ℕ → ℕ → Transform
lens_at p i = record { m = doubles_at 8 p i; cx = double_at p (i + 64); cy = double_at p (i + 72); strength = double_at p (i + 80) }

-- finder: x, y, module, confirmations
abbrev pub read_finder : List ℕ → ℕ → Finder
read_finder p i = record { x = float_at p i; y = float_at p (i + 4); «module» = float_at p (i + 8); confirmations = read_le 4 p (i + 12) }

-- three finders
abbrev pub corners_at : List ℕ → ℕ → Corners
corners_at p i = record { tl = read_finder p i; tr = read_finder p (i + 16); bl = read_finder p (i + 32) }

-- a table of n finders; every place of it is read, those from the n-th on too
unfoldable pub finders_at : List ℕ → ℕ → ℕ → Finders
finders_at p i n = record { count = n; table = tabulate max_finders (λ k. read_finder p (i + 16 * k)) }

-- ---- what is put into an answer
-- flag: 1 or 0
abbrev pub flag_bytes : Bool → List ℕ
flag_bytes b = cond b 1 0 ∷ []

-- point
abbrev pub point_bytes : Point → List ℕ
point_bytes q = single_bytes q.x ++ single_bytes q.y

-- eight f64
abbrev pub doubles_bytes : List Float → List ℕ
doubles_bytes xs = flat_map double_bytes (tabulate 8 (λ i. slice_index_or xs i nan))

-- lens transform
abbrev pub lens_bytes : Transform → List ℕ
lens_bytes t = transform_bytes t ++ (double_bytes t.cx ++ (double_bytes t.cy ++ double_bytes t.strength))

-- count, two bytes, and finders
abbrev pub finders_bytes : Finders → List ℕ
finders_bytes t = bytes_le 2 t.count ++ flat_map finder_bytes (held_in t)

-- refusal number, count and finders
abbrev pub preview_bytes : ℕ → Finders → List ℕ
preview_bytes refusal t = refusal ∷ finders_bytes t

-- refusal number, count and detections
abbrev pub detections_bytes : ℕ → Detections → List ℕ
detections_bytes refusal t = refusal ∷ firmware_bytes t

-- the place behind the detections of a table: there are at most three, and the remainder keeps it within the answer whatever the count
abbrev pub grades_at : Detections → ℕ
grades_at t = 2 + detection_size * (t.count % 4)

-- score, mean module
abbrev pub grade_bytes : Detection → List ℕ
grade_bytes d = single_bytes d.score ++ single_bytes d.mean

-- those of the three places: 24 bytes
abbrev pub grades_bytes : Detections → List ℕ
grades_bytes t = flat_map grade_bytes t.at

-- ---- lent slices
-- the longest slice that is lent
abbrev pub longest : ℕ
longest = 262144

-- length: that of a slice that is lent, as the record has it at a place
abbrev pub length_at : List ℕ → ℕ → ℕ
length_at p i = read_le 4 p i

-- the part of an array that is lent
abbrev pub lent_part : List ℕ → ℕ → List ℕ → List ℕ
lent_part p i a = take (length_at p i) a

-- whether none of the n lengths from place i on is over the longest
unfoldable pub lendable_at : List ℕ → ℕ → ℕ → Bool
lendable_at p i zero = true
lendable_at p i (suc n) = cond (nat_lt longest (length_at p i)) false (lendable_at p (i + 4) n)

-- a lent slice of n bytes before the call: 0, 1, .., 250, 0, 1, ..
abbrev pub lent_bytes : ℕ → List ℕ
lent_bytes n = tabulate n (λ i. i % 251)

-- one byte more of the hash: first exclusive or, then times 100000001b3 modulo 2 to the 64th
abbrev pub hash_step : ℕ → ℕ → ℕ
hash_step h b = bit_xor h b * 1099511628211 % 2 ^ 64

-- the hash, FNV-1a of 64 bits: from cbf29ce484222325
abbrev pub hash_of : List ℕ → ℕ
hash_of s = folded hash_step 14695981039346656037 s

-- slice: a lent slice as the call left it, its length in four bytes and the hash of its bytes in eight
unfoldable pub slice_bytes : List ℕ → List ℕ
slice_bytes s = bytes_le 4 (length s) ++ bytes_le 8 (hash_of s)

-- ---- the record itself
-- the bytes of a function's payload before its lists and its rest: (function, bytes)
abbrev pub fixed_parts : List (ℕ × ℕ)
fixed_parts =
    (1, 1) ∷ (2, 1) ∷ (3, 1) ∷ (4, 2) ∷ (5, 3) ∷ (6, 4) ∷ (7, 3) ∷ (8, 3)
    ∷ (16, 17) ∷ (17, 32) ∷ (18, 12)
    ∷ (32, 8) ∷ (34, 16) ∷ (36, 10) ∷ (37, 10)
    ∷ (48, 336) ∷ (49, 576) ∷ (50, 64) ∷ (51, 48) ∷ (52, 96) ∷ (53, 92) ∷ (54, 92) ∷ (55, 90) ∷ (56, 48) ∷ (57, 48) ∷ (58, 58) ∷ (59, 76)
    ∷ (64, 20) ∷ (65, 97) ∷ (66, 101) ∷ (67, 149)
    ∷ (80, 12) ∷ (81, 8) ∷ (82, 8)
    ∷ (96, 45) ∷ (97, 45)
    ∷ []

-- the second number of the first pair that begins with f, 0 where none does
unfoldable pub lookup : ℕ → List (ℕ × ℕ) → ℕ
lookup f [] = 0
lookup f (e ∷ rest) = cond (f == e.0) e.1 (lookup f rest)

-- the fixed part of one function's payload, 0 for a function that is not listed
unfoldable pub fixed_part : ℕ → ℕ
fixed_part f = lookup f fixed_parts

-- the number of a function that is asked for, 0, which no function has, where its payload of len bytes is shorter than its fixed part
abbrev pub asked_of : ℕ → ℕ → ℕ
asked_of f len = cond (nat_lt len (fixed_part f)) 0 f

-- what holds of a slice before and after a record was read into it: no record, or one whose payload of len bytes stands at the front, what follows it untouched
abbrev pub ReadInto : Option Call → List ℕ → List ℕ → Type 0
ReadInto r before after =
    (length after ≡ length before)
    × IfSome r (λ (c : Call). (c.len ≤ length after) × (fixed_part c.function ≤ c.len) × (drop c.len after ≡ drop c.len before))

-- ---- the line
-- a hexadecimal digit, lower case
abbrev pub digit_of : ℕ → ℕ
digit_of n = cond (nat_lt n 10) (48 + n) (87 + n)

-- a byte: two digits
unfoldable pub byte_digits : ℕ → List ℕ
byte_digits b = digit_of (b / 16 % 16) ∷ digit_of (b % 16) ∷ []

-- the digits of the first n bytes of an answer, and a line feed
abbrev pub digits_line : ℕ → List ℕ → List ℕ
digits_line n out = flat_map byte_digits (tabulate n (λ i. slice_index out i)) ++ (10 ∷ [])

-- the most bytes of an answer, those of record 97: refusal number, count, a full table of finders and the eight slices
abbrev pub most_bytes : ℕ
most_bytes = 1 + 2 + 16 * max_finders + 8 * 12

-- the most bytes of its line
abbrev pub line_room : ℕ
line_room = 2 * most_bytes + 1

-- the line that answers a call by the first n bytes, or as many as there are: `-` where n is 0
unfoldable pub answer_line : ℕ → List ℕ → List ℕ
answer_line n out = cond (n == 0) (45 ∷ 10 ∷ []) (digits_line (min n most_bytes) out)

-- the bytes of a line, with zeros behind them up to the longest
abbrev pub line_of : List ℕ → Line
line_of bytes = record { text = put bytes 0 (replicate line_room 0); len = length bytes }
