-- Parts of records as they are read, and of answers as they are written, one after the other. Assumes nothing.
use Rattle.std.proofs.Common.{◌≡◌, ℕ, zero, suc, ◌+◌, ◌-◌, ◌*◌, ◌/◌, ◌%◌, ◌^◌, ◌<◌, ◌≤◌, min, Bool, true, false, cond, eqb, List, [], ◌∷◌, ◌++◌, length, get_or, take, drop, set, replicate, sym, refl, ap, ◌∙◌, append-nil, add-zero, add-one, arith, length-append, ◌⊎◌, inl, inr}
use Rattle.std.proofs.lemmas.Bool.{cases_lt}
use Rattle.std.proofs.lemmas.List.{get_or-drop, get_or-take}
use Rattle.std.proofs.Math.Nat.{pow-le-pow_right}
use lib.Seq.{take-length, drop-length}
use lib.Ieee.{binary32, binary64, to_bits, of_bits}
use Rattle.std.specs.Int.{from_bool}
use Rattle.io.specs.Digits.{last_digits, IsDigitCount}
use Rattle.lists.specs.Lists.{tabulate, filled, flat_map}
use Rattle.lists.proofs.Tabulate.{filled_whole, length-tabulate}
use Rattle.lists.proofs.Folds.{flat_map-append}
use Rattle.little_endian.specs.Bytes.{read_le, put, single_bytes, double_bytes}
use Rattle.little_endian.proofs.Pieces.{OneMore, put_then, length_flat, piece_more, length_pair, pair_is}
use Rattle.lcr_core.specs.declared.point.Point.{Point}
use Rattle.transform.specs.declared.Transform.{Transform}
use Rattle.lcr_core.specs.declared.finder.Finder.{Finder}
use Rattle.finders.specs.Search.{max_finders}
use Rattle.candidates.specs.declared.Detection.{Detection}
use Rattle.firmware.specs.Firmware.{finder_bytes, transform_bytes}
use Rattle.firmware.proofs.Bytes.{length_double, length_finder, length_transform}
use Rattle.replay_records.specs.Record.{double_at, read_finder, finders_at, point_bytes, lens_bytes, grade_bytes, digit_of, byte_digits, digits_line, most_bytes, line_room, answer_line, line_of}

-- ---- numbers

pub flag_is : (b : Bool) → from_bool b ≡ cond b 1 0
flag_is true = refl
flag_is false = refl

pub point_is : (q : Point) (i : ℕ) (l : List ℕ) → put (single_bytes q.y) (i + 4) (put (single_bytes q.x) i l) ≡ put (point_bytes q) i l
point_is q i l = pair_is (to_bits binary32 q.x) (to_bits binary32 q.y) i l

pub grade_is : (d : Detection) (i : ℕ) (l : List ℕ) → put (single_bytes d.mean) (i + 4) (put (single_bytes d.score) i l) ≡ put (grade_bytes d) i l
grade_is d i l = point_is (record { x = d.score; y = d.mean }) i l

pub length_grade : (d : Detection) → length (grade_bytes d) ≡ 8
length_grade d = length_pair (to_bits binary32 d.score) (to_bits binary32 d.mean)

pub grade_more : OneMore grade_bytes 8
grade_more = piece_more grade_bytes 8 length_grade

pub lens_is : (t : Transform) (i : ℕ) (l : List ℕ)
    → put (double_bytes t.strength) (i + 80) (put (double_bytes t.cy) (i + 72) (put (double_bytes t.cx) (i + 64) (put (transform_bytes t) i l))) ≡ put (lens_bytes t) i l
lens_is t i l =
    let x = double_bytes t.cx in
    let y = double_bytes t.cy in
    let k = double_bytes t.strength in
    let m = put (transform_bytes t) i l in
    put_then 8 y k (i + 72) (i + 80) (put x (i + 64) m) (length_double t.cy) (omega arith) ∙ put_then 8 x (y ++ k) (i + 64) (i + 72) m (length_double t.cx) (omega arith)
    ∙ put_then 64 (transform_bytes t) (x ++ (y ++ k)) i (i + 64) l (length_transform t) refl

read_drop : (k : ℕ) (l : List ℕ) (n i : ℕ) → read_le k (drop n l) i ≡ read_le k l (n + i)
unfolding read_le
read_drop zero l n i = refl
read_drop (suc k) l n i =
    let e : n + (i + 1) ≡ n + i + 1 = omega arith in
    rw (get_or-drop n l i 0, read_drop k l n (i + 1), e)

-- at the front of what follows n bytes
pub double_behind : (p : List ℕ) (n : ℕ) → double_at (drop n p) 0 ≡ double_at p n
double_behind p n = ap (of_bits binary64) (read_drop 8 p n 0 ∙ ap (read_le 8 p) (add-zero n))

-- ---- finders

-- a table into which all finders are read
pub found_all : (p : List ℕ) (at count : ℕ) (old l : List Finder) (i : ℕ) → i ≡ max_finders → length old ≡ max_finders → l ≡ filled i (λ k. read_finder p (at + 16 * k)) old → record { count = count; table = l } ≡ finders_at p at count
unfolding finders_at
found_all p at count old l i h n e =
    ap (λ (z : List Finder). record { count = count; table = z }) (filled_whole i (λ k. read_finder p (at + 16 * k)) old l (h ∙ sym n) e ∙ ap (λ z. tabulate z (λ k. read_finder p (at + 16 * k))) n)

pub finder_more : OneMore finder_bytes 16
finder_more = piece_more finder_bytes 16 length_finder

pub length_finders : (fs : List Finder) → length (flat_map finder_bytes fs) ≡ 16 * length fs
length_finders = length_flat finder_bytes 16 length_finder

-- ---- behind the first byte

pub put-behind : (bs : List ℕ) (i x : ℕ) (l : List ℕ) → put bs (i + 1) (x ∷ l) ≡ x ∷ put bs i l
unfolding put
put-behind [] i x l = refl
put-behind (b ∷ bs) i x l = rw (add-one i) (put-behind bs (suc i) x (set l i b))

pub put_nowhere : (bs : List ℕ) (i : ℕ) → put bs i [] ≡ []
unfolding put
put_nowhere [] i = refl
put_nowhere (b ∷ bs) i = put_nowhere bs (i + 1)

-- a list whose part from the second byte on was handed out
pub behind_first : (bs l part : List ℕ) → 0 < length l → part ≡ put bs 0 (take (length l - 1) (drop 1 l)) → take 1 l ++ (part ++ drop (length l - 1) (drop 1 l)) ≡ put bs 1 l
behind_first bs [] part h e = absurd (omega arith)
behind_first bs (x ∷ l) part h e =
    let n : suc (length l) - 1 ≡ length l = omega arith in
    rw (e, n, take-length l, drop-length l, append-nil (put bs 0 l)) (sym (put-behind bs 0 x l))

pub behind_nothing : (bs l : List ℕ) → length l ≤ 0 → l ≡ put bs 1 l
behind_nothing bs [] h = sym (put_nowhere bs 1)
behind_nothing bs (x ∷ l) h = absurd (omega arith)

-- ---- a line of digits

length_digits : (b : ℕ) → length (byte_digits b) ≡ 2
unfolding byte_digits
length_digits b = refl

length_spelled : (f : ℕ → ℕ) (i : ℕ) → length (flat_map byte_digits (tabulate i f)) ≡ 2 * i
length_spelled f i = length_flat byte_digits 2 length_digits (tabulate i f) ∙ ap (λ z. 2 * z) (length-tabulate i f)

-- one byte more
spelled_next : (f : ℕ → ℕ) (i : ℕ) → flat_map byte_digits (tabulate (i + 1) f) ≡ flat_map byte_digits (tabulate i f) ++ byte_digits (f i)
unfolding tabulate flat_map
spelled_next f i = rw (add-one i) (flat_map-append byte_digits (tabulate i f) (f i ∷ []) ∙ ap (λ z. flat_map byte_digits (tabulate i f) ++ z) (append-nil (byte_digits (f i))))

-- a byte takes two digits, when padded to two
few_digits : (b k : ℕ) → b < 256 → IsDigitCount 16 2 b k → k ≡ 2
few_digits b k h n = go (cases_lt 2 k)
  where
    go : (2 < k) ⊎ (k ≤ 2) → k ≡ 2
    go (inl q) =
        let m : 2 ≤ k - 1 = omega (arith, q) in
        let p : 16 ^ 2 ≤ 16 ^ (k - 1) = pow-le-pow_right (omega arith) m in
        absurd (omega (arith, p, n.2 q, h))
    go (inr q) = omega (arith, q, n.0)

-- as `io` puts them at the front of its room
pub two_digits : (b k : ℕ) (room : List ℕ) → b < 256 → IsDigitCount 16 2 b k → take k room ≡ last_digits 16 k b
    → (get_or room 0 0 ≡ digit_of (b / 16 % 16)) × (get_or room 1 0 ≡ digit_of (b % 16))
two_digits b k room h n e =
    let t : take 2 room ≡ last_digits 16 2 b = rw (few_digits b k h n) at e in
    (sym (get_or-take 2 room 0 0 (omega arith)) ∙ ap (λ z. get_or z 0 0) t, sym (get_or-take 2 room 1 0 (omega arith)) ∙ ap (λ z. get_or z 1 0) t)

pub spelled_more : (f : ℕ → ℕ) (l text : List ℕ) (i high low : ℕ) → text ≡ put (flat_map byte_digits (tabulate i f)) 0 l
    → high ≡ digit_of (f i / 16 % 16) → low ≡ digit_of (f i % 16)
    → set (set text (2 * i) high) (2 * i + 1) low ≡ put (flat_map byte_digits (tabulate (i + 1) f)) 0 l
unfolding byte_digits put
spelled_more f l text i high low e p q =
    let z : 2 * i ≡ 0 + 2 * i = omega arith in
    rw (p, q)
    (ap (put (byte_digits (f i)) (2 * i)) e
    ∙ put_then (2 * i) (flat_map byte_digits (tabulate i f)) (byte_digits (f i)) 0 (2 * i) l (length_spelled f i) z
    ∙ ap (λ bs. put bs 0 l) (sym (spelled_next f i)))

-- the line feed
pub spelled_end : (f : ℕ → ℕ) (l text : List ℕ) (i n : ℕ) → i ≡ n → text ≡ put (flat_map byte_digits (tabulate i f)) 0 l → set text (2 * n) 10 ≡ put (flat_map byte_digits (tabulate n f) ++ (10 ∷ [])) 0 l
unfolding put
spelled_end f l text i n h e =
    let z : 2 * n ≡ 0 + 2 * n = omega arith in
    ap (λ t. set t (2 * n) 10) (e ∙ ap (λ m. put (flat_map byte_digits (tabulate m f)) 0 l) h) ∙ put_then (2 * n) (flat_map byte_digits (tabulate n f)) (10 ∷ []) 0 (2 * n) l (length_spelled f n) z

-- ---- the line that answers a call

-- none
pub dash_line : (n : ℕ) (out : List ℕ) → n ≡ 0 → 45 ∷ 10 ∷ [] ≡ answer_line n out
unfolding answer_line
dash_line n out e = rw e

pub length_line : (n : ℕ) (out : List ℕ) → length (digits_line n out) ≡ 2 * n + 1
length_line n out = length-append (flat_map byte_digits (tabulate n (λ i. get_or out i 0))) (10 ∷ []) ∙ ap (λ z. z + 1) (length_spelled (λ i. get_or out i 0) n)

-- m of the bytes asked for
pub some_bytes : (n m : ℕ) (out : List ℕ) → eqb n 0 ≡ false → m ≡ min n most_bytes → digits_line m out ≡ answer_line n out
unfolding answer_line
some_bytes n m out h e = rw (h, e)

-- and the line that holds them
pub some_line : (n m : ℕ) (out text : List ℕ) (len : ℕ) → eqb n 0 ≡ false → m ≡ min n most_bytes
    → text ≡ put (digits_line m out) 0 (replicate line_room 0) → len ≡ 2 * m + 1 → record { text = text; len = len } ≡ line_of (answer_line n out)
some_line n m out text len h e t l = rw (← some_bytes n m out h e, t, l, length_line m out)
