-- The bytes of the detections as they are written, piece after piece. Assumes nothing.
use Rattle.std.specs.Prelude.{Option, Some, None}
use mathlib.Core.Path.{◌≡◌, refl, sym, ap, ◌∙◌}
use mathlib.Core.List.{List, [], ◌∷◌, ◌++◌}
use Prim.Native.Nat.{ℕ, suc, ◌+◌, ◌%◌, ◌<◌, ◌≤◌}
use native.Mathlib.Omega.{arith}
use lib.ListN.{length, take, get_or, set, length-append}
use lib.Seq.{ext_get_or, take_all}
use lib.Ieee.{Float, nan, binary32, binary64, to_bits}
use Rattle.lists.specs.Lists.{flat_map}
use Rattle.lists.proofs.Tabulate.{length-tabulate, get_d_tabulate}
use Rattle.little_endian.specs.Bytes.{bytes_le, put, single_bytes, double_bytes}
use Rattle.little_endian.proofs.One.{put_one}
use Rattle.little_endian.proofs.Pieces.{OneMore, put_then, length_flat, length_pair, piece_more, counted}
use Rattle.little_endian.proofs.Round.{length_bytes}
use Rattle.transform.specs.declared.Transform.{Transform}
use Rattle.lcr_core.specs.declared.finder.Finder.{Finder}
use Rattle.candidates.specs.declared.Detection.{Detection}
use Rattle.candidates.specs.declared.Detections.{Detections}
use Rattle.firmware.specs.Firmware.{finder_bytes, marker_bytes, eight_numbers, transform_bytes, detection_bytes, detection_size, firmware_bytes}
use Rattle.lcr_core.specs.declared.point.Point.{Point}

-- ---- lengths

-- of pieces one after the other
long_by : (a b : ℕ) (xs ys : List ℕ) → length xs ≡ a → length ys ≡ b → length (xs ++ ys) ≡ a + b
long_by a b xs ys e f = length-append xs ys ∙ rw (e, f)

length_single : (n : ℕ) → length (bytes_le 4 n) ≡ 4
length_single n = length_bytes 4 n

pub length_double : (x : Float) → length (double_bytes x) ≡ 8
length_double x = length_bytes 8 (to_bits binary64 x)

pub length_finder : (f : Finder) → length (finder_bytes f) ≡ 16
unfolding finder_bytes
length_finder f =
    let x = to_bits binary32 f.x in
    let y = to_bits binary32 f.y in
    let m = to_bits binary32 f.«module» in
    let n = f.confirmations in
    long_by 4 12 (bytes_le 4 x) (bytes_le 4 y ++ (bytes_le 4 m ++ bytes_le 4 n)) (length_single x)
    (long_by 4 8 (bytes_le 4 y) (bytes_le 4 m ++ bytes_le 4 n) (length_single y) (long_by 4 4 (bytes_le 4 m) (bytes_le 4 n) (length_single m) (length_single n)))

length-flagged : (b x y : ℕ) → length (b ∷ (bytes_le 4 x ++ bytes_le 4 y)) ≡ 9
length-flagged b x y = ap suc (length_pair x y)

pub length_marker : (m : Option Point) → length (marker_bytes m) ≡ 9
length_marker (Some p) = length-flagged 1 (to_bits binary32 p.x) (to_bits binary32 p.y)
length_marker None = length-flagged 0 0 0

pub length_transform : (t : Transform) → length (transform_bytes t) ≡ 64
length_transform t = length_flat double_bytes 8 length_double (eight_numbers t) ∙ rw (length-tabulate 8 (λ i. get_or t.m i nan))

-- ---- the parts

pub finder_is : (f : Finder) (i : ℕ) (l : List ℕ)
    → put (bytes_le 4 f.confirmations) (i + 12) (put (single_bytes f.«module») (i + 8) (put (single_bytes f.y) (i + 4) (put (single_bytes f.x) i l))) ≡ put (finder_bytes f) i l
unfolding finder_bytes
finder_is f i l =
    let x = single_bytes f.x in
    let y = single_bytes f.y in
    let m = single_bytes f.«module» in
    let n = bytes_le 4 f.confirmations in
    put_then 4 m n (i + 8) (i + 12) (put y (i + 4) (put x i l)) (length_single (to_bits binary32 f.«module»)) (omega arith)
    ∙ put_then 4 y (m ++ n) (i + 4) (i + 8) (put x i l) (length_single (to_bits binary32 f.y)) (omega arith)
    ∙ put_then 4 x (y ++ (m ++ n)) i (i + 4) l (length_single (to_bits binary32 f.x)) refl

pub flagged_is : (b x y i : ℕ) (l : List ℕ) → b < 256 → put (bytes_le 4 y) (i + 5) (put (bytes_le 4 x) (i + 1) (put (bytes_le 1 b) i l)) ≡ put (b ∷ (bytes_le 4 x ++ bytes_le 4 y)) i l
unfolding put
flagged_is b x y i l h = rw (put_one b i l h) (put_then 4 (bytes_le 4 x) (bytes_le 4 y) (i + 1) (i + 5) (set l i b) (length_single x) (omega arith))

-- a detection, from its parts
module _ (d : Detection) where
  abbrev A : List ℕ
  A = finder_bytes d.finders.tl

  abbrev B : List ℕ
  B = finder_bytes d.finders.tr

  abbrev C : List ℕ
  C = finder_bytes d.finders.bl

  abbrev V : List ℕ
  V = d.version.0 ∷ []

  abbrev M : List ℕ
  M = marker_bytes d.marker

  abbrev T : List ℕ
  T = transform_bytes d.transform

  pub detection_is : (i : ℕ) (l : List ℕ) → d.version.0 < 256
      → put T (i + 58) (put M (i + 49) (put (bytes_le 1 d.version.0) (i + 48) (put C (i + 32) (put B (i + 16) (put A i l))))) ≡ put (detection_bytes d) i l
  unfolding detection_bytes put
  detection_is i l h =
      let l1 = put A i l in
      let l2 = put B (i + 16) l1 in
      let l3 = put C (i + 32) l2 in
      ap (λ z. put T (i + 58) (put M (i + 49) z)) (put_one d.version.0 (i + 48) l3 h)
      ∙ put_then 9 M T (i + 49) (i + 58) (put V (i + 48) l3) (length_marker d.marker) (omega arith)
      ∙ put_then 1 V (M ++ T) (i + 48) (i + 49) l3 refl (omega arith)
      ∙ put_then 16 C (V ++ (M ++ T)) (i + 32) (i + 48) l2 (length_finder d.finders.bl) (omega arith)
      ∙ put_then 16 B (C ++ (V ++ (M ++ T))) (i + 16) (i + 32) l1 (length_finder d.finders.tr) (omega arith)
      ∙ put_then 16 A (B ++ (C ++ (V ++ (M ++ T)))) i (i + 16) l (length_finder d.finders.tl) refl

  pub length_detection : length (detection_bytes d) ≡ detection_size
  unfolding detection_bytes
  length_detection =
      long_by 16 106 A (B ++ (C ++ (V ++ (M ++ T)))) (length_finder d.finders.tl)
      (long_by 16 90 B (C ++ (V ++ (M ++ T))) (length_finder d.finders.tr)
      (long_by 16 74 C (V ++ (M ++ T)) (length_finder d.finders.bl) (long_by 1 73 V (M ++ T) refl (long_by 9 64 M T (length_marker d.marker) (length_transform d.transform)))))

-- ---- one more piece
pub double_more : OneMore double_bytes 8
double_more = piece_more double_bytes 8 length_double

pub detection_more : OneMore detection_bytes detection_size
detection_more = piece_more detection_bytes detection_size length_detection

-- all eight numbers, and all three places behind the count
pub all_numbers : (t : Transform) (k base : ℕ) (l : List ℕ) → length t.m ≡ 8 → 8 ≤ k → put (flat_map double_bytes (take k t.m)) base l ≡ put (transform_bytes t) base l
all_numbers t k base l e h =
    let f : ℕ → Float = λ i. get_or t.m i nan in
    let same : t.m ≡ eight_numbers t = ext_get_or nan t.m (eight_numbers t) (e ∙ sym (length-tabulate 8 f)) (λ i q. sym (get_d_tabulate 8 f i nan (rw e at q))) in
    ap (λ z. put (flat_map double_bytes z) base l) (take_all k t.m (rw e h) ∙ same)

pub all_places : (t : Detections) (k : ℕ) (l : List ℕ) → length t.at ≡ 3 → 3 ≤ k
    → put (flat_map detection_bytes (take k t.at)) 1 (put (bytes_le 1 (t.count % 256)) 0 l) ≡ put (firmware_bytes t) 0 l
unfolding firmware_bytes
all_places t k l e h =
    ap (λ z. put (flat_map detection_bytes z) 1 (put (bytes_le 1 (t.count % 256)) 0 l)) (take_all k t.at (rw e h)) ∙ counted 1 t.count (flat_map detection_bytes t.at) 0 l
