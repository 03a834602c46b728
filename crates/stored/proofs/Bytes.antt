-- The bytes of a stored list as they are written, one after the other. Assumes nothing.
use mathlib.Core.Path.{◌≡◌, refl, sym, ap, ◌∙◌}
use mathlib.Core.List.{List, ◌++◌}
use Prim.Native.Nat.{ℕ, ◌+◌, ◌*◌, ◌≤◌}
use native.Mathlib.Omega.{arith}
use lib.ListN.{length, length-append}
use lib.Seq.{length-take-le}
use lib.Ieee.{binary32, to_bits}
use Rattle.lists.specs.Lists.{flat_map, written}
use Rattle.little_endian.specs.Bytes.{bytes_le, put}
use Rattle.little_endian.proofs.Pieces.{OneMore, put_then, length_flat, length_pair, piece_more}
use Rattle.little_endian.proofs.Round.{length_bytes, put_front}
use Rattle.lcr_core.specs.declared.finder.Finder.{Finder}
use Rattle.finders.specs.declared.Finders.{Finders}
use Rattle.finders.specs.Search.{max_finders}
use Rattle.finders.specs.Answer.{held_in}
use Rattle.stored.specs.Stored.{Form, form_two, head_size, head_bytes, place_bytes, module_bytes, stored_in, size_in, stored_bytes, size_of}

-- ---- lengths
pub length_place : (f : Finder) → length (place_bytes f) ≡ 8
length_place f = length_pair (to_bits binary32 f.x) (to_bits binary32 f.y)

pub length_module : (f : Finder) → length (module_bytes f) ≡ 8
length_module f = length_pair (to_bits binary32 f.«module») f.confirmations

pub length_head : (f : Form) (w h n : ℕ) → length (head_bytes f w h n) ≡ head_size f
length_head f w h n =
    omega (arith, length-append (bytes_le 2 w) (bytes_le 2 h ++ bytes_le f.wide n), length-append (bytes_le 2 h) (bytes_le f.wide n), length_bytes 2 w, length_bytes 2 h, length_bytes f.wide n)

pub length_stored : (f : Form) (w h : ℕ) (fs : List Finder) → length (stored_in f w h fs) ≡ size_in f (length fs)
unfolding stored_in
length_stored f w h fs =
    omega (arith, length-append (head_bytes f w h (length fs)) (flat_map place_bytes fs ++ flat_map module_bytes fs), length-append (flat_map place_bytes fs) (flat_map module_bytes fs), length_head f w h (length fs), length_flat place_bytes 8 length_place fs, length_flat module_bytes 8 length_module fs)

-- ---- the parts
pub head_is : (w h n : ℕ) (l : List ℕ) → put (bytes_le 2 n) 5 (put (bytes_le 2 h) 3 (put (bytes_le 2 w) 1 (put (bytes_le 1 2) 0 l))) ≡ put (head_bytes form_two w h n) 0 l
unfolding bytes_le
head_is w h n l =
    let W = bytes_le 2 w in
    let H = bytes_le 2 h in
    let C = bytes_le 2 n in
    let m = put (bytes_le 1 2) 0 l in
    put_then 2 H C 3 5 (put W 1 m) (length_bytes 2 h) refl ∙ put_then 2 W (H ++ C) 1 3 m (length_bytes 2 w) refl ∙ put_then 1 (bytes_le 1 2) (W ++ (H ++ C)) 0 1 l (length_bytes 1 2) refl

-- one finder's pair more
pub place_more : OneMore place_bytes 8
place_more = piece_more place_bytes 8 length_place

pub module_more : OneMore module_bytes 8
module_more = piece_more module_bytes 8 length_module

-- ---- the whole list
pub stored_is : (w h : ℕ) (t : Finders) (l : List ℕ) → length t.table ≡ max_finders → t.count ≤ max_finders → size_of t.count ≤ length l
    → put (flat_map module_bytes (held_in t)) (7 + 8 * t.count) (put (flat_map place_bytes (held_in t)) 7 (put (head_bytes form_two w h t.count) 0 l)) ≡ written (stored_bytes w h (held_in t)) l
unfolding stored_in
stored_is w h t l m few fit =
    let fs = held_in t in
    let n = t.count in
    let P = flat_map place_bytes fs in
    let S = flat_map module_bytes fs in
    let D = head_bytes form_two w h (length fs) in
    let e : length fs ≡ n = length-take-le n t.table (let i : n ≤ length t.table = omega arith in i) in
    let d : length (D ++ (P ++ S)) ≤ length l = omega (arith, length_stored form_two w h fs) in
    ap (λ z. put S (7 + 8 * n) (put P 7 (put (head_bytes form_two w h z) 0 l))) (sym e)
    ∙ put_then (8 * n) P S 7 (7 + 8 * n) (put D 0 l) (length_flat place_bytes 8 length_place fs ∙ ap (λ z. 8 * z) e) refl
    ∙ put_then 7 D (P ++ S) 0 7 l (length_head form_two w h (length fs)) refl
    ∙ put_front (D ++ (P ++ S)) l d
