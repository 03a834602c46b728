-- Reading what was written gives the sides, the count and the finders again, zero beyond the count; what document 02 says of the two forms. Assumes nothing.
use lib.Ieee.{binary32, to_bits, fits}
use lib.Ieee.Bits.{of_bits-to_bits, to_bits-lt}
use lib.Dec.{T}
use lib.Seq.{split_at, length-take-le, ext_get_or, take_at}
use Rattle.std.proofs.Math.Bool.{or-true}
use Rattle.std.proofs.Common.{◌≡◌, ℕ, suc, ◌+◌, ◌*◌, ◌^◌, ◌≤◌, ◌<◌, false, true, cond, List, [], ◌∷◌, ◌++◌, length, take, drop, get_or, Ok, inl, inr, refl, sym, ap, ◌∙◌, subst, append_assoc, length-append, add-one, arith, lt-ltb, le-ltb, eq-eqb, ne_eqb}
use Rattle.lists.specs.Lists.{Each, tabulate, flat_map, written}
use Rattle.lists.proofs.Filters.{each_get_or}
use Rattle.lists.proofs.Folds.{flat_map-append}
use Rattle.lists.proofs.Tabulate.{length-tabulate, get_d_tabulate}
use Rattle.lcr_core.specs.Outcome.{number_of, first_of, max_side, zero_side, large_side}
use Rattle.lcr_core.specs.Passed.{Sides}
use Rattle.lcr_core.proofs.Answers.{number_checked, checked_passed}
use Rattle.little_endian.specs.Bytes.{bytes_le, read_le}
use Rattle.little_endian.proofs.One.{read_one}
use Rattle.little_endian.proofs.Pieces.{length_flat}
use Rattle.little_endian.proofs.Round.{length_bytes, read_after, read_bytes}
use Rattle.lcr_core.specs.declared.finder.Finder.{Finder}
use Rattle.lcr_core.specs.Finder.{zero_finder}
use Rattle.finders.specs.Search.{max_finders}
use Rattle.finders.specs.Answer.{finders_table}
use Rattle.stored.specs.Stored.{Form, form_one, form_two, head_size, head_bytes, place_bytes, module_bytes, stored_in, size_in, size_of, stored_bytes, width_in, height_in, stored_finder, many_finders, bad_length, read_checks, list_in, read_of}
use Rattle.stored.proofs.Forms.{Known, form_is, refused_head, count_fits}
use Rattle.stored.proofs.Bytes.{length_place, length_module, length_head, length_stored}

-- a finder as the code has it: three f32 and a u32
pub record Storable (f : Finder) : Type 0 where
  pub x_fits : T (fits binary32 f.x)
  pub y_fits : T (fits binary32 f.y)
  pub module_fits : T (fits binary32 f.«module»)
  pub count_fits : f.confirmations < 2 ^ 32

-- ---- a number behind so many bytes, and a pair of them
number_at : (k v : ℕ) (bytes pre rest : List ℕ) (i : ℕ) → bytes ≡ pre ++ (bytes_le k v ++ rest) → length pre ≡ i → v < 256 ^ k → read_le k bytes i ≡ v
number_at k v bytes pre rest i is n h = let e : i ≡ length pre + 0 = omega arith in rw (is, e) (read_after k pre (bytes_le k v ++ rest) 0 ∙ read_bytes k v rest h)

module _ (bytes pre rest : List ℕ) (a b : ℕ) (is : bytes ≡ pre ++ ((bytes_le 4 a ++ bytes_le 4 b) ++ rest)) (i : ℕ) (n : length pre ≡ i) where
  parts : bytes ≡ pre ++ (bytes_le 4 a ++ (bytes_le 4 b ++ rest))
  parts = is ∙ ap (λ z. pre ++ z) (append_assoc (bytes_le 4 a) (bytes_le 4 b) rest)

  first_of_pair : a < 2 ^ 32 → read_le 4 bytes i ≡ a
  first_of_pair = number_at 4 a bytes pre (bytes_le 4 b ++ rest) i parts n

  second_of_pair : b < 2 ^ 32 → read_le 4 bytes (i + 4) ≡ b
  second_of_pair =
      number_at 4 b bytes (pre ++ bytes_le 4 a) rest (i + 4) (parts ∙ sym (append_assoc pre (bytes_le 4 a) (bytes_le 4 b ++ rest))) (length-append pre (bytes_le 4 a) ∙ rw (n, length_bytes 4 a))

-- ---- the pairs of finder k
flat_at : (g : Finder → List ℕ) (fs : List Finder) (k : ℕ) (d : Finder) → k < length fs
    → flat_map g fs ≡ flat_map g (take k fs) ++ (g (get_or fs k d) ++ flat_map g (drop (k + 1) fs))
unfolding flat_map
flat_at g fs k d h = ap (flat_map g) (split_at fs k d h) ∙ flat_map-append g (take k fs) (get_or fs k d ∷ drop (suc k) fs) ∙ rw (add-one k)

module _ (f : Form) (w h : ℕ) (fs : List Finder) (k : ℕ) (d : Finder) (l : k < length fs) where
  abbrev D : List ℕ
  D = head_bytes f w h (length fs)

  abbrev P : List ℕ
  P = flat_map place_bytes fs

  abbrev S : List ℕ
  S = flat_map module_bytes fs

  places_at : stored_in f w h fs ≡ (D ++ flat_map place_bytes (take k fs)) ++ (place_bytes (get_or fs k d) ++ (flat_map place_bytes (drop (k + 1) fs) ++ S))
  unfolding stored_in
  places_at =
      ap (λ z. D ++ (z ++ S)) (flat_at place_bytes fs k d l)
      ∙ ap (λ z. D ++ z) (append_assoc (flat_map place_bytes (take k fs)) (place_bytes (get_or fs k d) ++ flat_map place_bytes (drop (k + 1) fs)) S ∙ ap (λ z. flat_map place_bytes (take k fs) ++ z) (append_assoc (place_bytes (get_or fs k d)) (flat_map place_bytes (drop (k + 1) fs)) S))
      ∙ sym (append_assoc D (flat_map place_bytes (take k fs)) (place_bytes (get_or fs k d) ++ (flat_map place_bytes (drop (k + 1) fs) ++ S)))

  modules_at : stored_in f w h fs ≡ ((D ++ P) ++ flat_map module_bytes (take k fs)) ++ (module_bytes (get_or fs k d) ++ flat_map module_bytes (drop (k + 1) fs))
  unfolding stored_in
  modules_at =
      ap (λ z. D ++ (P ++ z)) (flat_at module_bytes fs k d l)
      ∙ sym (append_assoc D P (flat_map module_bytes (take k fs) ++ (module_bytes (get_or fs k d) ++ flat_map module_bytes (drop (k + 1) fs))))
      ∙ sym (append_assoc (D ++ P) (flat_map module_bytes (take k fs)) (module_bytes (get_or fs k d) ++ flat_map module_bytes (drop (k + 1) fs)))

  taken : length (take k fs) ≡ k
  taken = length-take-le k fs (let m : k ≤ length fs = omega arith in m)

  places_from : length (D ++ flat_map place_bytes (take k fs)) ≡ head_size f + 8 * k
  places_from = omega (arith, length-append D (flat_map place_bytes (take k fs)), length_head f w h (length fs), length_flat place_bytes 8 length_place (take k fs), taken)

  modules_from : length ((D ++ P) ++ flat_map module_bytes (take k fs)) ≡ head_size f + 8 * length fs + 8 * k
  modules_from =
      omega (arith, length-append (D ++ P) (flat_map module_bytes (take k fs)), length-append D P, length_head f w h (length fs), length_flat place_bytes 8 length_place fs, length_flat module_bytes 8 length_module (take k fs), taken)

  finder_is : Storable (get_or fs k d) → stored_finder f (stored_in f w h fs) (length fs) k ≡ get_or fs k d
  unfolding stored_finder
  finder_is s =
      let g = get_or fs k d in
      let B = stored_in f w h fs in
      let p = D ++ flat_map place_bytes (take k fs) in
      let q = flat_map place_bytes (drop (k + 1) fs) ++ S in
      let u = (D ++ P) ++ flat_map module_bytes (take k fs) in
      let v = flat_map module_bytes (drop (k + 1) fs) in
      let X = to_bits binary32 g.x in
      let Y = to_bits binary32 g.y in
      let M = to_bits binary32 g.«module» in
      let a = first_of_pair B p q X Y places_at (head_size f + 8 * k) places_from (to_bits-lt binary32 g.x s.x_fits) in
      let b = second_of_pair B p q X Y places_at (head_size f + 8 * k) places_from (to_bits-lt binary32 g.y s.y_fits) in
      let m = first_of_pair B u v M g.confirmations modules_at (head_size f + 8 * length fs + 8 * k) modules_from (to_bits-lt binary32 g.«module» s.module_fits) in
      let c = second_of_pair B u v M g.confirmations modules_at (head_size f + 8 * length fs + 8 * k) modules_from s.count_fits in
      rw (a, b, m, c, of_bits-to_bits binary32 g.x s.x_fits, of_bits-to_bits binary32 g.y s.y_fits, of_bits-to_bits binary32 g.«module» s.module_fits)

-- ---- a list that begins as one of the two forms
module _ (f : Form) (known : Known f) (bytes : List ℕ) (first : get_or bytes 0 0 ≡ f.byte) where
  -- 8 where it ends in its head
  short_refused : length bytes < head_size f → number_of (read_of bytes) ≡ 8
  unfolding read_of
  short_refused h = number_checked (read_checks bytes) (list_in bytes) ∙ rw (refused_head f bytes known first, lt-ltb (length bytes) (head_size f) h)

  module _ (long : head_size f ≤ length bytes) where
    -- else 1, 2 and 8
    behind_head : number_of (read_of bytes) ≡ cond (zero_side (width_in bytes) (height_in bytes)) 1 (cond (large_side (width_in bytes) (height_in bytes)) 2 (cond (bad_length f (length bytes) (read_le f.wide bytes 5)) 8 0))
    unfolding read_of
    behind_head = number_checked (read_checks bytes) (list_in bytes) ∙ rw (refused_head f bytes known first, le-ltb (length bytes) (head_size f) long, form_is f bytes known first)

    module _ (s : Sides (width_in bytes) (height_in bytes)) where
      behind_sides : number_of (read_of bytes) ≡ cond (bad_length f (length bytes) (read_le f.wide bytes 5)) 8 0
      unfolding zero_side large_side
      behind_sides =
          behind_head
          ∙ rw (ne_eqb (width_in bytes) 0 (λ e. omega (arith, s.w_pos)), ne_eqb (height_in bytes) 0 (λ e. omega (arith, s.h_pos)), le-ltb max_side (width_in bytes) s.w_most, le-ltb max_side (height_in bytes) s.h_most)

      many_refused : f.most < read_le f.wide bytes 5 → number_of (read_of bytes) ≡ 8
      unfolding bad_length many_finders
      many_refused h = behind_sides ∙ rw (lt-ltb f.most (read_le f.wide bytes 5) h)

      length_refused : (length bytes ≡ size_in f (read_le f.wide bytes 5) → ⊥) → number_of (read_of bytes) ≡ 8
      unfolding bad_length
      length_refused h = behind_sides ∙ rw (ne_eqb (length bytes) (size_in f (read_le f.wide bytes 5)) h, or-true (many_finders f (read_le f.wide bytes 5)))

-- ---- the round trip
module _ (f : Form) (known : Known f) (w h : ℕ) (fs : List Finder) where
  abbrev n : ℕ
  n = length fs

  abbrev B : List ℕ
  B = stored_in f w h fs

  abbrev W : List ℕ
  W = bytes_le 2 w

  abbrev H : List ℕ
  H = bytes_le 2 h

  abbrev rest : List ℕ
  rest = flat_map place_bytes fs ++ flat_map module_bytes fs

  head_first : B ≡ f.byte ∷ (W ++ (H ++ (bytes_le f.wide n ++ rest)))
  unfolding stored_in
  head_first = ap (λ z. f.byte ∷ z) (append_assoc W (H ++ bytes_le f.wide n) rest ∙ ap (λ z. W ++ z) (append_assoc H (bytes_le f.wide n) rest))

  first_is : get_or B 0 0 ≡ f.byte
  first_is = rw head_first

  width_is : w < 2 ^ 16 → width_in B ≡ w
  width_is = number_at 2 w B (f.byte ∷ []) (H ++ (bytes_le f.wide n ++ rest)) 1 head_first refl

  height_is : h < 2 ^ 16 → height_in B ≡ h
  height_is = number_at 2 h B (f.byte ∷ W) (bytes_le f.wide n ++ rest) 3 head_first (ap suc (length_bytes 2 w))

  count_is : n ≤ f.most → read_le f.wide B 5 ≡ n
  count_is few =
      number_at f.wide n B (f.byte ∷ (W ++ H)) rest 5 (head_first ∙ ap (λ z. f.byte ∷ z) (sym (append_assoc W H (bytes_le f.wide n ++ rest)))) (ap suc (length-append W H ∙ rw (length_bytes 2 w, length_bytes 2 h))) (omega (arith, count_fits f known))

  finders_are : Each Storable fs → tabulate n (stored_finder f B n) ≡ fs
  finders_are s =
      ext_get_or zero_finder (tabulate n (stored_finder f B n)) fs (length-tabulate n (stored_finder f B n)) (λ i l. at i (subst (λ z. i < z) (length-tabulate n (stored_finder f B n)) l))
    where
      at : (i : ℕ) → i < n → get_or (tabulate n (stored_finder f B n)) i zero_finder ≡ get_or fs i zero_finder
      at i l = get_d_tabulate n (stored_finder f B n) i zero_finder l ∙ finder_is f w h fs i zero_finder l (each_get_or Storable fs i zero_finder s l)

  module _ (p : Sides w h) (few : n ≤ f.most) where
    passed : 0 ≡ first_of (read_checks B)
    unfolding bad_length many_finders read_of
    passed =
        let l = length_stored f w h fs in
        let s : Sides (width_in B) (height_in B) = rw (width_is (omega (arith, p.w_most)), height_is (omega (arith, p.h_most))) p in
        sym (behind_sides f known B first_is (omega arith) s ∙ rw (count_is few, le-ltb f.most n few, eq-eqb (length B) (size_in f n) l)) ∙ number_checked (read_checks B) (list_in B)

    read_again : Each Storable fs → read_of B ≡ Ok (record { width = w; height = h; finders = finders_table fs })
    unfolding read_of
    read_again s =
        sym (checked_passed (read_checks B) (list_in B) passed)
        ∙ rw (width_is (omega (arith, p.w_most)), height_is (omega (arith, p.h_most)), form_is f B known first_is, count_is few, finders_are s)

-- of what the writer leaves, the part that it wrote
written_is_read : (w h : ℕ) (fs : List Finder) → Sides w h → length fs ≤ max_finders → Each Storable fs → (old : List ℕ)
    → read_of (take (size_of (length fs)) (written (stored_bytes w h fs) old)) ≡ Ok (record { width = w; height = h; finders = finders_table fs })
written_is_read w h fs p few s old =
    ap read_of (take_at (stored_bytes w h fs) (drop (length (stored_bytes w h fs)) old) (size_of (length fs)) (length_stored form_two w h fs)) ∙ read_again form_two (inr refl) w h fs p few s

-- ---- document 02, N9
-- "Form 1 is still read, up to its 128, and the same finders come out of it"
same_of_both_forms : (w h : ℕ) (fs : List Finder) → Sides w h → length fs ≤ form_one.most → Each Storable fs → read_of (stored_in form_one w h fs) ≡ read_of (stored_in form_two w h fs)
same_of_both_forms w h fs p few s = read_again form_one (inl refl) w h fs p few s ∙ sym (read_again form_two (inr refl) w h fs p (omega (arith, few)) s)

-- "up to its 128": with a higher count it is 8 after 2, whatever its length
form_one_apart : (bytes : List ℕ) → get_or bytes 0 0 ≡ 1 → 6 ≤ length bytes → Sides (width_in bytes) (height_in bytes) → form_one.most < get_or bytes 5 0 → number_of (read_of bytes) ≡ 8
form_one_apart bytes first long s h = many_refused form_one (inl refl) bytes first long s (rw (read_one bytes 5) h)

module _ (bytes : List ℕ) (first : get_or bytes 0 0 ≡ 2) where
  -- "A form 2 list shorter than 7 bytes is 8 before 1", whatever its sides
  form_two_short : length bytes < 7 → number_of (read_of bytes) ≡ 8
  form_two_short = short_refused form_two (inr refl) bytes first

  -- "one with a count over 1,000 or another length is 8 after 2": 1 and 2 come before, whatever its count and its length
  form_two_zero : 7 ≤ length bytes → zero_side (width_in bytes) (height_in bytes) ≡ true → number_of (read_of bytes) ≡ 1
  form_two_zero long z = behind_head form_two (inr refl) bytes first long ∙ rw z

  form_two_large : 7 ≤ length bytes → zero_side (width_in bytes) (height_in bytes) ≡ false → large_side (width_in bytes) (height_in bytes) ≡ true → number_of (read_of bytes) ≡ 2
  form_two_large long z l = behind_head form_two (inr refl) bytes first long ∙ rw (z, l)

  form_two_many : 7 ≤ length bytes → Sides (width_in bytes) (height_in bytes) → max_finders < read_le 2 bytes 5 → number_of (read_of bytes) ≡ 8
  form_two_many = many_refused form_two (inr refl) bytes first

  form_two_length : 7 ≤ length bytes → Sides (width_in bytes) (height_in bytes) → (length bytes ≡ 7 + 16 * read_le 2 bytes 5 → ⊥) → number_of (read_of bytes) ≡ 8
  form_two_length = length_refused form_two (inr refl) bytes first
