-- What the definitions say of the listing: where the input isn't refused it is `refused 6` if there is a 1,001st finder, else the finders of the denoised bits
-- and their detections, which are the chain's; and extra bytes are ignored. Assumes nothing.
use mathlib.Core.Path.{◌≡◌, refl, sym, ap, ◌∙◌}
use mathlib.Core.Bool.{Bool, true, false, cond}
use mathlib.Core.List.{List}
use Prim.Native.Nat.{ℕ, zero, suc, ◌+◌, ◌*◌, ◌/◌, ◌%◌, ◌≤◌, ◌<◌}
use native.Mathlib.Nat.{div-add-mod'}
use native.Mathlib.Omega.{arith}
use lib.Dec.{ltb}
use lib.ListN.{length, take, drop, get_or, length-take, length-drop}
use lib.Seq.{take_all, get_or-take, get_or-drop}
use borrow.Author.Tests.{lt-ltb, le-ltb, ltb-true, ltb-false}
use Rattle.lists.specs.Lists.{tabulate}
use Rattle.lists.proofs.Tabulate.{tabulate_ext}
use Rattle.std.specs.Prelude.{Result, Ok}
use Rattle.lcr_core.specs.Outcome.{number_of, if_refused}
use Rattle.lcr_core.specs.declared.Refusal.{Refusal}
use Rattle.lcr_core.proofs.Checks.{if_refused_done}
use Rattle.little_endian.specs.Bytes.{read_le}
use Rattle.binary.specs.Binary.{byte_of, bytes_of}
use Rattle.gray.specs.Gray.{gray_of, gray_at}
use Rattle.denoise.specs.Denoise.{denoised_at}
use Rattle.binarize.specs.Binarize.{is_dark}
use Rattle.finders.specs.Search.{found}
use Rattle.finders.specs.Answer.{is_over, find_refusal, finders_of}
use Rattle.lcr_core.specs.declared.finder.Finder.{Finder}
use Rattle.candidates.specs.declared.Detection.{Detection}
use Rattle.candidates.specs.declared.Detections.{Detections}
use Rattle.candidates.specs.Candidates.{detections_of, detections_table, detect_answer}
use Rattle.candidates.proofs.Answers.{detect_number}
use Rattle.stages.specs.Pictures.{as_picture, gray_picture, bit_picture, denoised_picture}
use Rattle.chain.specs.Chain.{chain_of}
use Rattle.chain.proofs.Theorems.{six_then}
use Rattle.listing_text.specs.Inner.{found_text}
use Rattle.listing_text.specs.Listing.{width_of, height_of, gray_bytes, max_pixels, listing_refusal, refused_line, list_text, answer_text, chain_text, listing_of}
use Rattle.listing_text.proofs.Refusals.{passed, slices_room, stages_pass}
use Rattle.listing_text.proofs.Listed.{answer_passed, text_refused, text_listed}

-- ---- an input that isn't refused
-- its denoised bits
abbrev pub bits_of : List ℕ → List ℕ
bits_of l = denoised_picture (as_picture (gray_bytes l) (width_of l) (height_of l) (width_of l) 1)

-- what the chain answers for it
abbrev pub answer_for : List ℕ → Result Detections Refusal
answer_for l = chain_of (as_picture (gray_bytes l) (width_of l) (height_of l) (width_of l) 1)

-- whether there is a 1,001st finder
abbrev pub full_table : List ℕ → Bool
full_table l = is_over (found (bits_of l) (width_of l) (height_of l))

-- its finders
abbrev pub listed_finders : List ℕ → List Finder
listed_finders l = finders_of (bits_of l) (width_of l) (height_of l)

-- the detections of these
abbrev pub listed_detections : List ℕ → List Detection
listed_detections l = detections_of (bits_of l) (width_of l) (height_of l) (listed_finders l)

module _ (l : List ℕ) (z : listing_refusal l ≡ 0) where
  -- the chain refuses by 6 or by nothing
  pub six_or-none : number_of (answer_for l) ≡ cond (full_table l) 6 0
  six_or-none =
      let w = width_of l in
      let h = height_of l in
      let p = gray_bytes l in
      six_then (as_picture p w h w 1) slices_room (stages_pass w h p (passed l z).1)

  search_refuses : find_refusal (bits_of l) (width_of l) (height_of l) ≡ cond (full_table l) 6 0
  unfolding chain_of
  search_refuses = sym (detect_number (bits_of l) (width_of l) (height_of l)) ∙ six_or-none

  -- the detections that are printed are those that the chain answers
  pub of_the_chain : full_table l ≡ false → answer_for l ≡ Ok (detections_table (listed_detections l))
  unfolding chain_of
  of_the_chain e = answer_passed (bits_of l) (width_of l) (height_of l) (search_refuses ∙ ap (λ (b : Bool). cond b 6 0) e)

  text : (b : Bool) → find_refusal (bits_of l) (width_of l) (height_of l) ≡ cond b 6 0
      → found_text (bits_of l) (width_of l) (height_of l) ≡ cond b (refused_line 6) (list_text (width_of l) (height_of l) (listed_finders l) (listed_detections l))
  text true e = text_refused (bits_of l) (width_of l) (height_of l) (λ i. let x : ◌≡◌ {A = ℕ} 6 0 = sym e ∙ i in absurd (omega (arith, x))) ∙ ap refused_line e
  text false e = text_listed (bits_of l) (width_of l) (height_of l) e

  -- the whole text
  pub listed : listing_of l ≡ cond (full_table l) (refused_line 6) (list_text (width_of l) (height_of l) (listed_finders l) (listed_detections l))
  unfolding listing_of chain_text chain_of found_text
  listed =
      let n = listing_refusal l in
      let x = chain_text (gray_bytes l) (width_of l) (height_of l) in
      sym (if_refused_done n (refused_line n) x z) ∙ text (full_table l) search_refuses

-- ---- extra bytes
-- gray bytes that agree on the picture's pixels have the same denoised bits
module _ (p q : List ℕ) (w h : ℕ) (e : (i : ℕ) → i < w * h → get_or p i 0 ≡ get_or q i 0) where
  same_gray : gray_picture (as_picture p w h w 1) ≡ gray_picture (as_picture q w h w 1)
  unfolding gray_picture gray_at gray_of
  same_gray =
      tabulate_ext (w * h) (gray_at p w w 1) (gray_at q w w 1) (λ n l.
      let i : n / w * w + n % w * 1 ≡ n = omega (arith, div-add-mod' n w) in
      e (n / w * w + n % w * 1) (omega (arith, i, l)))

  same_denoised : denoised_picture (as_picture p w h w 1) ≡ denoised_picture (as_picture q w h w 1)
  unfolding denoised_picture bit_picture
  same_denoised = ap (λ (g : List ℕ). tabulate (bytes_of (w * h)) (byte_of (denoised_at (tabulate (bytes_of (w * h)) (byte_of (is_dark g w h))) w h))) same_gray

  same_chain : chain_text p w h ≡ chain_text q w h
  unfolding chain_text chain_of
  same_chain = ap (λ (d : List ℕ). answer_text w h (finders_of d w h) (detect_answer d w h)) same_denoised

-- what the last two checks give: too many pixels, too few gray bytes
abbrev last_two_lem : Bool → Bool → ℕ
last_two_lem many short = cond many 5 (cond short 4 0)

-- the first n bytes of an input, with room for the sides and for the gray bytes where the pixels aren't too many
module _ (l : List ℕ) (n : ℕ) (a : 4 ≤ n) (b : width_of l * height_of l ≤ max_pixels → 4 + width_of l * height_of l ≤ n) (c : 4 ≤ length l) where
  same_side : (i : ℕ) → i + 1 < n → read_le 2 (take n l) i ≡ read_le 2 l i
  unfolding read_le
  same_side i k = rw (get_or-take n l i 0 (omega arith), get_or-take n l (i + 1) 0 k)

  same_short : (m : ℕ) → 4 + m ≤ n → ltb (length (drop 4 (take n l))) m ≡ ltb (length (drop 4 l)) m
  same_short m k = go (ltb (length (drop 4 l)) m) refl
    where
      go : (t : Bool) → ltb (length (drop 4 l)) m ≡ t → ltb (length (drop 4 (take n l))) m ≡ t
      go true e =
          let u = ltb-true (length (drop 4 l)) m e in
          lt-ltb (length (drop 4 (take n l))) m (omega (arith, u, length-drop 4 l, length-drop 4 (take n l), length-take n l))
      go false e =
          let u = ltb-false (length (drop 4 l)) m e in
          le-ltb (length (drop 4 (take n l))) m (omega (arith, u, length-drop 4 l, length-drop 4 (take n l), length-take n l))

  same_last : (m : ℕ) → (m ≤ max_pixels → 4 + m ≤ n) → last_two_lem (ltb max_pixels m) (ltb (length (drop 4 (take n l))) m) ≡ last_two_lem (ltb max_pixels m) (ltb (length (drop 4 l)) m)
  same_last m f = go (ltb max_pixels m) refl
    where
      go : (t : Bool) → ltb max_pixels m ≡ t → last_two_lem t (ltb (length (drop 4 (take n l))) m) ≡ last_two_lem t (ltb (length (drop 4 l)) m)
      go true e = refl
      go false e = ap (last_two_lem false) (same_short m (f (ltb-false max_pixels m e)))

  same_refusal : listing_refusal (take n l) ≡ listing_refusal l
  unfolding listing_refusal
  same_refusal =
      let x : read_le 2 (take n l) 0 ≡ read_le 2 l 0 = same_side 0 (omega arith) in
      let y : read_le 2 (take n l) 2 ≡ read_le 2 l 2 = same_side 2 (omega arith) in
      let u : ltb (length (take n l)) 4 ≡ false = le-ltb (length (take n l)) 4 (omega (arith, length-take n l)) in
      let v : ltb (length l) 4 ≡ false = le-ltb (length l) 4 c in
      rw (u, v, x, y, same_last (width_of l * height_of l) b)

  same_text : (r : ℕ) → r ≡ listing_refusal l → if_refused r (refused_line r) (chain_text (gray_bytes (take n l)) (width_of (take n l)) (height_of (take n l))) ≡ if_refused r (refused_line r) (chain_text (gray_bytes l) (width_of l) (height_of l))
  same_text (suc r) e = refl
  same_text zero e =
      let k = (passed l (sym e)).1.2 in
      let x : read_le 2 (take n l) 0 ≡ read_le 2 l 0 = same_side 0 (omega arith) in
      let y : read_le 2 (take n l) 2 ≡ read_le 2 l 2 = same_side 2 (omega arith) in
      let g : (i : ℕ) → i < width_of l * height_of l → get_or (drop 4 (take n l)) i 0 ≡ get_or (drop 4 l) i 0 =
      λ i m. get_or-drop 4 (take n l) i 0 ∙ get_or-take n l (4 + i) 0 (omega (arith, b k, m)) ∙ sym (get_or-drop 4 l i 0) in
      rw (x, y) (same_chain (drop 4 (take n l)) (drop 4 l) (width_of l) (height_of l) g)

  same_listing : listing_of (take n l) ≡ listing_of l
  unfolding listing_of
  same_listing =
      let m = chain_text (gray_bytes (take n l)) (width_of (take n l)) (height_of (take n l)) in
      ap (λ (r : ℕ). if_refused r (refused_line r) m) same_refusal ∙ same_text (listing_refusal l) refl

-- bytes behind the first n are ignored
ignored : (l : List ℕ) (n : ℕ) → 4 ≤ n → (width_of l * height_of l ≤ max_pixels → 4 + width_of l * height_of l ≤ n) → listing_of (take n l) ≡ listing_of l
ignored l n a b = go (ltb (length l) 4) refl
  where
    go : (t : Bool) → ltb (length l) 4 ≡ t → listing_of (take n l) ≡ listing_of l
    go true e = let u = ltb-true (length l) 4 e in ap listing_of (take_all n l (omega (arith, u)))
    go false e = same_listing l n a b (ltb-false (length l) 4 e)

-- those behind the gray bytes are
pub extra_ignored : (l : List ℕ) → listing_of (take (4 + width_of l * height_of l) l) ≡ listing_of l
extra_ignored l = ignored l (4 + width_of l * height_of l) (omega arith) (λ _. omega arith)

-- and those behind as many bytes as the program reads
pub read_enough : (l : List ℕ) → listing_of (take (4 + max_pixels) l) ≡ listing_of l
read_enough l = ignored l (4 + max_pixels) (omega arith) (λ m. omega arith)
