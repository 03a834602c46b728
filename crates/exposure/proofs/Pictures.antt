-- A gray picture that is k brighter has the same bits; in one without marks nothing is dark or found. Assumes nothing.
use mathlib.Core.Path.{◌≡◌, sym, ap, subst, ◌∙◌}
use mathlib.Core.Bool.{Bool, false}
use mathlib.Core.List.{List, [], ◌∷◌}
use Prim.Native.Nat.{ℕ, zero, suc, ◌+◌, ◌*◌, ◌/◌, ◌%◌, ◌≤◌, ◌<◌}
use native.Mathlib.Nat.{mul_comm, mul-one}
use Rattle.lists.specs.Lists.{Each, tabulate, at}
use Rattle.lists.proofs.Filters.{each_append, each_get_or}
use Rattle.lists.proofs.Tabulate.{length-tabulate, tabulate_ext, get_d_tabulate}
use Rattle.lcr_core.specs.Passed.{Sides}
use Rattle.binary.specs.Binary.{byte_of, bytes_of}
use Rattle.binary.proofs.Words.{word_same, word_light}
use Rattle.blocks.specs.Blocks.{blocks_in, mean_at, edge_at, near_at}
use Rattle.blocks.proofs.Grids.{place}
use Rattle.blocks.proofs.Brighter.{means_more, edges_same, nears_same}
use Rattle.gray.specs.Gray.{channels_of, gray_of, gray_at}
use Rattle.gray.specs.declared.format.PixelFormat.TheVariants.{Gray8}
use Rattle.denoise.specs.Denoise.{denoised_at}
use Rattle.binarize.specs.Binarize.{is_dark}
use Rattle.binarize.proofs.Brighter.{dark_more}
use Rattle.binarize.proofs.Unmarked.{none_dark}
use Rattle.stages.specs.Stages.{Room, refusal_of}
use Rattle.stages.specs.Pictures.{gray_picture, bit_picture, denoised_picture, edge_marks, near_marks}
use Rattle.std.specs.Prelude.{Ok}
use Rattle.lcr_core.proofs.Answers.{checked_passed}
use Rattle.finders.specs.Answer.{find_checks, find_refusal, finders_of}
use Rattle.finders.specs.Search.{found}
use Rattle.candidates.specs.declared.Detection.{Detection}
use Rattle.candidates.specs.Candidates.{detections_table, detections_of, detect_answer}
use Rattle.candidates.proofs.Answers.{detect_number}
use lib.ListN.{length}
use Rattle.chain.specs.Chain.{chain_of}
use Rattle.chain.proofs.Theorems.{six_is_left}
use Rattle.exposure.specs.Exposure.{as_gray8, Brighter, Unmarked}
use Rattle.exposure.proofs.Blank.{light_denoised, none_found, no_detection}

-- ---- the gray value of pixel number i is the byte in its column and row
gray_byte : (p : List ℕ) (w h s i : ℕ) → i < w * h → at (gray_picture (as_gray8 p w h s)) i ≡ at p (i / w * s + i % w)
unfolding gray_picture gray_at gray_of
gray_byte p w h s i l = get_d_tabulate (w * h) (gray_at p w s (channels_of Gray8)) i 0 l ∙ rw (mul-one (i % w))

-- ---- a brighter picture
module _ (k : ℕ) (p q : List ℕ) (w h s : ℕ) (sides : Sides w h) (b : Brighter k p q w h s) where
  within : (i : ℕ) → i < w * h → (i % w < w) × (i / w < h)
  within i l = let n = place i w h (rw (mul_comm h w) l) in (n.1, n.2)

  gray_more : (i : ℕ) → i < w * h → at (gray_picture (as_gray8 q w h s)) i ≡ at (gray_picture (as_gray8 p w h s)) i + k
  gray_more i l =
      let n = within i l in
      gray_byte q w h s i l ∙ b.more (i % w) (i / w) n.0 n.1 ∙ ap (λ (v : ℕ). v + k) (sym (gray_byte p w h s i l))

  gray_most : (i : ℕ) → i < w * h → at (gray_picture (as_gray8 p w h s)) i + k ≤ 255
  gray_most i l =
      let n = within i l in
      rw (sym (gray_more i l), gray_byte q w h s i l) (b.most (i % w) (i / w) n.0 n.1)

  pub bits_same : bit_picture (as_gray8 q w h s) ≡ bit_picture (as_gray8 p w h s)
  unfolding bit_picture
  bits_same =
      let g = gray_picture (as_gray8 p w h s) in
      let g' = gray_picture (as_gray8 q w h s) in
      let dark : (i : ℕ) → is_dark g' w h i ≡ is_dark g w h i =
      dark_more k (mean_at g w h) (mean_at g' w h) (edge_at g w h) (edge_at g' w h) (near_at g w h) (near_at g' w h) g g' w h
      (means_more k g g' w h sides gray_more gray_most) (edges_same k g g' w h sides gray_more gray_most) (nears_same k g g' w h sides gray_more gray_most) gray_more
      in
      tabulate_ext (bytes_of (w * h)) (byte_of (is_dark g' w h)) (byte_of (is_dark g w h)) (λ j _. word_same (is_dark g' w h) (is_dark g w h) (j * 8) (j * 8) 8 (λ i _. dark (j * 8 + i)))

-- ---- a picture without marks
each_tabulate : (P : ℕ → Type 0) (n : ℕ) (f : ℕ → ℕ) → ((i : ℕ) → P (f i)) → Each P (tabulate n f)
unfolding tabulate
each_tabulate P zero f e = tt
each_tabulate P (suc n) f e = each_append P (tabulate n f) (f n ∷ []) (each_tabulate P n f e) (e n, tt)

tabulated : (P : ℕ → Type 0) (n : ℕ) (f : ℕ → ℕ) → Each P (tabulate n f) → (i : ℕ) → i < n → P (f i)
tabulated P n f e i l = subst P (get_d_tabulate n f i 0 l) (each_get_or P (tabulate n f) i 0 e (rw (length-tabulate n f) l))

module _ (p : List ℕ) (w h s : ℕ) where
  light_byte : (d : ℕ → Bool) → ((k : ℕ) → d k ≡ false) → (j : ℕ) → byte_of d j ≡ 0
  light_byte d e j = word_light d (j * 8) 8 (λ i _. e (j * 8 + i))

  -- none is dark
  pub unmarked_bits : Unmarked p w h s → Each (λ b. b ≡ 0) (bit_picture (as_gray8 p w h s))
  unfolding bit_picture edge_marks near_marks
  unmarked_bits u =
      let g = gray_picture (as_gray8 p w h s) in
      let edge = tabulated (λ m. m ≡ 0) (blocks_in w h) (edge_at g w h) u.0 in
      let near = tabulated (λ m. m ≡ 0) (blocks_in w h) (near_at g w h) u.1 in
      each_tabulate (λ b. b ≡ 0) (bytes_of (w * h)) (byte_of (is_dark g w h)) (light_byte (is_dark g w h) (none_dark (mean_at g w h) (edge_at g w h) (near_at g w h) g w h edge near))

  pub unmarked_denoised : Unmarked p w h s → Each (λ b. b ≡ 0) (denoised_picture (as_gray8 p w h s))
  unfolding denoised_picture
  unmarked_denoised u =
      let d = denoised_at (bit_picture (as_gray8 p w h s)) w h in
      each_tabulate (λ b. b ≡ 0) (bytes_of (w * h)) (byte_of d) (light_byte d (light_denoised (bit_picture (as_gray8 p w h s)) w h (unmarked_bits u)))

  -- and nothing is found
  pub unmarked_answer : (len : ℕ) (r : Room) → refusal_of len w h s (as_gray8 p w h s).format r ≡ 0 → Unmarked p w h s → chain_of (as_gray8 p w h s) ≡ Ok (detections_table [])
  unfolding chain_of detect_answer find_refusal
  unmarked_answer len r z u =
      let d = denoised_picture (as_gray8 p w h s) in
      let n : find_refusal d w h ≡ 0 = sym (detect_number d w h) ∙ six_is_left (as_gray8 p w h s) len r z ∙ rw (none_found d w h (unmarked_denoised u)) in
      sym (checked_passed (find_checks (length d) w h (found d w h)) (detections_table (detections_of d w h (finders_of d w h))) (sym n)) ∙ ap (λ (ds : List Detection). Ok (detections_table ds)) (no_detection d w h (unmarked_denoised u))
