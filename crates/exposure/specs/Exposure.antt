-- To be believed. Other exposures of a gray picture. Document 02, N6: "add one whole number to every byte of a gray picture, none going below 0 or above 255,
-- and the bits, the denoised bits, the finders, the detections and a refusal 6 are the same. This is stated of the chain on `Gray8` pictures, for pictures
-- without any edge as well."
use Rattle.std.specs.Prelude.{ℕ, ◌+◌, ◌-◌, ◌*◌, ◌≤◌, ◌<◌, ◌≡◌, List, [], map, length, Result, Ok}
use Rattle.lists.specs.Lists.{Each, at}
use Rattle.gray.specs.Gray.{channels_of}
use Rattle.gray.specs.declared.format.PixelFormat.TheVariants.{Gray8}
use Rattle.stages.specs.Pictures.{Picture, as_picture, bit_picture, denoised_picture, edge_marks, near_marks, left_after}
use Rattle.stages.specs.Stages.{room_of}
use Rattle.lcr_core.specs.Outcome.{number_of}
use Rattle.lcr_core.specs.declared.Refusal.{Refusal}
use Rattle.finders.specs.declared.Finders.{Finders}
use Rattle.finders.specs.Answer.{answer_of}
use Rattle.candidates.specs.declared.Detections.{Detections}
use Rattle.candidates.specs.Candidates.{detections_table}
use Rattle.chain.specs.Chain.{chain_of, whole_answer, entry_answer, detections_after}

-- ---- exposures of a picture p

-- a brighter exposure: k more in every byte
abbrev pub brighter : ℕ → List ℕ → List ℕ
brighter k p = map (λ b. b + k) p

-- where none goes above 255
abbrev pub NoneAbove : ℕ → List ℕ → Type 0
NoneAbove k p = Each (λ b. b + k ≤ 255) p

-- a darker exposure: k less in every byte
abbrev pub darker : ℕ → List ℕ → List ℕ
darker k p = map (λ b. b - k) p

-- where none goes below 0; p itself has bytes
abbrev pub NoneBelow : ℕ → List ℕ → Type 0
NoneBelow k p = Each (λ b. (k ≤ b) × (b ≤ 255)) p

-- q is k brighter than p, both of w × h pixels in rows of s bytes, whatever stands between and behind the rows
pub record Brighter (k : ℕ) (p q : List ℕ) (w h s : ℕ) : Type 0 where
  pub bytes : length q ≡ length p
  pub more : (x y : ℕ) → x < w → y < h → at q (y * s + x) ≡ at p (y * s + x) + k
  pub most : (x y : ℕ) → x < w → y < h → at q (y * s + x) ≤ 255

-- ---- what a call answers for a gray picture and leaves in the slices lent to it: the right-hand sides of its contract

-- `chain` (chain/src/lib.rt), and what `find_finders` answers for the denoised bits that it leaves
pub record Fix : Type 0 where
  pub answer : Result Detections Refusal
  pub bits : List ℕ
  pub denoised : List ℕ
  pub finders : Result Finders Refusal

-- `plate_chain` (chain/src/entry.rt), and the same finders
pub record EntryFix : Type 0 where
  pub number : ℕ
  pub bits : List ℕ
  pub denoised : List ℕ
  pub finders : Result Finders Refusal
  pub detections : List ℕ

-- the gray picture of w × h pixels in rows of s bytes that has the bytes p
abbrev pub as_gray8 : List ℕ → ℕ → ℕ → ℕ → Picture
as_gray8 p w h s = as_picture p w h s (channels_of Gray8)

-- for such a picture, and the slices lent, of which `work` has the five work slices
module _ (w h s : ℕ) (gray bits denoised : List ℕ) (work : List (List ℕ)) where
  -- of `chain`
  abbrev pub fix_of : List ℕ → Fix
  fix_of p =
      let g = as_gray8 p w h s in
      let r = whole_answer g (room_of gray bits denoised work) in
      let n = number_of r in
      let d = left_after n (denoised_picture g) denoised in
      record { answer = r; bits = left_after n (bit_picture g) bits; denoised = d; finders = answer_of d w h }

  -- of `plate_chain`, which is lent a slice of detections too
  abbrev pub entry_fix_of : List ℕ → List ℕ → EntryFix
  entry_fix_of detections p =
      let g = as_gray8 p w h s in
      let n = number_of (entry_answer g (room_of gray bits denoised work) (length detections)) in
      let d = left_after n (denoised_picture g) denoised in
      record {
        number = n;
        bits = left_after n (bit_picture g) bits;
        denoised = d;
        finders = answer_of d w h;
        detections = detections_after n g detections;
      }

  -- both are the same for the pictures p and q
  abbrev pub SameFix : List ℕ → List ℕ → List ℕ → Type 0
  SameFix detections p q = (fix_of q ≡ fix_of p) × (entry_fix_of detections q ≡ entry_fix_of detections p)

-- ---- pictures without marks

-- each edge mark and each near mark is 0
abbrev pub Unmarked : List ℕ → ℕ → ℕ → ℕ → Type 0
Unmarked p w h s = Each (λ m. m ≡ 0) (edge_marks (as_gray8 p w h s)) × Each (λ m. m ≡ 0) (near_marks (as_gray8 p w h s))

-- nothing is dark, in the bits and in the denoised bits, and nothing is found: done, and no detection
pub record Blank (p : List ℕ) (w h s : ℕ) : Type 0 where
  pub bits : Each (λ b. b ≡ 0) (bit_picture (as_gray8 p w h s))
  pub denoised : Each (λ b. b ≡ 0) (denoised_picture (as_gray8 p w h s))
  pub answer : chain_of (as_gray8 p w h s) ≡ Ok (detections_table [])
