-- The whole text from what its parts write. Assumes nothing.
use mathlib.Core.Path.{◌≡◌, refl, sym, ap, ap₂, ◌∙◌}
use mathlib.Core.List.{List, ◌++◌}
use Prim.Native.Nat.{ℕ, ◌+◌, ◌*◌, ◌≤◌, ◌<◌}
use native.Mathlib.Omega.{arith}
use lib.ListN.{length, take, drop}
use lib.Seq.{take_all}
use borrow.Author.Tests.{lt-ltb, le-ltb}
use Rattle.lists.specs.Lists.{flat_map}
use Rattle.lists.proofs.Padded.{take-padded}
use Rattle.binary.specs.Binary.{bytes_of}
use Rattle.lcr_core.specs.Outcome.{refusal_number, number_of, if_refused}
use Rattle.lcr_core.specs.declared.Refusal.{Refusal}
use Rattle.std.specs.Prelude.{Result, Ok, Err}
use Rattle.lcr_core.proofs.Answers.{checked_passed}
use Rattle.lcr_core.proofs.Checks.{some_number, if_refused_kept, if_refused_done}
use Rattle.little_endian.proofs.Round.{put_front}
use Rattle.lcr_core.specs.declared.finder.Finder.{Finder}
use Rattle.lcr_core.specs.Finder.{zero_finder}
use Rattle.finders.specs.declared.Finders.{Finders}
use Rattle.finders.proofs.Outcomes.{answer_table}
use Rattle.finders.specs.Search.{max_finders, found}
use Rattle.finders.specs.Answer.{held_in, find_checks, find_refusal, finders_of, answer_of, finders_table}
use Rattle.ranking.specs.declared.Eight.{Eight}
use Rattle.ranking.specs.Tables.{in_use, eight_of}
use Rattle.candidates.specs.declared.Detection.{Detection}
use Rattle.candidates.specs.declared.Detections.{Detections}
use Rattle.candidates.specs.Detection.{zero_detection}
use Rattle.candidates.specs.Candidates.{detections_of, detections_table, table_in, from_answer, detect_answer}
use Rattle.candidates.proofs.Answers.{from-eight, detect_number}
use Rattle.candidates.proofs.Theorems.{same_answer}
use Rattle.candidates.proofs.Tails.{finders_tail, answer_tail}
use Rattle.stages.specs.Pictures.{as_picture, denoised_picture, left_after}
use Rattle.stages.proofs.Theorems.{denoised_first}
use Rattle.chain.specs.Chain.{chain_of}
use Rattle.listing_text.specs.declared.pieces.Text.{Text}
use Rattle.listing_text.specs.Inner.{Wrote, Adds, found_text}
use Rattle.listing_text.specs.Listing.{refused_line, head_line, finder_line, detection_line, list_text, detections_in, answer_text, chain_text, width_of, height_of, gray_bytes, listing_refusal, listing_of, listing_room, written_in}
use Rattle.listing_text.proofs.Writing.{wrote_as, adds_then}

-- ---- the list
pub list_adds : (w h : ℕ) (t : Finders) (u : Detections) (xs : List Finder) (ys : List Detection) {i j k : ℕ} {a b c d : Text} → xs ≡ held_in t → ys ≡ detections_in u
    → Adds (head_line w h t.count u.count) i a b → Adds (flat_map finder_line xs) j b c → Adds (flat_map detection_line ys) k c d
    → (fs : List Finder) (ds : List Detection) → t ≡ finders_table fs → u ≡ detections_table ds → Adds (list_text w h fs ds) (i + (j + k)) a d
unfolding list_text
list_adds w h t u xs ys ex ey p q s fs ds e f =
    let c : t.count ≡ length fs = ap (λ (t : Finders). t.count) e in
    let d : u.count ≡ length ds = ap (λ (u : Detections). u.count) f in
    let x : xs ≡ fs = ex ∙ ap (λ (t : Finders). held_in t) e ∙ take-padded max_finders zero_finder fs in
    let y : ys ≡ ds = ey ∙ ap (λ (u : Detections). detections_in u) f ∙ take-padded 3 zero_detection ds in
    rw (c, d) at rw (x, y) at (adds_then p (adds_then q s))

-- ---- the search
module _ (bits : List ℕ) (w h : ℕ) where
  abbrev ds : List Detection
  ds = detections_of bits w h (finders_of bits w h)

  -- the answer where nothing is refused, and its detections
  pub answer_passed : find_refusal bits w h ≡ 0 → detect_answer bits w h ≡ Ok (detections_table ds)
  unfolding detect_answer find_refusal
  answer_passed z = sym (checked_passed (find_checks (length bits) w h (found bits w h)) (detections_table ds) (sym z))

  -- the text, by what is refused
  refused_text : (fs : List Finder) (a : Result Detections Refusal) → (number_of a ≡ 0 → ⊥) → answer_text w h fs a ≡ refused_line (number_of a)
  unfolding answer_text
  refused_text fs (Ok t) z = absurd (z refl)
  refused_text fs (Err refusal) z = refl

  pub text_refused : (find_refusal bits w h ≡ 0 → ⊥) → found_text bits w h ≡ refused_line (find_refusal bits w h)
  unfolding found_text
  text_refused z =
      let n = detect_number bits w h in
      refused_text (finders_of bits w h) (detect_answer bits w h) (λ e. z (sym n ∙ e)) ∙ ap refused_line n

  pub text_listed : find_refusal bits w h ≡ 0 → found_text bits w h ≡ list_text w h (finders_of bits w h) (detections_of bits w h (finders_of bits w h))
  unfolding found_text answer_text
  text_listed z =
      let fs = finders_of bits w h in
      ap (answer_text w h fs) (answer_passed z) ∙ ap (list_text w h fs) (take-padded 3 zero_detection ds)

  pub found-refused : (refusal : Refusal) (n r : ℕ) (a b : List ℕ) → refusal_number refusal ≡ find_refusal bits w h → n ≡ refusal_number refusal → Wrote (refused_line n) 0 a r b
      → Wrote (found_text bits w h) 0 a r b
  found-refused refusal n r a b z q p =
      wrote_as (refused_line n) (found_text bits w h) 0 r a b (ap refused_line (q ∙ z) ∙ sym (text_refused (λ i. some_number refusal (z ∙ i)))) p

  module _ (f : Finders) (e : Ok f ≡ answer_of bits w h) where
    pub none : find_refusal bits w h ≡ 0
    none = (answer_table bits w h f e).0

    found_table : f ≡ finders_table (finders_of bits w h)
    found_table = (answer_table bits w h f e).1

    -- of its first eight finders the detections are not refused
    module _ (t : Eight) (k : (gs : List Finder) → f ≡ finders_table gs → t ≡ eight_of gs) where
      detected : (x : Result Detections Refusal) → x ≡ from_answer bits w h (in_use t) → x ≡ Ok (detections_table ds)
      detected x g = g ∙ from-eight bits w h (finders_of bits w h) t (k (finders_of bits w h) found_table) ∙ sym (same_answer bits w h none) ∙ answer_passed none

      pub detected-refused : (refusal : Refusal) → Err refusal ≡ from_answer bits w h (in_use t) → ⊥
      detected-refused refusal g = some_number refusal (ap number_of (detected (Err refusal) g))

      pub found_listed : (u : Detections) (r : ℕ) (a b : List ℕ) → Ok u ≡ from_answer bits w h (in_use t)
          → ((fs : List Finder) (ds : List Detection) → f ≡ finders_table fs → u ≡ detections_table ds → Wrote (list_text w h fs ds) 0 a r b) → Wrote (found_text bits w h) 0 a r b
      found_listed u r a b g p =
          let fs = finders_of bits w h in
          wrote_as (list_text w h fs ds) (found_text bits w h) 0 r a b (sym (text_listed none)) (p fs ds found_table (ap table_in (detected (Ok u) g)))

-- ---- the picture
-- what stands behind a picture's bits is not read
found_text_tail : (bits : List ℕ) (w h : ℕ) → found_text (take (bytes_of (w * h)) bits) w h ≡ found_text bits w h
unfolding found_text
found_text_tail bits w h = ap₂ (answer_text w h) (finders_tail bits w h) (answer_tail bits w h)

-- the text of what the stages leave, where they answer n
pub chain_wrote : (n : ℕ) (p : List ℕ) (w h : ℕ) (old done : List ℕ) (r : ℕ) (a b : List ℕ) → n ≡ 0 → done ≡ left_after n (denoised_picture (as_picture p w h w 1)) old
    → Wrote (found_text done w h) 0 a r b → Wrote (chain_text p w h) 0 a r b
unfolding chain_text chain_of found_text
chain_wrote n p w h old done r a b z e q =
    let g = as_picture p w h w 1 in
    let d = denoised_picture g in
    let t : found_text done w h ≡ found_text d w h = sym (found_text_tail done w h) ∙ ap (λ (d : List ℕ). found_text d w h) (denoised_first n g z old done e) in
    wrote_as (found_text done w h) (found_text d w h) 0 r a b t q

-- ---- the input
pub listing_refused : (l : List ℕ) (n r : ℕ) (a b : List ℕ) → n ≡ listing_refusal l → (n ≡ 0 → ⊥) → Wrote (refused_line n) 0 a r b → Wrote (listing_of l) 0 a r b
unfolding listing_of
listing_refused l n r a b e z p =
    let m = listing_refusal l in
    let x = chain_text (gray_bytes l) (width_of l) (height_of l) in
    wrote_as (refused_line n) (if_refused m (refused_line m) x) 0 r a b (ap refused_line e ∙ if_refused_kept m (refused_line m) x (λ i. z (e ∙ i))) p

pub listing_done : (l p : List ℕ) (w h r : ℕ) (a b : List ℕ) → listing_refusal l ≡ 0 → w ≡ width_of l → h ≡ height_of l → p ≡ gray_bytes l
    → Wrote (chain_text p w h) 0 a r b → Wrote (listing_of l) 0 a r b
unfolding listing_of
listing_done l p w h r a b z e f g q =
    let m = listing_refusal l in
    let x = chain_text (gray_bytes l) (width_of l) (height_of l) in
    let i : chain_text p w h ≡ x = ap (λ p. chain_text p w h) g ∙ ap (λ w. chain_text (gray_bytes l) w h) e ∙ ap (λ h. chain_text (gray_bytes l) (width_of l) h) f in
    wrote_as (chain_text p w h) (if_refused m (refused_line m) x) 0 r a b (i ∙ if_refused_done m (refused_line m) x z) q

-- ---- the room
pub too_short : (l a : List ℕ) → length a < listing_room → (0 ≡ written_in (length a) l) × (a ≡ take 0 l ++ drop 0 a) × (0 ≤ listing_room)
unfolding written_in
too_short l a h = (rw (lt-ltb (length a) listing_room h), refl, omega arith)

pub all_written : (l a b : List ℕ) (r : ℕ) → listing_room ≤ length a → r ≤ listing_room → Wrote l 0 a r b → (r ≡ written_in (length a) l) × (b ≡ take r l ++ drop r a) × (r ≤ listing_room)
unfolding written_in
all_written l a b r h m w =
    let n : r ≡ length l = w.1 ∙ (let e : 0 + length l ≡ length l = omega arith in e) in
    let k : length l ≤ length a = omega (arith, n, h, m) in
    (rw (le-ltb (length a) listing_room h) n, w.0 ∙ put_front l a k ∙ ap₂ (λ (x y : List ℕ). x ++ y) (sym (take_all r l (omega (arith, n)))) (ap (λ i. drop i a) (sym n)), m)
