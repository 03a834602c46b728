-- For inner contracts and proofs. What holds of a picture that passed the checks, pieces of text written one after the other, and the text of denoised bits.
use Rattle.std.specs.Prelude.{ℕ, ◌+◌, ◌*◌, ◌≤◌, ◌≡◌, false, List, [], ◌∷◌, ◌++◌, length}
use Rattle.lists.specs.Lists.{flat_map}
use Rattle.lcr_core.specs.Outcome.{zero_side, large_side}
use Rattle.little_endian.specs.Bytes.{put}
use Rattle.finders.specs.Answer.{finders_of}
use Rattle.candidates.specs.Candidates.{detect_answer}
use Rattle.listing_text.specs.declared.pieces.Text.{Text}
use Rattle.listing_text.specs.Text.{space}
use Rattle.listing_text.specs.Listing.{max_pixels, answer_text}

-- what holds of the sides and of the picture bytes of an input that is not refused
abbrev pub ListingPassed : ℕ → ℕ → List ℕ → Type 0
ListingPassed w h p = (zero_side w h ≡ false) × (large_side w h ≡ false) × (w * h ≤ max_pixels) × (w * h ≤ length p)

-- a piece was put at place i of a slice, and r is the place after it
abbrev pub Wrote : List ℕ → ℕ → List ℕ → ℕ → List ℕ → Type 0
Wrote piece i before r after = (after ≡ put piece i before) × (r ≡ i + length piece)

-- a piece of so many characters at most was put at the place of a listing under construction, which still holds the same slice
pub record Adds (piece : List ℕ) (most : ℕ) (old new : Text) : Type 0 where
  pub same_slice : new.text.ghost_name ≡ old.text.ghost_name
  pub wrote : Wrote piece old.at old.text.now new.at new.text.now
  pub within : new.at ≤ old.at + most

-- a field with a space after it
abbrev pub with_space : List ℕ → List ℕ
with_space f = f ++ (space ∷ [])

-- fields with a space after each
unfoldable pub spaced : List (List ℕ) → List ℕ
spaced fs = flat_map with_space fs

-- the text of a picture whose denoised bits these are, whatever stands behind them
unfoldable pub found_text : List ℕ → ℕ → ℕ → List ℕ
found_text bits w h = answer_text w h (finders_of bits w h) (detect_answer bits w h)
