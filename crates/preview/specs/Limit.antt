-- To be believed. The limit of an entry as a parameter (document 02, N2): "Offer the preview under that limit beside the full entry with its 4,096, which
-- stays. .. What holds of both is shown with the limit as a parameter. .. New numbers: 10, a preview frame over 640 wide or 480 high, after 1 and before 2."
use Rattle.std.specs.Prelude.{ℕ, Bool, ◌||◌, List, ◌∷◌, ◌++◌, take, drop, ltb}
use Rattle.lcr_core.specs.Outcome.{Check, max_side}
use Rattle.lcr_core.specs.declared.Refusal.{Refusal}
use Rattle.lcr_core.specs.declared.Refusal.TheVariants.{LargeSide, LargeFrame}
use Rattle.stages.specs.Stages.{Room, stages_checks}
use Rattle.stages.specs.Pictures.{Picture}

-- the widest and the highest picture that an entry takes, and the refusal of one that is wider or higher
pub record Limit : Type 0 where
  pub width : ℕ
  pub height : ℕ
  pub refusal : Refusal

-- the full entry's
abbrev pub full_limit : Limit
full_limit = record { width = max_side; height = max_side; refusal = LargeSide }

-- the preview's
abbrev pub preview_limit : Limit
preview_limit = record { width = 640; height = 480; refusal = LargeFrame }

-- whether a picture of w × h pixels is wider or higher
unfoldable pub over_limit : Limit → ℕ → ℕ → Bool
over_limit l w h = ltb l.width w || ltb l.height h

-- the limit's check behind the first of others
abbrev pub limited : Limit → ℕ → ℕ → List Check → List Check
limited l w h cs = take 1 cs ++ (record { refuses = over_limit l w h; refusal = l.refusal } ∷ drop 1 cs)

-- what an entry with a limit checks before a byte is written: 1, the limit's, 2, 3, 4, 5
abbrev pub limited_checks : Limit → Picture → Room → List Check
limited_checks l p r = limited l p.width p.height (stages_checks p r)
