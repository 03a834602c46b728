-- To be believed. The preview of a frame (document 02, N2): "While the unit is being aimed, the display wants the finders of each frame, and its frames never
-- exceed 640 × 480. .. It takes and writes what the whole chain does and answers with the finders only."
use Rattle.std.specs.Prelude.{ℕ, List, [], ◌∷◌, ◌++◌, ltb, Result}
use Rattle.lists.specs.Lists.{written}
use Rattle.lcr_core.specs.Answer.{behind}
use Rattle.lcr_core.specs.Outcome.{Check, if_refused}
use Rattle.lcr_core.specs.declared.Refusal.{Refusal}
use Rattle.lcr_core.specs.declared.Refusal.TheVariants.{ShortOutput}
use Rattle.finders.specs.declared.Finders.{Finders}
use Rattle.finders.specs.Search.{max_finders}
use Rattle.finders.specs.Answer.{held_in, answer_of, finders_in}
use Rattle.stages.specs.Stages.{Room}
use Rattle.stages.specs.Pictures.{Picture, denoised_picture}
use Rattle.stored.specs.Stored.{stored_bytes, size_of}
use Rattle.preview.specs.Limit.{preview_limit, limited_checks}

-- what is answered for a picture that no check refuses: the finders of its denoised bits, or 6
unfoldable pub preview_of : Picture → Result Finders Refusal
preview_of p = answer_of (denoised_picture p) p.width p.height

-- `preview`: behind what is checked before a byte is written, 1, 10, 2, 3, 4, 5
abbrev pub preview_answer : Picture → Room → Result Finders Refusal
preview_answer p r = behind (limited_checks preview_limit p r) (preview_of p)

-- 5: the slice of the stored list, of len bytes, is too short for as many finders as there can be
abbrev pub short_list : ℕ → Check
short_list len = record { refuses = ltb len (size_of max_finders); refusal = ShortOutput }

-- what `plate_preview` checks before a byte is written: this too
abbrev pub preview_entry_checks : Picture → Room → ℕ → List Check
preview_entry_checks p r len = limited_checks preview_limit p r ++ (short_list len ∷ [])

-- `plate_preview`
abbrev pub preview_entry_answer : Picture → Room → ℕ → Result Finders Refusal
preview_entry_answer p r len = behind (preview_entry_checks p r len) (preview_of p)

-- what a call that answers n leaves of that slice: after 0 the finders as a stored list, else all as it was
abbrev pub list_after : ℕ → Picture → List ℕ → List ℕ
list_after n p old = if_refused n old (written (stored_bytes p.width p.height (held_in (finders_in (preview_of p)))) old)
