-- Where the limit ended no run of a hit that document 000 confirms, the detections are those over document 000's finders (document 02, N7). Assumes nothing.
use Prim.Native.Nat.{ℕ}
use mathlib.Core.Path.{◌≡◌, ap}
use mathlib.Core.List.{List}
use lib.ListN.{length}
use Rattle.lcr_core.specs.Answer.{checked}
use Rattle.finders.specs.Answer.{find_checks, finders_after}
use Rattle.finders.specs.Held.{Held}
use Rattle.finders.specs.Published.{NoneCut}
use Rattle.finders.proofs.Published.{uncut_found}
use Rattle.candidates.specs.Candidates.{detections_of, detections_table, first_detection, detect_answer, detect_first}
use Rattle.candidates.specs.Published.{published_detect, published_first}

module _ (bits : List ℕ) (w h : ℕ) (u : NoneCut bits w h) where
  -- `detect_candidates`
  pub uncut_detect : detect_answer bits w h ≡ published_detect bits w h
  unfolding detect_answer
  uncut_detect = ap (λ (s : Held). checked (find_checks (length bits) w h s) (detections_table (detections_of bits w h (finders_after s)))) (uncut_found bits w h u)

  -- `detect`
  pub uncut_first : detect_first bits w h ≡ published_first bits w h
  unfolding detect_first
  uncut_first = ap (λ (s : Held). checked (find_checks (length bits) w h s) (first_detection (detections_of bits w h (finders_after s)))) (uncut_found bits w h u)
