-- A frame that the preview and the full entry both take gets the same finders from both, the same eight slices and the same 6, and the full entry's
-- detections are those of the preview's finders (document 02, N2). Assumes nothing.
use mathlib.Core.Path.{◌≡◌, refl, sym, ap, ◌∙◌}
use Prim.Native.Nat.{ℕ}
use lib.ListN.{length}
use Rattle.std.specs.Prelude.{List, [], ◌∷◌, ◌++◌, Result, Ok, Err}
use Rattle.lists.proofs.Padded.{take-padded}
use Rattle.lcr_core.specs.Answer.{behind}
use Rattle.lcr_core.specs.Outcome.{Check, number_of, first_of}
use Rattle.lcr_core.specs.declared.Refusal.{Refusal}
use Rattle.lcr_core.proofs.Answers.{behind_passed}
use Rattle.lcr_core.specs.declared.finder.Finder.{Finder}
use Rattle.lcr_core.specs.Finder.{zero_finder}
use Rattle.finders.specs.declared.Finders.{Finders}
use Rattle.finders.specs.Search.{max_finders, found}
use Rattle.finders.specs.Answer.{finders_table, held_in, find_checks, finders_of, answer_of}
use Rattle.candidates.specs.declared.Detections.{Detections}
use Rattle.std.specs.Result.{result_map_both}
use Rattle.candidates.proofs.Grades.{map_checked}
use Rattle.candidates.specs.Candidates.{detections_of, detections_table, detect_answer}
use Rattle.stages.specs.declared.Slices.{Slices}
use Rattle.stages.specs.Lent.{LeftAfter}
use Rattle.stages.specs.Pictures.{Picture, denoised_picture}
use Rattle.stages.specs.Stages.{Room, stages_checks, stages_refusal}
use Rattle.chain.specs.Chain.{chain_of, short_detections, whole_answer, entry_answer}
use Rattle.preview.specs.Limit.{full_limit, preview_limit, limited_checks}
use Rattle.preview.specs.Preview.{preview_of, preview_answer}
use Rattle.preview.proofs.Limits.{full_is, taken}

-- the detections of the finders that are answered, in the bits d, or the refusal
abbrev pub detections_by : List ℕ → ℕ → ℕ → Result Finders Refusal → Result Detections Refusal
detections_by d w h = result_map_both (λ t. detections_table (detections_of d w h (held_in t))) (λ refusal. refusal)

module _ (p : Picture) where
  abbrev w : ℕ
  w = p.width

  abbrev h : ℕ
  h = p.height

  abbrev d : List ℕ
  d = denoised_picture p

  chain_by_preview : chain_of p ≡ detections_by d w h (preview_of p)
  unfolding chain_of preview_of answer_of detect_answer
  chain_by_preview =
      let fs = finders_of d w h in
      map_checked (λ (t : Finders). detections_table (detections_of d w h (held_in t))) (find_checks (length d) w h (found d w h)) (finders_table fs) (detections_table (detections_of d w h fs))
      (ap (λ (fs : List Finder). detections_table (detections_of d w h fs)) (sym (take-padded max_finders zero_finder fs)))

  number_by : (r : Result Finders Refusal) → number_of r ≡ number_of (detections_by d w h r)
  number_by (Ok t) = refl
  number_by (Err refusal) = refl

  -- where what the preview checks, and what the full entry checks, refuses nothing
  module _ (cs ds : List Check) (y : 0 ≡ first_of cs) (z : 0 ≡ first_of ds) where
    abbrev finders : Result Finders Refusal
    finders = behind cs (preview_of p)

    abbrev detections : Result Detections Refusal
    detections = behind ds (chain_of p)

    -- the full entry's detections are those of the preview's finders
    pub same_finders : detections ≡ detections_by d w h finders
    same_finders = sym (behind_passed ds (chain_of p) z) ∙ chain_by_preview ∙ ap (detections_by d w h) (behind_passed cs (preview_of p) y)

    -- 0 or 6 in both
    pub same_refusal : number_of finders ≡ number_of detections
    same_refusal = number_by finders ∙ ap number_of (sym same_finders)

-- two entries that answer with the finders of a frame that both take, by any limits
pub two_limits : (p : Picture) (cs ds : List Check) → 0 ≡ first_of cs → 0 ≡ first_of ds → behind cs (preview_of p) ≡ behind ds (preview_of p)
two_limits p cs ds y z = sym (behind_passed cs (preview_of p) y) ∙ behind_passed ds (preview_of p) z

-- ---- `chain` and `plate_chain` are the entries with the limit 4,096, and `preview` and `chain` answer alike where the first takes a frame
module _ (p : Picture) (r : Room) where
  pub chain_is : behind (limited_checks full_limit p r) (chain_of p) ≡ whole_answer p r
  chain_is = full_is p r [] (chain_of p)

  pub plate_chain_is : (len : ℕ) → behind (limited_checks full_limit p r ++ (short_detections len ∷ [])) (chain_of p) ≡ entry_answer p r len
  plate_chain_is len = full_is p r (short_detections len ∷ []) (chain_of p)

  pub preview_and_chain : 0 ≡ first_of (limited_checks preview_limit p r)
      → (whole_answer p r ≡ detections_by (denoised_picture p) p.width p.height (preview_answer p r)) × (number_of (preview_answer p r) ≡ number_of (whole_answer p r))
  unfolding stages_refusal
  preview_and_chain y =
      let cs = limited_checks preview_limit p r in
      let ds = stages_checks p r in
      let z = (taken p r preview_limit y).2 in
      (same_finders p cs ds y z, same_refusal p cs ds y z)

-- two calls leave the same bytes in each of the eight slices
pub record SameBytes (x y : Slices) : Type 0 where
  pub gray : x.gray.now ≡ y.gray.now
  pub bits : x.bits.now ≡ y.bits.now
  pub denoised : x.denoised.now ≡ y.denoised.now
  pub means : x.blocks.now.means.now ≡ y.blocks.now.means.now
  pub least : x.blocks.now.least.now ≡ y.blocks.now.least.now
  pub greatest : x.blocks.now.greatest.now ≡ y.blocks.now.greatest.now
  pub edges : x.blocks.now.edges.now ≡ y.blocks.now.edges.now
  pub nears : x.blocks.now.nears.now ≡ y.blocks.now.nears.now

-- after calls that answer the same number for the same picture and slices
pub same_slices : (n m : ℕ) → n ≡ m → (p : Picture) (old x y : Slices) → LeftAfter n p old x → LeftAfter m p old y → SameBytes x y
same_slices n m e p old x y a b =
    let g = rw (← e) at b in record {
      gray = a.gray ∙ sym g.gray;
      bits = a.bits ∙ sym g.bits;
      denoised = a.denoised ∙ sym g.denoised;
      means = a.means ∙ sym g.means;
      least = a.least ∙ sym g.least;
      greatest = a.greatest ∙ sym g.greatest;
      edges = a.edges ∙ sym g.edges;
      nears = a.nears ∙ sym g.nears;
    }
