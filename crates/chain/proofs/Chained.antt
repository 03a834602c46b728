-- The answer of the chain, from what its two calls say. Assumes nothing.
use mathlib.Core.Path.{◌≡◌, sym, ◌∙◌, ap}
use mathlib.Core.List.{List}
use Prim.Native.Nat.{ℕ}
use Rattle.std.specs.Prelude.{Result}
use Rattle.lcr_core.specs.declared.Refusal.{Refusal}
use Rattle.candidates.specs.declared.Detections.{Detections}
use Rattle.candidates.specs.Candidates.{detect_answer}
use Rattle.candidates.proofs.Tails.{answer_tail}
use Rattle.stages.specs.Pictures.{Picture, denoised_picture, left_after}
use Rattle.stages.proofs.Theorems.{denoised_first}
use Rattle.chain.specs.Chain.{chain_of}

-- where the stages answer m, which is 0
pub chained : (m : ℕ) (p : Picture) → m ≡ 0 → (old done : List ℕ) → done ≡ left_after m (denoised_picture p) old
    → (a : Result Detections Refusal) → a ≡ detect_answer done p.width p.height → a ≡ chain_of p
unfolding chain_of
chained m p z old done e a g =
    g ∙ sym (answer_tail done p.width p.height) ∙ ap (λ (d : List ℕ). detect_answer d p.width p.height) (denoised_first m p z old done e)
