-- `finders::find_finders` meets its contract. Assumes nothing.
use Rattle.std.proofs.Common.{◌≡◌, length, sym, refl, ◌∙◌}
use Rattle.lcr_core.specs.Passed.{Sides}
use Rattle.binary.specs.Refusal.{bits_refusal}
use Rattle.binary.proofs.Pass.{bits_pass}
use Rattle.finders.specs.Answer.{answer_of}
use Rattle.finders.proofs.Outcomes.{rows_over, columns_over, all_held, refuse_is, six_is, ranked_is}
use Rattle.finders.proofs.find_finders.Goals.{In_ok-picture}
use Rattle.finders.proofs.find_finders.Goals as goal

pub returns-in_err-picture : goal.returns-in_err-picture
returns-in_err-picture c = refuse_is _ _ _ _ c.in_err-picture.field-0.0 c.from_residual.ensures.1 c.in_err-picture.ensures.number

-- the picture that passed is the one that was lent
passed : (c : In_ok-picture) → let p = c.in_ok-picture.picture in 0 ≡ bits_refusal (length p.bits.now) p.width p.height
passed c = let e = c.in_ok-picture.ensures.picture in rw (e.0, e.1, e.2) c.in_ok-picture.ensures.number

sides : (c : In_ok-picture) → let p = c.in_ok-picture.picture in Sides p.width p.height
sides c = let p = c.in_ok-picture.picture in (bits_pass (length p.bits.now) p.width p.height (sym (passed c))).0

same : (c : In_ok-picture) → let p = c.in_ok-picture.picture in let b = c.args.bits in answer_of p.bits.now p.width p.height ≡ answer_of b.bits.now b.width b.height
same c = let e = c.in_ok-picture.ensures.picture in rw (e.0, e.1, e.2) refl

pub returns-in_err-scan_axis : goal.returns-in_err-scan_axis
returns-in_err-scan_axis c =
    let o = (goal.at.returns-in_err-scan_axis c).In_ok-picture in
    let p = c.in_ok-picture.picture in
    let e = c.in_err-scan_axis.ensures in
    six_is p.bits.now p.width p.height (passed o) _ _ c.from_residual-in_err-scan_axis.ensures.1 e.1 (rows_over _ _ _ (sides o) _ c.no_finders-held.ensures e.0) ∙ same o

pub returns-in_err-scan_axis-2 : goal.returns-in_err-scan_axis-2
returns-in_err-scan_axis-2 c =
    let o = (goal.at.returns-in_err-scan_axis-2 c).In_ok-picture in
    let p = c.in_ok-picture.picture in
    let r = c.in_ok-scan_axis.ensures in
    let e = c.in_err-scan_axis-2.ensures in
    six_is p.bits.now p.width p.height (passed o) _ _ c.from_residual-in_err-scan_axis-2.ensures.1 e.1
    (columns_over _ _ _ (sides o) _ c.no_finders-held.ensures _ r.0 r.1 e.0) ∙ same o

pub returns : goal.returns
returns c =
    let o = (goal.at.returns c).In_ok-picture in
    let p = c.in_ok-picture.picture in
    let r = c.in_ok-scan_axis.ensures in
    let e = c.in_ok-scan_axis-2.ensures in
    ranked_is p.bits.now p.width p.height (passed o) _ _ (all_held _ _ _ (sides o) _ c.no_finders-held.ensures _ r.0 r.1 _ e.0 e.1) c.rank_held.ensures ∙ same o
