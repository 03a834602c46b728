-- `alignment::template::View::new` meets its contract. Assumes nothing.
use mathlib.Core.Path.{◌≡◌, sym, ◌∙◌}
use Prim.Native.Nat.{ℕ}
use lib.ListN.{length}
use Rattle.lcr_core.specs.Version.{version_refusal}
use Rattle.lcr_core.proofs.Checks.{refused_on, same_number, passed_first}
use Rattle.binary.specs.Refusal.{bits_refusal}
use Rattle.alignment.specs.Alignment.{alignment_checks, alignment_refusal}
use Rattle.alignment.proofs.template.View.new.Goals as goal

-- where the picture passes, the version decides
by_version : (len w h v : ℕ) → 0 ≡ bits_refusal len w h → version_refusal v ≡ alignment_refusal len w h v
unfolding bits_refusal version_refusal alignment_refusal
by_version len w h v e = passed_first 3 (alignment_checks len w h v) e

pub returns-in_err-picture-clause-number : goal.returns-in_err-picture-clause-number
unfolding bits_refusal alignment_refusal
returns-in_err-picture-clause-number c =
    let p = c.args.bits in refused_on _ _ c.from_residual.ensures.1 3 (alignment_checks (length p.bits.now) p.width p.height c.args.version.0) c.in_err-picture.ensures.number

pub returns-in_err-new-clause-number : goal.returns-in_err-new-clause-number
returns-in_err-new-clause-number c =
    same_number _ _ c.from_residual-in_err-new.ensures.1 ∙ c.in_err-new.ensures.number ∙ by_version _ _ _ _ c.in_ok-picture.ensures.number

pub invariant_of-result : goal.invariant_of-result
invariant_of-result c =
    let q = c.in_ok-picture.ensures.picture in
    record { passes = rw (q.0, q.1, q.2) (sym (c.in_ok-new.ensures.number ∙ by_version _ _ _ _ c.in_ok-picture.ensures.number)) }
