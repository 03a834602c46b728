-- `candidates::detect` meets its contract. Assumes nothing.
use Rattle.candidates.proofs.Answers.{first_refused}
use Rattle.candidates.proofs.detect.Goals as goal

pub returns-in_err-found : goal.returns-in_err-found
returns-in_err-found c = let p = c.args.bits in first_refused p.bits.now p.width p.height _ c.in_err-found.ensures _ c.from_residual.ensures.1
