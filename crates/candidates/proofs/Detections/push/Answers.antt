-- `candidates::Detections::push` meets its contract: a detection is stored in the first free place. Assumes nothing.
use Rattle.candidates.proofs.Tables.{pushed}
use Rattle.candidates.proofs.Detections.push.Goals as goal

pub returns : goal.returns
returns c = λ ds e. pushed _ _ ds e c.requires
