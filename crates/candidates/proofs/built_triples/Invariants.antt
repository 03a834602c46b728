-- `candidates::built_triples` meets its contract: before a turn, the table has the detections of the ranked triples before its own. Assumes nothing.
use mathlib.Core.Path.{◌≡◌}
use Rattle.candidates.specs.Candidates.{detections_table}
use Rattle.candidates.proofs.Tables.{first}
use Rattle.candidates.proofs.built_triples.Given as goal

abbrev pub invariant-loop-s : goal.invariant-loop-s
invariant-loop-s l = let p = l.bits in l.found ≡ detections_table (first l.fs l.s-items p.bits.now p.width p.height l.s-index)
