-- `replay_records::fixed_part` meets its contract. Assumes nothing.
use Rattle.std.proofs.Common.{rules}
use Rattle.replay_records.proofs.FixedParts.{not_listed}
use Rattle.replay_records.proofs.fixed_part.Goals as goal

pub returns-in_default : goal.returns-in_default
returns-in_default c = not_listed c.args.function (search rules)
