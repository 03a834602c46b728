-- `replay_records::spell` meets its contract. Assumes nothing.
use Rattle.std.proofs.Common.{◌≡◌, length, get_or}
use Rattle.lists.specs.Lists.{tabulate, flat_map}
use Rattle.little_endian.specs.Bytes.{put}
use Rattle.replay_records.specs.Record.{byte_digits, line_room}
use Rattle.replay_records.proofs.spell.Given as goal

abbrev pub invariant-loop-i : goal.invariant-loop-i
invariant-loop-i l = (length l.text ≡ line_room) × (l.text ≡ put (flat_map byte_digits (tabulate l.i (λ k. get_or l.out k 0))) 0 l.initial.text)
