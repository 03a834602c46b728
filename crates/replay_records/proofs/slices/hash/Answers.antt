-- `replay_records::slices::hash` meets its contract. Assumes nothing.
use Rattle.std.proofs.Common.{◌≡◌, ◌∙◌, rules}
use Rattle.std.specs.List.{fold}
use Rattle.replay_records.specs.Record.{hash_step}
use Rattle.replay_records.proofs.SliceLaws.{folded_is}
use Rattle.replay_records.proofs.slices.hash.Goals as goal

pub returns : goal.returns
returns c =
    let s = c.args.s.now in
    let e : c.fold.result ≡ fold hash_step 14695981039346656037 s = search rules in
    e ∙ folded_is hash_step 14695981039346656037 s
