-- `replay_records::put_line` meets its contract. Assumes nothing.
use Rattle.std.proofs.Common.{◌≡◌, List, ℕ, ne_eqb, ap, ◌∙◌, sym}
use lib.ListN.{length}
use Rattle.little_endian.specs.Bytes.{put}
use Rattle.replay_records.specs.Record.{digits_line, answer_line}
use Rattle.replay_records.proofs.Parts.{dash_line, length_line, some_bytes}
use Rattle.replay_records.proofs.put_line.Goals.{After-spell}
use Rattle.replay_records.proofs.put_line.Goals as goal

pub returns-then-n-eq0-clause-line : goal.returns-then-n-eq0-clause-line
unfolding put
returns-then-n-eq0-clause-line c = ap (λ (l : List ℕ). put l 0 c.args.text.now) (dash_line c.args.n c.args.out.now c.if-n-eq0.true)

pub returns-then-n-eq0-clause-len : goal.returns-then-n-eq0-clause-len
returns-then-n-eq0-clause-len c = ap length (dash_line c.args.n c.args.out.now c.if-n-eq0.true)

line : (c : After-spell) → digits_line c.min.result c.args.out.now ≡ answer_line c.args.n c.args.out.now
line c = some_bytes c.args.n c.min.result c.args.out.now (ne_eqb c.args.n 0 c.if-n-eq0.false) c.min.ensures

pub returns-clause-line : goal.returns-clause-line
returns-clause-line c = c.spell.ensures.line ∙ ap (λ (l : List ℕ). put l 0 c.args.text.now) (line (goal.at.returns-clause-line c).After-spell)

pub returns-clause-len : goal.returns-clause-len
returns-clause-len c = c.spell.ensures.len ∙ sym (length_line c.min.result c.args.out.now) ∙ ap length (line (goal.at.returns-clause-len c).After-spell)
