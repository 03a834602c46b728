use Rattle.std.proofs.Common.{◌≡◌, get_or, take, refl, arith, length-set}
use Rattle.std.proofs.lemmas.List.{get_or-take}
use Rattle.lists.specs.Lists.{tabulate, flat_map}
use Rattle.little_endian.specs.Bytes.{put}
use Rattle.replay_records.proofs.Parts.{two_digits, spelled_more, spelled_end}
use Rattle.replay_records.proofs.spell.Goals as goal

pub loop-i-init : goal.loop-i-init
unfolding tabulate flat_map put
loop-i-init c = (c.requires.1, refl)

pub loop-i-preserved : goal.loop-i-preserved
loop-i-preserved c =
    let l = c.loop-i in
    let a = c.args in
    let e : get_or (take a.n a.out.now) l.i 0 ≡ get_or a.out.now l.i 0 = get_or-take a.n a.out.now l.i 0 (omega arith) in
    let d = two_digits (get_or a.out.now l.i 0) _ _ (omega arith) (rw e at c.hex.ensures.len) (rw e at c.hex.ensures.digits) in
    (simp length-set (omega arith), spelled_more (λ k. get_or a.out.now k 0) a.text.now l.text l.i _ _ l.invariant.1 d.0 d.1)

pub returns-clause-line : goal.returns-clause-line
returns-clause-line c =
    let l = c.loop-i in
    let a = c.args in
    spelled_end (λ k. get_or a.out.now k 0) a.text.now l.text l.i a.n (omega arith) l.invariant.1
