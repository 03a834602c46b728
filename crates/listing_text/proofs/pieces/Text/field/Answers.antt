use mathlib.Core.Path.{refl, ◌∙◌}
use native.Mathlib.Omega.{arith}
use Prim.Native.Nat.{◌+◌}
use lib.ListN.{length}
use Rattle.little_endian.specs.Bytes.{put}
use Rattle.little_endian.proofs.One.{put_one}
use Rattle.listing_text.proofs.Writing.{field_more, field_end}
use Rattle.listing_text.proofs.pieces.Text.field.Goals as goal

pub loop-i-init : goal.loop-i-init
unfolding put
loop-i-init c = refl

pub loop-i-preserved : goal.loop-i-preserved
loop-i-preserved c =
    let a = c.args in
    let l = c.loop-i in
    let at = a.self.now.at in
    c.put.ensures ∙ put_one _ (at + l.i) l.text (omega (arith, c.type_inv.field l.i)) ∙ field_more a.field.now a.self.now.text.now l.text at l.i _ c.loop-i-test.true l.invariant

pub returns : goal.returns
returns c =
    let a = c.args in
    let l = c.loop-i in
    let at = a.self.now.at in
    let w = field_end a.field.now a.self.now.text.now l.text at l.i a.end (omega arith) l.invariant in
    record { same_slice = refl; wrote = (c.put-2.ensures ∙ put_one a.end (at + length a.field.now) l.text (omega arith) ∙ w.0, w.1); within = omega arith }
