-- `listing_text::put_listing` meets its contract. Assumes nothing.
use mathlib.Core.Path.{◌≡◌, sym, ◌∙◌}
use Prim.Native.Nat.{◌-◌}
use native.Mathlib.Omega.{arith}
use lib.ListN.{length, drop, take, length-drop}
use lib.Seq.{take_all}
use Rattle.lcr_core.proofs.Checks.{some_number}
use Rattle.listing_text.proofs.Refusals.{passed, ready}
use Rattle.listing_text.proofs.Listed.{listing_refused, listing_done}
use Rattle.listing_text.proofs.put_listing.Goals as goal

pub returns-in-Err : goal.returns-in-Err
returns-in-Err c =
    let a = c.args in
    let p = c.put_refusal.ensures in
    record { text = listing_refused a.input.now _ _ _ _ (c.from.ensures ∙ c.in-Err.ensures) (λ z. some_number _ (sym c.from.ensures ∙ z)) p.text; most = omega (arith, p.most) }

pub slice_bounds-put_picture-count : goal.slice_bounds-put_picture-count
slice_bounds-put_picture-count c = omega (arith, (passed c.args.input.now (sym c.in-Ok.ensures)).0)

pub slice_bounds-put_picture-start : goal.slice_bounds-put_picture-start
slice_bounds-put_picture-start c = omega (arith, (passed c.args.input.now (sym c.in-Ok.ensures)).0)

pub put_picture-requires : goal.put_picture-requires
put_picture-requires c =
    let l = c.args.input.now in
    let g : take (length l - 4) (drop 4 l) ≡ drop 4 l = take_all (length l - 4) (drop 4 l) (simp length-drop (omega arith)) in
    ready l (take (length l - 4) (drop 4 l)) _ _ (sym c.in-Ok.ensures) c.get-width.ensures c.get-height.ensures g

pub returns-in-Ok : goal.returns-in-Ok
returns-in-Ok c =
    let l = c.args.input.now in
    let g : take (length l - 4) (drop 4 l) ≡ drop 4 l = take_all (length l - 4) (drop 4 l) (simp length-drop (omega arith)) in
    let p = c.put_picture.ensures in
    record { text = listing_done l (take (length l - 4) (drop 4 l)) _ _ _ _ _ (sym c.in-Ok.ensures) c.get-width.ensures c.get-height.ensures g p.text; most = p.most }
