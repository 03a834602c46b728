use Rattle.std.proofs.Common.{◌+◌, ◌-◌, ◌^◌, ap, ◌∙◌, arith}
use Rattle.lists.specs.Lists.{folded, flat_map}
use Rattle.lcr_core.specs.Outcome.{max_side}
use Rattle.finders.specs.Held.{Sighting, held, merge, merge_next}
use Rattle.finders.specs.Search.{max_finders, seen}
use Rattle.finders.specs.Answer.{held_in}
use Rattle.finders.specs.Inner.{sightings_after}
use Rattle.finders.proofs.Windows.{remaining_start}
use Rattle.finders.proofs.Tables.{ends_error, over_stays, fine_mono, next_fine, good_of, good_fine, good_mono}
use Rattle.finders.proofs.Axes.{line_short}
use Rattle.finders.proofs.search.scan_line.Goals as goal

pub loop-s-init : goal.loop-s-init
loop-s-init c =
    let a = c.args in
    let p = a.picture in
    let l = c.line_at-line.ensures in
    let r = c.run_on-first.ensures in record {
      fits = (omega (arith, r.most, l.len), omega arith);
      good = good_mono a.t.now _ _ (omega arith) c.requires.good;
      left = ap (λ z. folded (merge_next max_finders) (held (held_in a.t.now)) (flat_map (seen p.bits.now p.width p.height a.columns a.number) z)) (remaining_start _ _ _ (rw (l.pixels, l.len) at r.run));
    }

pub merge_held-requires : goal.merge_held-requires
merge_held-requires c = good_mono _ _ _ (omega (arith, c.loop-s.invariant.fits.0, line_short c.requires.sides c.args.columns)) c.loop-s.invariant.good

pub returns-in_err-merge_held : goal.returns-in_err-merge_held
unfolding folded
returns-in_err-merge_held c =
    let a = c.args in
    let l = c.loop-s in
    let s = c.in-Some.s in
    let g = merge_next max_finders in
    let rest = sightings_after a.picture.bits.now a.picture.width a.picture.height a.columns a.number s.after in
    let e = c.in_err-merge_held.ensures.ends in
    ends_error _ c.in_err-merge_held.field-0.0 _ _ c.from_residual.ensures.1 e.1
    (l.invariant.left ∙ ap (folded g (held (held_in l.t))) c.in-Some.ensures.0 ∙ ap (λ z. folded g z rest) e.0 ∙ over_stays max_finders rest)

pub loop-s-preserved : goal.loop-s-preserved
unfolding folded
loop-s-preserved c =
    let a = c.args in
    let l = c.loop-s in
    let m = c.in-Some.ensures in
    let s = c.in-Some.s in
    let h : Sighting = record { x = s.point.x; y = s.point.y; «module» = s.module } in
    let g = merge_next max_finders in
    let e = c.in_ok-merge_held.ensures.ends in
    let k = 2 ^ 32 - 2 - max_side + l.w.at in record {
      fits = m.2;
      good = good_of _ _ _ e.0 e.1 (fine_mono (merge max_finders (held_in l.t) h) (k + 1) _ (omega (arith, m.1)) (next_fine (held (held_in l.t)) h k (good_fine l.t k l.invariant.good)));
      left = l.invariant.left ∙ ap (folded g (held (held_in l.t))) m.0 ∙ ap (λ z. folded g z (sightings_after a.picture.bits.now a.picture.width a.picture.height a.columns a.number s.after)) e.1;
    }

pub returns : goal.returns
unfolding folded
returns c =
    let l = c.loop-s in
    (l.invariant.good.rest, l.invariant.left ∙ ap (folded (merge_next max_finders) (held (held_in l.t))) c.in_default.ensures)
