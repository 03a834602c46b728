-- `candidates::built_triples` meets its contract. Assumes nothing.
use mathlib.Core.Path.{◌∙◌}
use Prim.Native.Nat.{◌≤◌}
use native.Mathlib.Omega.{arith}
use Rattle.lists.specs.Lists.{flat_map}
use Rattle.candidates.proofs.Tables.{first_few, place-within, one_more, none_more, all_built}
use Rattle.candidates.proofs.built_triples.Goals.{in-Some, in_default}
use Rattle.candidates.proofs.built_triples.Goals as goal

pub loop-s-init : goal.loop-s-init
unfolding flat_map
loop-s-init c = c.no_detections-found.ensures

pub corners_at-c-requires : goal.corners_at-c-requires
corners_at-c-requires c = place-within _ _ _ c.as_slice-fs.ensures.value _ c.ranking-ranked.ensures c.as_slice-s-items.ensures.value _ _ c.loop-s-test.true

pub push-requires : goal.push-requires
push-requires c =
    let l : c.loop-s.found.count ≤ c.loop-s.s-index = first_few _ _ _ _ _ _ _ c.loop-s.invariant in
    omega (arith, c.as_slice-s-items.ensures.most, c.loop-s-test.true)

pub loop-s-preserved : goal.loop-s-preserved
loop-s-preserved c =
    let k = c.corners_at-c.ensures in
    let b = c.build_detection.ensures in
    elim c.match-build_detection.branch [
      | in-Some w ↦ w.found-is ∙ one_more _ _ _ _ _ _ _ c.loop-s-test.true _ k _ b _ w.in-Some.is _ _ c.loop-s.invariant w.push.ensures
      | in_default w ↦ w.found-is ∙ none_more _ _ _ _ _ _ _ c.loop-s-test.true _ k _ b w.in_default.is _ c.loop-s.invariant
    ]

pub returns : goal.returns
returns c =
    all_built _ _ _ c.as_slice-fs.ensures.value _ c.ranking-ranked.ensures c.as_slice-s-items.ensures.value _ _ _ _ _ c.loop-s-test.false c.loop-s.invariant
