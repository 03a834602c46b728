use Prim.Native.Nat.{ℕ, ◌*◌, ◌+◌, ◌/◌, ◌<◌, min}
use mathlib.Core.Path.{◌≡◌, refl, sym, ap, ◌∙◌}
use mathlib.Core.List.{List}
use native.Mathlib.Omega.{arith}
use borrow.Author.Rules.{rules}
use native.Mathlib.Nat.{zero-mul, mul_comm}
use lib.Dec.{ltb}
use Rattle.binarize.proofs.Written.{written_none, written_all}
use Rattle.blocks.specs.Blocks.{blocks_on}
use Rattle.lists.specs.Lists.{at}
use Rattle.binarize.proofs.Dark.{dark_in, dark_past, rows_of}
use Rattle.binarize.proofs.writing.put_picture.Goals as goal

pub loop-y-init : goal.loop-y-init
loop-y-init c =
    let e : min c.args.picture.height 0 ≡ 0 = omega arith in
    (refl, refl, refl, rw (e, zero-mul) (written_none _ _))

pub loop-y-preserved : goal.loop-y-preserved
loop-y-preserved c =
    let put = c.put_rows.ensures in
    let l = c.loop-y in
    let a = c.args in
    let q = a.picture in
    let here : l.y < blocks_on q.height = rw c.rows.ensures at c.loop-y-test.true in
    let rows = rows_of q.height l.y here in
    let e = c.min.ensures in
    let levels = rw (c.global_level-global.ensures, c.columns.ensures, c.rows.ensures) at c.row_levels.ensures in
    let next : min q.height ((l.y + 1) * 8) ≡ c.min.result = omega arith in (
      omega arith,
      put.same ∙ l.invariant.1,
      put.long ∙ l.invariant.2,
      rw next
          (put.written _ a.bits.now (sym l.invariant.2) (rw rows.0 at l.invariant.3)
          (λ i x lo hi m. dark_in _ _ _ q.gray.now q.width q.height l.y i x l.levels m lo (omega arith) (omega arith)
          ∙ ap (λ (k : List ℕ). ltb (at q.gray.now (i * q.width + x)) (at k (x / 8))) (sym levels))),
    )

pub returns : goal.returns
returns c =
    let l = c.loop-y in
    let a = c.args in
    let q = a.picture in
    let e : min q.height (l.y * 8) ≡ q.height = omega (arith, c.rows.ensures) in
    let same = c.pad.ensures.same ∙ l.invariant.1 in
    let all = written_all _ _ _ _ _
    (c.pad.ensures.written _ a.bits.now (sym l.invariant.2) (rw (e, mul_comm q.height q.width) at l.invariant.3)
    (λ k lo hi. dark_past _ _ _ q.gray.now q.width q.height k lo)) in
    search (rules, same, all)
