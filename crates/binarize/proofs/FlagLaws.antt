-- Flags of columns, and the level where no column about a block is flagged. Assumes nothing.
use mathlib.Core.Path.{◌≡◌, refl, sym, ap, ◌∙◌, subst}
use mathlib.Core.Bool.{Bool, true, false, true≢false, cond}
use mathlib.Core.List.{List, [], map}
use Prim.Native.Nat.{ℕ, ◌+◌, ◌-◌, ◌*◌, ◌≤◌, ◌<◌, min}
use native.Mathlib.Nat.{add-zero}
use native.Mathlib.Omega.{arith}
use lib.ListN.{length, take, drop, get_or}
use Rattle.std.specs.List.{list_all}
use Rattle.std.proofs.lemmas.List.Folds.{list_all_at}
use Rattle.std.proofs.Common.{get_or-take, length-take, length-drop}
use lib.Seq.{get_or-append-add, get_or-drop}
use lib.Dec.{eqb, ltb}
use borrow.Author.Tests.{eqb-true, ltb-true, ltb-false}
use Rattle.lists.specs.Lists.{tabulate, filled, at}
use Rattle.lists.proofs.Tabulate.{length-tabulate, get_or-filled}
use Rattle.lists.proofs.Filters.{those-none}
use Rattle.blocks.specs.Blocks.{cells, about}
use Rattle.blocks.proofs.Grids.{each_cells}
use Rattle.binarize.specs.Levels.{marked, window, window_level}
use Rattle.binarize.specs.Flags.{flagged, Flagged}

-- what is not filled yet
pub filled_rest : (n : ℕ) (f : ℕ → ℕ) (d l : List ℕ) → l ≡ filled n f d → at l n ≡ at d n
filled_rest n f d l q =
    let p : get_or (filled n f d) n 0 ≡ get_or (drop n d) 0 0 = subst (λ (k : ℕ). get_or (filled n f d) k 0 ≡ get_or (drop n d) 0 0) (add-zero _ ∙ length-tabulate n f) (get_or-append-add (tabulate n f) (drop n d) 0 0) in
    ap (λ (m : List ℕ). at m n) q ∙ p ∙ get_or-drop n d 0 0 ∙ ap (at d) (add-zero n)

-- where all from a on below b are zero, each is
pub all_zero : (flags : List ℕ) (a b : ℕ) → b ≤ length flags → list_all (λ (f : ℕ). eqb f 0) (take (b - a) (drop a flags)) ≡ true
    → (x : ℕ) → a ≤ x → x < b → at flags x ≡ 0
all_zero flags a b room e x p q = go (eqb (at flags x) 0) refl
  where
    there : get_or (take (b - a) (drop a flags)) (x - a) 0 ≡ at flags x
    there =
        let k : a + (x - a) ≡ x = omega arith in
        let l : x - a < b - a = omega arith in
        rw (get_or-take, get_or-drop, k)

    go : (v : Bool) → eqb (at flags x) 0 ≡ v → at flags x ≡ 0
    go true h = eqb-true _ _ h
    go false h =
        let l : x - a < length (take (b - a) (drop a flags)) = simp (length-take, length-drop) (omega arith) in
        absurd (true≢false (sym e ∙ list_all_at (λ (f : ℕ). eqb f 0) (take (b - a) (drop a flags)) (x - a) 0 l (ap (λ (v : ℕ). eqb v 0) there ∙ h)))

flagged-zero : (m f : ℕ) → flagged m f ≡ 0 → (eqb m 1 ≡ false) × (f ≡ 0)
unfolding flagged
flagged-zero m f h = go (eqb m 1) h
  where
    go : (v : Bool) → cond v 1 f ≡ 0 → (v ≡ false) × (f ≡ 0)
    go true e = absurd (omega arith)
    go false e = (refl, e)

row_zero : (marks : ℕ → ℕ) (from w : ℕ) (old new : List ℕ) → new ≡ filled w (λ x. flagged (marks (from + x)) (at old x)) old → (x : ℕ) → x < w → at new x ≡ 0
    → (marked marks (from + x) ≡ false) × (at old x ≡ 0)
row_zero marks from w old new q x l z =
    flagged-zero _ _ (sym (ap (λ (m : List ℕ). at m x) q ∙ get_or-filled w (λ k. flagged (marks (from + k)) (at old k)) old x 0 l) ∙ z)

module _ (edge near : ℕ → ℕ) (w c : ℕ) where
  pub flags_none : (flags : List ℕ) → Flagged edge near w c c flags
  unfolding Flagged
  flags_none flags = λ x l z y p q. absurd (omega arith)

  -- one row more
  pub flags_more : (y : ℕ) (old mid new : List ℕ) → Flagged edge near w c y old → mid ≡ filled w (λ x. flagged (edge (y * w + x)) (at old x)) old
      → new ≡ filled w (λ x. flagged (near (y * w + x)) (at mid x)) mid → Flagged edge near w c (y + 1) new
  unfolding Flagged
  flags_more y old mid new f p q = λ x l z j a b.
      let n = row_zero near (y * w) w mid new q x l z in
      let e = row_zero edge (y * w) w old mid p x l n.1 in
      go x j e.0 n.0 (ltb j y) refl (f x l e.1 j a) b
    where
      go : (x j : ℕ) → marked edge (y * w + x) ≡ false → marked near (y * w + x) ≡ false → (v : Bool) → ltb j y ≡ v
          → (j < y → (marked edge (j * w + x) ≡ false) × (marked near (j * w + x) ≡ false)) → j < y + 1 → (marked edge (j * w + x) ≡ false) × (marked near (j * w + x) ≡ false)
      go x j e n true h g b = g (ltb-true j y h)
      go x j e n false h g b =
          let k = ltb-false j y h in
          let s : y ≡ j = omega arith in
          subst (λ (i : ℕ). (marked edge (i * w + x) ≡ false) × (marked near (i * w + x) ≡ false)) s (e, n)

-- the level of a block with no mark about it
module _ (means edge near : ℕ → ℕ) (bw bh x y other : ℕ)
    (none : (i j : ℕ) → x - 4 ≤ i → i < min bw (x + 4 + 1) → y - 4 ≤ j → j < min bh (y + 4 + 1) → (marked edge (j * bw + i) ≡ false) × (marked near (j * bw + i) ≡ false)) where
  no_edge : (r : ℕ) → r ≤ 4 → window means edge near bw bh edge x y r ≡ []
  no_edge r h =
      ap (map means) (those-none (marked edge) (cells bw (about bw x r) (about bh y r))
      (each_cells (λ i. marked edge i ≡ false) bw (x - r) (min bw (x + r + 1)) (y - r) (min bh (y + r + 1))
      (λ i j a b p q. (none i j (omega arith) (omega arith) (omega arith) (omega arith)).0)))

  no_near : (r : ℕ) → r ≤ 4 → window means edge near bw bh near x y r ≡ []
  no_near r h =
      ap (map means) (those-none (marked near) (cells bw (about bw x r) (about bh y r))
      (each_cells (λ i. marked near i ≡ false) bw (x - r) (min bw (x + r + 1)) (y - r) (min bh (y + r + 1))
      (λ i j a b p q. (none i j (omega arith) (omega arith) (omega arith) (omega arith)).1)))

  pub level-none-about : other ≡ window_level means edge near bw bh x y other
  unfolding window_level
  level-none-about = rw (no_edge 2 (omega arith), no_edge 4 (omega arith), no_near 2 (omega arith), no_near 4 (omega arith))
