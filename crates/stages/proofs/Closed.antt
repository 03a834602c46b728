-- What the stages write, from the picture alone, and what they leave where they refuse. Assumes nothing.
use mathlib.Core.Path.{◌≡◌, refl, sym, ap, ◌∙◌}
use mathlib.Core.Bool.{Bool, true, false, cond}
use mathlib.Core.List.{List, [], ◌∷◌, ◌++◌}
use Prim.Native.Nat.{ℕ, ◌*◌, ◌≤◌}
use native.Mathlib.Omega.{arith}
use lib.ListN.{length, take, drop}
use lib.Seq.{take_at}
use borrow.Author.Tests.{ne_eqb}
use Rattle.lists.specs.Lists.{Each, tabulate, filled}
use Rattle.lists.proofs.Tabulate.{length-tabulate, filled_same}
use Rattle.lcr_core.specs.Outcome.{Check, refusal_number, first_of, zero_side, large_side}
use Rattle.binary.specs.Binary.{byte_of, bytes_of}
use Rattle.gray.specs.Gray.{unknown_format, short_picture, gray_at}
use Rattle.denoise.specs.Denoise.{denoised_at}
use Rattle.blocks.specs.Blocks.{blocks_in, mean_at, least_at, greatest_at, edge_at, near_at}
use Rattle.binarize.specs.Binarize.{is_dark}
use Rattle.stages.specs.declared.Slices.{Slices}
use Rattle.stages.specs.Stages.{Room, short_room, refusal_of, stages_checks, stages_refusal}
use Rattle.stages.specs.Pictures.{Picture, gray_picture, bit_picture, denoised_picture}
use Rattle.stages.specs.Pictures.{block_means, block_least, block_greatest, edge_marks, near_marks, left_after}
use Rattle.stages.specs.Lent.{LeftAfter}
use Rattle.stages.proofs.Tails.{mean_tail, least_tail, greatest_tail, edge_tail, near_tail, dark_tail, byte_tail}

-- ---- a list written over the first elements of a slice
left_filled : (n : ℕ) (f : ℕ → ℕ) (old : List ℕ) → filled n f old ≡ left_after 0 (tabulate n f) old
unfolding left_after
left_filled n f old = ap (λ (k : ℕ). tabulate n f ++ drop k old) (sym (length-tabulate n f))

front_of : (n : ℕ) (f : ℕ → ℕ) (old new : List ℕ) → new ≡ filled n f old → take n new ≡ tabulate n f
front_of n f old new e = ap (take n) e ∙ take_at (tabulate n f) (drop n old) n (length-tabulate n f)

-- ---- the lists that the stages write
module _ (p : Picture) where
  abbrev w : ℕ
  w = p.width

  abbrev h : ℕ
  h = p.height

  abbrev gray_value : ℕ → ℕ
  gray_value = gray_at p.bytes w p.stride p.format

  module _ (old gray : List ℕ) (e : gray ≡ filled (w * h) gray_value old) where
    gray_first : take (w * h) gray ≡ gray_picture p
    unfolding gray_picture
    gray_first = front_of (w * h) gray_value old gray e

    pub gray_closed : gray ≡ left_after 0 (gray_picture p) old
    unfolding gray_picture
    gray_closed = e ∙ left_filled (w * h) gray_value old

    -- a value of each block
    value_closed : (v : List ℕ → ℕ → ℕ) → v (take (w * h) gray) ≡ v gray → (was new : List ℕ) → new ≡ filled (blocks_in w h) (v gray) was
        → new ≡ left_after 0 (tabulate (blocks_in w h) (v (gray_picture p))) was
    value_closed v t was new q =
        let g : v gray ≡ v (gray_picture p) = sym t ∙ ap v gray_first in
        q ∙ ap (λ (u : ℕ → ℕ). filled (blocks_in w h) u was) g ∙ left_filled (blocks_in w h) (v (gray_picture p)) was

    pub means_closed : (was new : List ℕ) → new ≡ filled (blocks_in w h) (mean_at gray w h) was → new ≡ left_after 0 (block_means p) was
    unfolding block_means
    means_closed = value_closed (λ g. mean_at g w h) (mean_tail gray w h)

    pub least_closed : (was new : List ℕ) → new ≡ filled (blocks_in w h) (least_at gray w h) was → new ≡ left_after 0 (block_least p) was
    unfolding block_least
    least_closed = value_closed (λ g. least_at g w h) (least_tail gray w h)

    pub greatest_closed : (was new : List ℕ) → new ≡ filled (blocks_in w h) (greatest_at gray w h) was → new ≡ left_after 0 (block_greatest p) was
    unfolding block_greatest
    greatest_closed = value_closed (λ g. greatest_at g w h) (greatest_tail gray w h)

    pub edges_closed : (was new : List ℕ) → new ≡ filled (blocks_in w h) (edge_at gray w h) was → new ≡ left_after 0 (edge_marks p) was
    unfolding edge_marks
    edges_closed = value_closed (λ g. edge_at g w h) (edge_tail gray w h)

    pub nears_closed : (was new : List ℕ) → new ≡ filled (blocks_in w h) (near_at gray w h) was → new ≡ left_after 0 (near_marks p) was
    unfolding near_marks
    nears_closed = value_closed (λ g. near_at g w h) (near_tail gray w h)

    -- the bits, and the denoised ones
    module _ (was bits : List ℕ) (q : bits ≡ filled (bytes_of (w * h)) (byte_of (is_dark gray w h)) was) where
      bits_from : bits ≡ filled (bytes_of (w * h)) (byte_of (is_dark (gray_picture p) w h)) was
      bits_from =
          let g : is_dark gray w h ≡ is_dark (gray_picture p) w h = sym (dark_tail gray w h) ∙ ap (λ (g : List ℕ). is_dark g w h) gray_first in
          q ∙ ap (λ (d : ℕ → Bool). filled (bytes_of (w * h)) (byte_of d) was) g

      bits_first : take (bytes_of (w * h)) bits ≡ bit_picture p
      unfolding bit_picture
      bits_first = front_of (bytes_of (w * h)) (byte_of (is_dark (gray_picture p) w h)) was bits bits_from

      pub bits_closed : bits ≡ left_after 0 (bit_picture p) was
      unfolding bit_picture
      bits_closed = bits_from ∙ left_filled (bytes_of (w * h)) (byte_of (is_dark (gray_picture p) w h)) was

      pub denoised_closed : (before new : List ℕ) → new ≡ filled (bytes_of (w * h)) (byte_of (denoised_at bits w h)) before → new ≡ left_after 0 (denoised_picture p) before
      unfolding denoised_picture
      denoised_closed before new r =
          let n = bytes_of (w * h) in
          r ∙ filled_same n (byte_of (denoised_at bits w h)) (byte_of (denoised_at (take n bits) w h)) before (λ j l. sym (byte_tail bits w h j l))
          ∙ ap (λ (b : List ℕ). filled n (byte_of (denoised_at b w h)) before) bits_first
          ∙ left_filled n (byte_of (denoised_at (bit_picture p) w h)) before

-- ---- the stages refuse by 1 to 5
cond_most : (b : Bool) (x y n : ℕ) → x ≤ n → y ≤ n → cond b x y ≤ n
cond_most true x y n l m = l
cond_most false x y n l m = m

-- by the lengths alone
pub at_most_five : (len w h s f : ℕ) (r : Room) → refusal_of len w h s f r ≤ 5
unfolding refusal_of
at_most_five len w h s f r =
    cond_most (zero_side w h) 1 _ 5 (omega arith)
    (cond_most (large_side w h) 2 _ 5 (omega arith)
    (cond_most (unknown_format f) 3 _ 5 (omega arith)
    (cond_most (short_picture len w h s f) 4 _ 5 (omega arith) (cond_most (short_room w h r) 5 0 5 (omega arith) (omega arith)))))

-- and for a picture
pub stages_at_most_five : (p : Picture) (r : Room) → stages_refusal p r ≤ 5
unfolding stages_refusal refusal_of
stages_at_most_five p r = at_most_five (length p.bytes) p.width p.height p.stride p.format r

-- ---- after a refusal other than 6 all is as it was
-- a check that does not give 6
abbrev pub Other : Check → Type 0
Other c = refusal_number c.refusal ≡ 6 → ⊥

pub not_six : (cs : List Check) → Each Other cs → first_of cs ≡ 6 → ⊥
not_six [] each e = omega arith
not_six (c ∷ cs) each e = go c.refuses e (not_six cs each.1)
  where
    go : (b : Bool) → cond b (refusal_number c.refusal) (first_of cs) ≡ 6 → (first_of cs ≡ 6 → ⊥) → ⊥
    go true e later = each.0 e
    go false e later = later e

pub left_other : (n : ℕ) → (n ≡ 0 → ⊥) → (n ≡ 6 → ⊥) → (made old : List ℕ) → old ≡ left_after n made old
unfolding left_after
left_other n z s made old = rw (ne_eqb n 0 z, ne_eqb n 6 s)

-- after a refusal of such checks
pub left_old : (cs : List Check) → Each Other cs → (n : ℕ) → n ≡ first_of cs → (n ≡ 0 → ⊥) → (made old : List ℕ) → old ≡ left_after n made old
left_old cs each n g z = left_other n z (λ e. not_six cs each (sym g ∙ e))

pub all_left_old : (cs : List Check) → Each Other cs → (n : ℕ) → n ≡ first_of cs → (n ≡ 0 → ⊥) → (p : Picture) (s : Slices) → LeftAfter n p s s
all_left_old cs each n g z p s =
    let k = left_old cs each n g z in
    record { gray = k _ _; bits = k _ _; denoised = k _ _; means = k _ _; least = k _ _; greatest = k _ _; edges = k _ _; nears = k _ _ }

-- the stages' checks are such
pub stages_others : (p : Picture) (r : Room) → Each Other (stages_checks p r)
stages_others p r = ((λ e. omega arith), ((λ e. omega arith), ((λ e. omega arith), ((λ e. omega arith), ((λ e. omega arith), tt)))))

-- ---- after 6, as after 0: where the stages answer m, which is 0, and a call behind them n, which is 0 or 6
left_six : (b : Bool) (made old : List ℕ) → left_after 0 made old ≡ left_after (cond b 6 0) made old
unfolding left_after
left_six true made old = refl
left_six false made old = refl

module _ (m n : ℕ) (b : Bool) (z : m ≡ 0) (t : n ≡ cond b 6 0) where
  pub left_done : (x made old : List ℕ) → x ≡ left_after m made old → x ≡ left_after n made old
  left_done x made old g = g ∙ ap (λ (k : ℕ). left_after k made old) z ∙ left_six b made old ∙ ap (λ (k : ℕ). left_after k made old) (sym t)

  pub all_left_done : (p : Picture) (old new : Slices) → LeftAfter m p old new → LeftAfter n p old new
  all_left_done p old new g =
      let k = left_done in record {
        gray = k _ _ _ g.gray;
        bits = k _ _ _ g.bits;
        denoised = k _ _ _ g.denoised;
        means = k _ _ _ g.means;
        least = k _ _ _ g.least;
        greatest = k _ _ _ g.greatest;
        edges = k _ _ _ g.edges;
        nears = k _ _ _ g.nears;
      }
