-- The ones of the nine-bit window are the votes of its nine pixels, and a byte of majorities is a byte of the denoised picture. Assumes nothing.
use mathlib.Core.Path.{◌≡◌, refl, sym, ap, ◌∙◌}
use mathlib.Core.Bool.{Bool, true, false, ◌&&◌, true≢false}
use mathlib.Core.List.{List}
use Prim.Native.Nat.{ℕ, zero, suc, ◌+◌, ◌-◌, ◌*◌, ◌/◌, ◌%◌, ◌^◌, ◌<◌}
use native.Mathlib.Nat.{zero-add, add-zero, div-add-mod', mul-le-mul_right}
use native.Mathlib.Omega.{arith}
use lib.ListN.{get_or}
use lib.Dec.{leb, ltb}
use lib.Count.{ones, ones_cat}
use borrow.Author.Tests.{lt-ltb, ltb-true, ltb-false}
use Rattle.lists.specs.Lists.{sum_to}
use Rattle.lists.proofs.Numbers.{next_row}
use Rattle.binary.specs.Binary.{bit, dark_bit, dark_at, word, byte_of, bytes_of}
use Rattle.binary.proofs.Bits.{bit_small, word_bound}
use Rattle.binary.proofs.Words.{word_same}
use Rattle.binary.specs.Refusal.{short_bits}
use Rattle.lcr_core.specs.Outcome.{zero_side, large_side}
use Rattle.lcr_core.proofs.Checks.{first_passes, sides_pass, if_refused_error, if_refused_done}
use Rattle.denoise.specs.Passed.{DenoisedPassed}
use Rattle.denoise.specs.Denoise.{denoised_refusal, inside, votes, denoised_at}
use Rattle.denoise.specs.Window.{behind_pad, chosen_at, pad_of, up_of, mid_of, down_of, stretch, ThreeBytes, voted_at}
use Rattle.denoise.specs.declared.Rows.{Rows}
use Rattle.denoise.proofs.Windows.{behind-at, three_pixels, bit-at, copy_at}

ones_bit : (d : Bool) → ones (bit d) ≡ bit d
unfolding ones bit
ones_bit true = refl
ones_bit false = refl

-- the ones of a word are its dark pixels
ones-word : (p : ℕ → Bool) (s n : ℕ) → ones (word p s n) ≡ sum_to n (λ j. bit (p (s + j)))
unfolding word sum_to ones
ones-word p s zero = refl
ones-word p s (suc n) = ones_cat 1 (word p s n) (bit (p (s + n))) (bit_small (p (s + n))) ∙ rw (ones-word p s n, ones_bit (p (s + n)))

-- three words of three pixels
ones_nine : (a b c : ℕ) → b < 8 → c < 8 → ones (a * 64 + b * 8 + c) ≡ ones a + ones b + ones c
ones_nine a b c l m =
    let e : a * 64 + b * 8 + c ≡ (a * 2 ^ 3 + b) * 2 ^ 3 + c = omega arith in
    rw (e, ones_cat 3 (a * 2 ^ 3 + b) c m, ones_cat 3 a b l)

-- a pixel within the picture
dark_at_lem : (b : List ℕ) (w h x y : ℕ) → x < w → y < h → dark_at b w h x y ≡ dark_bit b (y * w + x)
unfolding dark_at
dark_at_lem b w h x y l m = rw (lt-ltb x w l, lt-ltb y h m)

module _ (b : List ℕ) (w h x y : ℕ) (left : 0 < x) (right : x + 1 < w) where
  -- three pixels of a row
  row-votes : (v s : ℕ) → v < h → s ≡ v * w + (x - 1) → sum_to 3 (λ j. bit (dark_at b w h (x + j - 1) v)) ≡ ones (word (dark_bit b) s 3)
  unfolding sum_to
  row-votes v s l e =
      rw (ones-word (dark_bit b) s 3, at 0 (omega arith), at 1 (omega arith), at 2 (omega arith))
    where
      at : (j : ℕ) → j < 3 → dark_at b w h (x + j - 1) v ≡ dark_bit b (s + j)
      at j m =
          let k : v * w + (x + j - 1) ≡ s + j = omega arith in
          dark_at_lem b w h (x + j - 1) v (omega arith) l ∙ ap (dark_bit b) k

  -- nine pixels
  pub window-votes : (k : ℕ) → 0 < y → y + 1 < h → k ≡ y * w + x
      → votes b w h x y ≡ ones (word (dark_bit b) (k - w - 1) 3 * 64 + word (dark_bit b) (k - 1) 3 * 8 + word (dark_bit b) (k + w - 1) 3)
  unfolding votes sum_to
  window-votes k top bottom e =
      let up = next_row (y - 1) w in
      let back : y - 1 + 1 ≡ y = omega arith in
      let here : y * w ≡ (y - 1) * w + w = rw back at up in
      omega (
        arith,
        row-votes (y + 0 - 1) (k - w - 1) (omega arith) (rw (add-zero y) (omega arith)),
        row-votes (y + 1 - 1) (k - 1) (omega arith) (let s : y + 1 - 1 ≡ y = omega arith in rw s (omega arith)),
        row-votes (y + 2 - 1) (k + w - 1) (omega arith) (let s : y + 2 - 1 ≡ y + 1 = omega arith in rw s (omega (arith, next_row y w))),
        ones_nine (word (dark_bit b) (k - w - 1) 3) (word (dark_bit b) (k - 1) 3) (word (dark_bit b) (k + w - 1) 3) (word_bound (dark_bit b) (k - 1) 3) (word_bound (dark_bit b) (k + w - 1) 3),
      )

-- where a pixel is inside
within : (w h x y : ℕ) → inside w h x y ≡ true → (0 < x) × (x + 1 < w) × (0 < y) × (y + 1 < h)
unfolding inside
within w h x y e = go (ltb 0 x) refl (ltb (x + 1) w) refl (ltb 0 y) refl (ltb (y + 1) h) refl e
  where
    go : (t : Bool) → ltb 0 x ≡ t → (u : Bool) → ltb (x + 1) w ≡ u → (v : Bool) → ltb 0 y ≡ v → (z : Bool) → ltb (y + 1) h ≡ z
        → (t && u && v && z) ≡ true → (0 < x) × (x + 1 < w) × (0 < y) × (y + 1 < h)
    go true f true g true i true j k = (ltb-true _ _ f, ltb-true _ _ g, ltb-true _ _ i, ltb-true _ _ j)
    go true f true g true i false j k = absurd (true≢false (sym k))
    go true f true g false i z j k = absurd (true≢false (sym k))
    go true f false g v i z j k = absurd (true≢false (sym k))
    go false f u g v i z j k = absurd (true≢false (sym k))

-- ---- byte j, from three rows' bytes
module _ (b : List ℕ) (w h j : ℕ) (s : Rows) (held : ThreeBytes b w j s) where
  -- three pixels of one of the rows
  three_of : (first k i bytes : ℕ) → bytes ≡ stretch b w j 24 first → i < 8 → j * 8 + i + first ≡ pad_of w * 8 + k
      → bytes / 2 ^ (14 - first % 8) / 2 ^ (7 - i) % 8 ≡ word (dark_bit b) k 3
  three_of first k i bytes f l e =
      rw f
      (three_pixels (behind_pad (pad_of w) b) (j + first / 8) (first % 8) i (omega arith) l
      ∙ word_same (behind_pad (pad_of w) b) (dark_bit b) ((j + first / 8) * 8 + first % 8 + i) k 3 (λ m _.
      let q : (j + first / 8) * 8 + first % 8 + i + m ≡ pad_of w * 8 + (k + m) = omega arith in
      ap (behind_pad (pad_of w) b) q ∙ behind-at (pad_of w) b (k + m)))

  -- the majority about a pixel inside
  majority_at : (i : ℕ) → i < 8 → let k = j * 8 + i in inside w h (k % w) (k / w) ≡ true → voted_at w s i ≡ leb 5 (votes b w h (k % w) (k / w))
  majority_at i l e =
      let k = j * 8 + i in
      let r = within w h (k % w) (k / w) e in
      let whole : k / w * w + k % w ≡ k = div-add-mod' k w in
      let least = mul-le-mul_right {m = 1} {n = k / w} w r.2 in
      rw (
        three_of (up_of w) (k - w - 1) i s.above held.above l (omega arith),
        three_of (mid_of w) (k - 1) i s.row held.row l (omega arith),
        three_of (down_of w) (k + w - 1) i s.below held.below l (omega arith),
        window-votes b w h (k % w) (k / w) r.0 r.1 k r.2 r.3 (sym whole),
      )

  -- all eight pixels
  pub denoised_byte : (voted byte : ℕ) → voted ≡ word (voted_at w s) 0 8 → byte ≡ word (chosen_at voted (get_or b j 0) w h (j * 8)) 0 8
      → byte ≡ byte_of (denoised_at b w h) j
  unfolding denoised_at
  denoised_byte voted byte v e =
      e ∙ word_same (chosen_at voted (get_or b j 0) w h (j * 8)) (denoised_at b w h) 0 (j * 8) 8 (λ i l.
      rw (zero-add i) (pixel i l (inside w h ((j * 8 + i) % w) ((j * 8 + i) / w)) refl))
    where
      pixel : (i : ℕ) → i < 8 → (t : Bool) → inside w h ((j * 8 + i) % w) ((j * 8 + i) / w) ≡ t
          → chosen_at voted (get_or b j 0) w h (j * 8) i ≡ denoised_at b w h (j * 8 + i)
      pixel i l true q = rw q (bit-at _ voted i l v ∙ majority_at i l q)
      pixel i l false q = rw q (copy_at b j i l)

-- what is known where denoising does not refuse
pub passes : (len w h room : ℕ) → denoised_refusal len w h room ≡ 0 → DenoisedPassed len w h room
unfolding denoised_refusal short_bits
passes len w h room e =
    let p1 = first_passes (zero_side w h) 0 _ e in
    let p2 = first_passes (large_side w h) 1 _ p1.1 in
    let p3 = first_passes (short_bits len w h) 3 _ p2.1 in
    let p4 = first_passes (short_bits room w h) 4 _ p3.1 in
    record {
      sides = sides_pass w h p1.0 p2.0;
      bytes = ltb-false len (bytes_of (w * h)) p3.0;
      fits = ltb-false room (bytes_of (w * h)) p4.0;
    }

-- what an answer goes by that was checked
pub ruleset answer_steps = (passes, if_refused_error, if_refused_done)
