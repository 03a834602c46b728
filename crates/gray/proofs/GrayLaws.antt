-- Laws of gray conversion. Assumes nothing.
use Rattle.std.proofs.lemmas.Bool.{or_parts}
use Rattle.std.specs.Prelude.{Option, Some, None, Ok, Err}
use Rattle.std.specs.Option.{ok_or}
use mathlib.Core.Path.{◌≡◌, refl, sym}
use mathlib.Core.Bool.{Bool, cond, true, false}
use mathlib.Core.List.{List}
use mathlib.Core.Logic.{◌⊎◌, inl, inr}
use Prim.Native.Nat.{ℕ, ◌+◌, ◌-◌, ◌*◌, ◌^◌, ◌≤◌, ◌<◌}
use native.Mathlib.Omega.{arith}
use native.Mathlib.Nat.{add_assoc, mul_comm, mul-le-mul_right}
use lib.ListN.{get_or, take, drop}
use lib.Seq.{get_or-take, get_or-drop}
use lib.Dec.{eqb, ltb}
use lib.Arith.{digits_div, digits_mod}
use borrow.Author.Tests.{eqb-true, ne_eqb, ltb-false}
use Rattle.lists.proofs.Numbers.{row_within}
use Rattle.lcr_core.specs.declared.Refusal.{Refusal}
use Rattle.lcr_core.specs.declared.Refusal.TheVariants.{UnknownFormat}
use Rattle.lists.proofs.Tabulate.{filled_none, filled_step, filled_whole}
use Rattle.lcr_core.specs.Outcome.{zero_side, large_side}
use Rattle.lcr_core.proofs.Checks.{first_passes, sides_pass, if_refused_error, if_refused_done}
use Rattle.gray.specs.Gray.{channels_of, of_byte, is_nothing, unknown_format, short_picture, gray_refusal, gray_rule, gray_of, gray_at}
use Rattle.gray.specs.Passed.{KnownFormat, GrayPassed}
use Rattle.gray.specs.declared.format.PixelFormat.{PixelFormat}
use Rattle.gray.specs.declared.format.PixelFormat.TheVariants.{Gray8, Rgb8, Rgba8}

-- the format that is read of a byte is the one whose byte it is
pub format_read : (o : Option PixelFormat) (f : PixelFormat) → Ok f ≡ ok_or o UnknownFormat → o ≡ Some f
format_read (Some g) f e = cc
format_read None f e = cc

-- and what is refused is an unknown one
pub format_refused : (o : Option PixelFormat) (e : Refusal) → Err e ≡ ok_or o UnknownFormat → (e ≡ UnknownFormat) × (is_nothing o ≡ true)
format_refused (Some f) e k = cc
format_refused None e k = (cc, refl)

-- a format that was found has its byte
pub found_byte : (n : ℕ) (f : PixelFormat) → of_byte n ≡ Some f → channels_of f ≡ n
found_byte n f e = go (eqb n 1) refl (eqb n 3) refl (eqb n 4) refl e
  where
    go : (a : Bool) → eqb n 1 ≡ a → (b : Bool) → eqb n 3 ≡ b → (d : Bool) → eqb n 4 ≡ d
        → cond a (Some Gray8) (cond b (Some Rgb8) (cond d (Some Rgba8) None)) ≡ Some f → channels_of f ≡ n
    go true p b q d r k = let s : Gray8 ≡ f = cc in rw (← s) (sym (eqb-true n 1 p))
    go false p true q d r k = let s : Rgb8 ≡ f = cc in rw (← s) (sym (eqb-true n 3 q))
    go false p false q true r k = let s : Rgba8 ≡ f = cc in rw (← s) (sym (eqb-true n 4 r))
    go false p false q false r k = let z : ◌≡◌ {A = ℕ} 0 1 = cc in absurd (omega arith)

-- the byte of a format is that of one, three or four bytes
pub known : (n : ℕ) → unknown_format n ≡ false → KnownFormat n
unfolding unknown_format
known n e = go (of_byte n) refl e
  where
    bytes : (f : PixelFormat) → channels_of f ≡ n → KnownFormat n
    bytes Gray8 k = inl (sym k)
    bytes Rgb8 k = inr (inl (sym k))
    bytes Rgba8 k = inr (inr (sym k))

    go : (o : Option PixelFormat) → of_byte n ≡ o → is_nothing o ≡ false → KnownFormat n
    go (Some f) k h = bytes f (found_byte n f k)
    go None k h = let z : ◌≡◌ {A = Bool} true false = h in let y : ◌≡◌ {A = ℕ} 0 1 = cc in absurd (omega arith)

-- a colour pixel
pub gray_colour : (p : List ℕ) (f i : ℕ) → 3 ≤ f → gray_of p f i ≡ gray_rule (get_or p i 0) (get_or p (i + 1) 0) (get_or p (i + 2) 0)
unfolding gray_of
gray_colour p f i h = simp (ne_eqb f 1 (λ e. omega arith))

pub passes : (len w h s f room : ℕ) → s < 2 ^ 32 → gray_refusal len w h s f room ≡ 0 → GrayPassed len w h s f room
unfolding gray_refusal short_picture
passes len w h s f room small e =
    let p1 = first_passes (zero_side w h) 0 _ e in
    let p2 = first_passes (large_side w h) 1 _ p1.1 in
    let p3 = first_passes (unknown_format f) 2 _ p2.1 in
    let p4 = first_passes (short_picture len w h s f) 3 _ p3.1 in
    let p5 = first_passes (ltb room (w * h)) 4 _ p4.1 in
    let q = or_parts (ltb s (w * f)) (ltb len ((h - 1) * s + w * f)) p4.0 in
    record {
      sides = sides_pass w h p1.0 p2.0;
      format = known f p3.0;
      rows = ltb-false s (w * f) q.0;
      stride = small;
      bytes = ltb-false len ((h - 1) * s + w * f) q.1;
      fits = ltb-false room (w * h) p5.0;
    }

-- row y's pixels lie within the picture, and their places within the output
pub turn : (len w h s f room y : ℕ) → GrayPassed len w h s f room → y < h → (y * s + w * f ≤ len) × (y * w + w ≤ room)
turn len w h s f room y p l =
    (omega (arith, mul-le-mul_right {m = y} {n = h - 1} s (omega arith), p.bytes), omega (arith, row_within y h w l, mul_comm w h, p.fits))

-- a pixel that lies within a part
pub gray_part : (p : List ℕ) (f a n i : ℕ) → KnownFormat f → i + f ≤ n → gray_of (take n (drop a p)) f i ≡ gray_of p f (a + i)
unfolding gray_of
gray_part p f a n i (inl e) h =
    let k : i < n = omega arith in simp (e, get_or-take n (drop a p) i 0 k, get_or-drop)
gray_part p f a n i (inr e) h = colour (three e)
  where
    three : (f ≡ 3) ⊎ (f ≡ 4) → 3 ≤ f
    three (inl e) = omega arith
    three (inr e) = omega arith

    colour : 3 ≤ f → gray_of (take n (drop a p)) f i ≡ gray_of p f (a + i)
    colour l =
        let k0 : i < n = omega arith in
        let k1 : i + 1 < n = omega arith in
        let k2 : i + 2 < n = omega arith in
        simp (get_or-take n (drop a p) i 0 k0, get_or-take n (drop a p) (i + 1) 0 k1, get_or-take n (drop a p) (i + 2) 0 k2, get_or-drop, add_assoc)

-- pixel x of row y, read from the row's bytes
pub gray_row-at : (p : List ℕ) (w s f y x : ℕ) → KnownFormat f → x < w → gray_of (take (y * s + w * f - y * s) (drop (y * s) p)) f (x * f) ≡ gray_at p w s f (y * w + x)
unfolding gray_at
gray_row-at p w s f y x k h =
    simp (digits_div y h, digits_mod y h)
    (gray_part p f (y * s) (y * s + w * f - y * s) (x * f) k (omega (arith, row_within x w f h)))

-- what a row goes by that is filled pixel by pixel
pub ruleset row_steps = (filled_none, filled_step, filled_whole)

-- what an answer goes by that was checked
pub ruleset answer_steps = (passes, if_refused_error, if_refused_done)
