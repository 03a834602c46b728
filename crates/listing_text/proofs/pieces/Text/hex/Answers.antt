-- `listing_text::pieces::Text::hex` meets its contract. Assumes nothing.
use mathlib.Core.Path.{◌≡◌}
use Prim.Native.Nat.{min, max}
use native.Mathlib.Omega.{arith}
use Rattle.listing_text.proofs.Digits.{hex_adds}
use Rattle.listing_text.proofs.pieces.Text.hex.Goals as goal

pub returns : goal.returns
returns c =
    let d = c.hex-k.ensures in
    let a = c.args in
    let e : min (max a.digits 1) 16 ≡ a.digits = omega arith in
    hex_adds a.digits a.n _ a.end _ c.requires.whole (rw e at d.len) d.digits c.field.ensures
