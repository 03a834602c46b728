-- `denoise::WholeBits::denoise` meets its contract: the first j bytes are written, and of each row the next two bytes are at hand. Assumes nothing.
use Prim.Native.Nat.{◌*◌, ◌≤◌}
use mathlib.Core.Path.{◌≡◌}
use Rattle.lists.specs.Lists.{filled}
use Rattle.binary.specs.Binary.{byte_of}
use Rattle.denoise.specs.Denoise.{denoised_at}
use Rattle.denoise.specs.Window.{TwoBytes}
use Rattle.denoise.proofs.WholeBits.denoise.Given as goal

abbrev pub invariant-loop-j : goal.invariant-loop-j
invariant-loop-j l =
    (l.self.width * l.self.height ≤ 16777216) × TwoBytes l.self.bits.now l.self.width l.j l.rows × (l.out ≡ filled l.j (byte_of (denoised_at l.self.bits.now l.self.width l.self.height)) l.initial.out)
