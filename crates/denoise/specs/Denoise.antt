-- To be believed. Denoising (document 01: "`denoised`: 1, 2, then 4 for bits in and 5 for bits out under that many bytes"; "the nine votes ..; 5 or more is
-- dark. Votes read the old picture; border pixels and unused bits are copied").
use Rattle.std.specs.Prelude.{ℕ, ◌+◌, ◌-◌, ◌*◌, ◌/◌, ◌%◌, Bool, ◌&&◌, cond, List, [], ◌∷◌, length, ltb, leb, ◌++◌}
use Rattle.lists.specs.Lists.{filled, sum_to}
use Rattle.lcr_core.specs.Outcome.{Check, first_of, if_refused}
use Rattle.lcr_core.specs.declared.Refusal.TheVariants.{ShortOutput}
use Rattle.binary.specs.Binary.{bit, dark_bit, dark_at, byte_of, bytes_of}
use Rattle.binary.specs.Refusal.{short_bits, bits_checks}

-- what is refused of len bytes of bits, with room bytes for the result: 1, 2, 4, 5, in this order
abbrev pub denoised_checks : ℕ → ℕ → ℕ → ℕ → List Check
denoised_checks len w h room =
    bits_checks len w h ++ (record { refuses = short_bits room w h; refusal = ShortOutput } ∷ [])

-- the number of the first that refuses
unfoldable pub denoised_refusal : ℕ → ℕ → ℕ → ℕ → ℕ
denoised_refusal len w h room = first_of (denoised_checks len w h room)

-- whether the pixel at x, y has a neighbour on each side; an unused bit, whose row is past the last, has not
unfoldable pub inside : ℕ → ℕ → ℕ → ℕ → Bool
inside w h x y = ltb 0 x && ltb (x + 1) w && ltb 0 y && ltb (y + 1) h

-- how many of the nine pixels about x, y are dark
unfoldable pub votes : List ℕ → ℕ → ℕ → ℕ → ℕ → ℕ
votes b w h x y = sum_to 3 (λ i. sum_to 3 (λ j. bit (dark_at b w h (x + j - 1) (y + i - 1))))

-- whether pixel number k is dark afterwards: inside by five votes or more, elsewhere as it was
unfoldable pub denoised_at : List ℕ → ℕ → ℕ → ℕ → Bool
denoised_at b w h k = cond (inside w h (k % w) (k / w)) (leb 5 (votes b w h (k % w) (k / w))) (dark_bit b k)

-- what stands in the output afterwards: the denoised picture and the rest as it was, or after a refusal all as it was
unfoldable pub denoised_written : List ℕ → ℕ → ℕ → List ℕ → List ℕ
denoised_written b w h old = if_refused (denoised_refusal (length b) w h (length old)) old (filled (bytes_of (w * h)) (byte_of (denoised_at b w h)) old)
