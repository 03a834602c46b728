-- For inner contracts and proofs. Colours of modules that are read once for many sites, and the score that the last sweep starts from.
use Rattle.std.specs.Prelude.{ℕ, ◌+◌, ◌*◌, ◌/◌, ◌%◌, ◌<◌, ◌≡◌, cond, List, ◌⊎◌, ltb, length, get_or, Float}
use Rattle.float.specs.Steps.{◌⊕◌, ◌⊗◌, whole32}
use Rattle.float.specs.Constants.{f0, f1/2}
use Rattle.binary.specs.Binary.{bit}
use Rattle.transform.specs.declared.Transform.{Transform}
use Rattle.alignment.specs.declared.template.Site.{Site}
use Rattle.alignment.specs.Template.{module_dark, signed32, along}

-- n / 2
abbrev pub half_at : ℕ → Float
half_at n = whole32 n ⊗ f1/2

module _ (bits : List ℕ) (w h : ℕ) (t : Transform) where
  -- module k of 21 × 21, half a module apart, from n / 2 on: 1 for dark
  unfoldable pub colour_at : ℕ → ℕ → ℕ
  colour_at n k = bit (module_dark bits w h t (half_at (n + k % 21)) (half_at (n + k / 21)))

  -- a table that is not empty has, from place p on, the colours of the marker's modules about (x, y): the next column is two places on, the next row two rows
  abbrev pub KnownAt : Float → Float → List ℕ → ℕ → Type 0
  KnownAt x y colours p = (i j : ℕ) → i < 5 → j < 5 → 0 < length colours
      → (p + 2 * i + 42 * j < length colours) × (get_or colours (p + 2 * i + 42 * j) 0 ≡ bit (module_dark bits w h t (x ⊕ signed32 i 2) (y ⊕ signed32 j 2)))

  -- the same for every site of a sweep
  unfoldable pub Known : Float → ℕ → Float → Site → List ℕ → Type 0
  Known c m step best colours = (k : ℕ) → k < m * m → KnownAt (c ⊕ along m step best.x (k % m)) (c ⊕ along m step best.y (k / m)) colours (k % m + 21 * (k / m))

-- the site b; where it has less than 22, with the score 22 and the squared offset 0, so that only a site with 23 beats it
unfoldable pub raised_of : Site → Site
raised_of b = cond (ltb b.score 22) (record { score = 22; offset2 = f0; x = b.x; y = b.y }) b

-- r is s, or both have less than n
abbrev pub SameFrom : ℕ → Site → Site → Type 0
SameFrom n r s = (r ≡ s) ⊎ ((r.score < n) × (s.score < n))
