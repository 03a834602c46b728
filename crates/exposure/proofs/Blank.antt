-- In bytes of 0 no pixel is dark, nor after denoising, and nothing is found. Assumes nothing.
use mathlib.Core.Path.{◌≡◌, refl}
use mathlib.Core.Bool.{Bool, true, false, cond, ◌&&◌}
use mathlib.Core.List.{List, [], ◌∷◌}
use Prim.Native.Nat.{ℕ, zero, suc, ◌+◌, ◌-◌, ◌*◌, ◌/◌, ◌%◌, ◌^◌}
use native.Mathlib.Nat.{zero-div}
use lib.Dec.{leb, ltb}
use lib.Ieee.{Float}
use lib.ListN.{get_or}
use Rattle.lists.specs.Lists.{Each, count, folded, sum_to, those, flat_map}
use Rattle.binary.specs.Binary.{bit, dark_bit, dark_at}
use Rattle.binary.specs.Line.{row, column}
use Rattle.denoise.specs.Denoise.{inside, votes, denoised_at}
use Rattle.std.specs.Prelude.{None}
use Rattle.confirm.specs.Confirm.{core_of, vertical_by, horizontal_by, row_by, column_by, confirmed_by, confirmed_on}
use Rattle.finders.specs.Held.{held}
use Rattle.finders.specs.Hits.{Hit, line_hits}
use Rattle.finders.specs.Search.{every_second, seen, row_sightings_by, column_sightings_by, sightings_by, found_by, sightings, found}
use Rattle.finders.specs.Rank.{by_confirmations}
use Rattle.finders.specs.Answer.{finders_of}
use Rattle.ranking.specs.Ranking.{enumerated, of_rank, best, ranked}
use Rattle.candidates.specs.Candidates.{detections_of}

-- ---- the pixels
zeros : (b : List ℕ) → Each (λ v. v ≡ 0) b → (j : ℕ) → get_or b j 0 ≡ 0
zeros [] e j = refl
zeros (v ∷ b) e zero = e.0
zeros (v ∷ b) e (suc j) = zeros b e.1 j

light_bit : (b : List ℕ) → Each (λ v. v ≡ 0) b → (k : ℕ) → dark_bit b k ≡ false
unfolding dark_bit
light_bit b e k = rw (zeros b e (k / 8), zero-div (2 ^ (7 - k % 8)))

light_pixel : (b : List ℕ) (w h : ℕ) → Each (λ v. v ≡ 0) b → (x y : ℕ) → dark_at b w h x y ≡ false
unfolding dark_at
light_pixel b w h e x y = rw (light_bit b e (y * w + x)) (go (ltb x w) (ltb y h))
  where
    go : (c d : Bool) → c && d && false ≡ false
    go true true = refl
    go true false = refl
    go false d = refl

no_votes_lem : (b : List ℕ) (w h : ℕ) → Each (λ v. v ≡ 0) b → (x y : ℕ) → votes b w h x y ≡ 0
unfolding votes bit sum_to
no_votes_lem b w h e x y = simp (light_pixel b w h e)

pub light_denoised : (b : List ℕ) (w h : ℕ) → Each (λ v. v ≡ 0) b → (k : ℕ) → denoised_at b w h k ≡ false
unfolding denoised_at
light_denoised b w h e k = rw (no_votes_lem b w h e (k % w) (k / w), light_bit b e k) (go (inside w h (k % w) (k / w)))
  where
    go : (c : Bool) → cond c (leb 5 0) false ≡ false
    go true = refl
    go false = refl

-- ---- the search
flat_map_nothing : {A B : Type 0} (f : A → List B) → ((x : A) → f x ≡ []) → (xs : List A) → flat_map f xs ≡ []
unfolding flat_map
flat_map_nothing f h [] = refl
flat_map_nothing f h (x ∷ xs) = rw (h x, flat_map_nothing f h xs)

module _ (b : List ℕ) (w h : ℕ) (e : Each (λ v. v ≡ 0) b) where
  not_confirmed : (columns : Bool) (n : ℕ) (centre m : Float) → confirmed_on b w h columns n centre m ≡ None
  unfolding confirmed_by row_by column_by vertical_by horizontal_by
  not_confirmed true n centre m = simp (light_pixel b w h e)
  not_confirmed false n centre m = simp (light_pixel b w h e)

  not_seen : (columns : Bool) (n : ℕ) (t : Hit) → seen b w h columns n t ≡ []
  not_seen columns n t = rw (not_confirmed columns n t.centre t.«module»)

  no_sighting : sightings b w h ≡ []
  unfolding sightings_by
  no_sighting =
      let rows : every_second (row_sightings_by core_of b w h) h ≡ [] = flat_map_nothing _ (λ k. flat_map_nothing (seen b w h false (2 * k)) (not_seen false (2 * k)) (line_hits (row b w (2 * k)) w)) _ in
      let columns : every_second (column_sightings_by core_of b w h) w ≡ [] = flat_map_nothing _ (λ k. flat_map_nothing (seen b w h true (2 * k)) (not_seen true (2 * k)) (line_hits (column b w (2 * k)) h)) _ in
      rw (rows, columns)

  pub none_found : found b w h ≡ held []
  unfolding found_by folded
  none_found = rw no_sighting

  pub no_detection : detections_of b w h (finders_of b w h) ≡ []
  unfolding detections_of by_confirmations ranked best of_rank enumerated those folded flat_map count
  no_detection = rw none_found
