-- What ranked triples give when built: a triple that can't be built is dropped and not replaced. Assumes nothing.
use Rattle.std.specs.Prelude.{Option, Some, None, is_some, unwrap_or}
use mathlib.Core.Path.{◌≡◌, refl, ◌∙◌}
use mathlib.Core.Bool.{Bool, cond}
use mathlib.Core.List.{List, [], ◌∷◌, ◌++◌, map}
use Prim.Native.Nat.{ℕ, suc, ◌+◌, ◌≤◌}
use native.Mathlib.Omega.{arith}
use lib.ListN.{length, length-append}
use Rattle.lists.specs.Lists.{flat_map, those, how_many}
use Rattle.lcr_core.specs.declared.finder.Finder.{Finder}
use Rattle.ranking.specs.declared.Triple.{Triple}
use Rattle.ranking.specs.Ranking.{ranked}
use Rattle.candidates.specs.declared.Detection.{Detection}
use Rattle.candidates.specs.Detection.{build_of, zero_detection}
use Rattle.candidates.specs.Candidates.{corners_of, kept, detection_of, detections_of}

-- ---- one detection at most
pub kept_few : (b : Option Detection) → length (kept b) ≤ 1
kept_few None = omega arith
kept_few (Some d) = omega arith

-- ---- one that can't be built is dropped and not replaced: there are as many detections as ranked triples that can be built
module _ (f : Triple → Option Detection) where
  -- the detections of ts
  abbrev pub builds : List Triple → List Detection
  builds ts = flat_map (λ (t : Triple). kept (f t)) ts

  -- whether a triple can be built
  abbrev can_be : Triple → Bool
  can_be t = is_some (f t)

  built_count : (ts : List Triple) → length (builds ts) ≡ how_many can_be ts
  unfolding flat_map how_many
  built_count [] = refl
  built_count (t ∷ ts) = length-append (kept (f t)) (builds ts) ∙ go (f t) (built_count ts)
    where
      go : (b : Option Detection) → length (builds ts) ≡ how_many can_be ts → length (kept b) + length (builds ts) ≡ cond (is_some b) (suc (how_many can_be ts)) (how_many can_be ts)
      go None e = omega (arith, e)
      go (Some d) e = omega (arith, e)

  -- the detection of a triple that can be built
  abbrev of : Triple → Detection
  of t = unwrap_or (f t) zero_detection

  built_each : (ts : List Triple) → builds ts ≡ map of (those can_be ts)
  unfolding flat_map those
  built_each [] = refl
  built_each (t ∷ ts) = go (f t) refl (built_each ts)
    where
      go : (b : Option Detection) → f t ≡ b → builds ts ≡ map of (those can_be ts) → kept b ++ builds ts ≡ map of (cond (is_some b) (t ∷ those can_be ts) (those can_be ts))
      go None g e = e
      go (Some d) g e = rw (g, e)

pub not_replaced : (bits : List ℕ) (w h : ℕ) (fs : List Finder)
    → length (detections_of bits w h fs) ≡ how_many (λ (t : Triple). is_some (build_of bits w h (corners_of fs t) t.score)) (ranked fs)
unfolding detections_of detection_of
not_replaced bits w h fs = built_count (λ (t : Triple). build_of bits w h (corners_of fs t) t.score) (ranked fs)

-- and each is that of its triple, in rank order
pub of_its_triple : (bits : List ℕ) (w h : ℕ) (fs : List Finder)
    → detections_of bits w h fs ≡ map (λ (t : Triple). unwrap_or (build_of bits w h (corners_of fs t) t.score) zero_detection) (those (λ (t : Triple). is_some (build_of bits w h (corners_of fs t) t.score)) (ranked fs))
unfolding detections_of detection_of
of_its_triple bits w h fs = built_each (λ (t : Triple). build_of bits w h (corners_of fs t) t.score) (ranked fs)
