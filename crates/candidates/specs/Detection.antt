-- To be believed. What three ordered finders give when built: `build_detection` of document 000, step by step (document 01: "A ranked triple can't be built
-- exactly where the rules of `build_detection` .. give none for its finders and the picture's bits"). In a call that isn't refused no step is
-- (proofs/Theorems.antt). Document 02, N8: "Each detection carries its triple's score and mean module".
use Rattle.std.specs.Prelude.{List, ℕ, Float, Option, Some, None, option_and_then}
use Rattle.std.specs.Result.{result_unwrap_or}
use Rattle.float.specs.Constants.{f0}
use Rattle.transform.specs.declared.Transform.{Transform}
use Rattle.transform.specs.Fit.{zero_transform, Plain}
use Rattle.geometry.specs.declared.Corners.{Corners}
use Rattle.lcr_core.specs.Finder.{zero_finder}
use Rattle.geometry.specs.Score.{mean_of}
use Rattle.geometry.specs.Estimate.{estimate_of}
use Rattle.geometry.specs.Build.{built_fit}
use Rattle.alignment.specs.Alignment.{locate_answer, refine_answer}
use Rattle.alignment.specs.declared.Refined.{Refined}
use Rattle.candidates.specs.declared.Detection.{Detection}
use Rattle.lcr_core.specs.declared.point.Point.{Point}
use Rattle.lcr_core.specs.declared.version.Version.{Version}

-- what fills places beyond a count
abbrev pub zero_detection : Detection
zero_detection =
    record {
      finders = record { tl = zero_finder; tr = zero_finder; bl = zero_finder };
      marker = None;
      version = record { 0 = 0 };
      transform = zero_transform;
      score = f0;
      mean = f0;
    }

-- a detection whose transform has no lens, as that of every one (proofs/Lenses.antt)
abbrev pub WithoutLens : Detection → Type 0
WithoutLens d = Plain d.transform

-- what a refused refinement leaves, and there is none in a call that is not refused
abbrev pub unrefined : Refined
unrefined = record { transform = zero_transform; marker = None }

-- of a picture of w × h pixels and finders c
module _ (bits : List ℕ) (w h : ℕ) (c : Corners) where
  -- the mean module, from top left, top right and bottom left in this order
  abbrev pub mean_module : Float
  mean_module = mean_of c.tl c.tr c.bl

  -- the transform for version v through the finders and a marker, if there is one
  abbrev pub fit_with : Option Point → ℕ → Option Transform
  fit_with m v = built_fit c m v

  -- the marker, looked for through the transform t
  abbrev pub marker_by : Transform → ℕ → Option Point
  marker_by t v = result_unwrap_or (locate_answer bits w h t v mean_module) None

  -- of a triple with the score s
  module _ (s : Float) where
    -- the detection, its transform and its marker refined once from the transform t, with the score and the mean module
    abbrev pub refined_from : Transform → ℕ → Option Detection
    refined_from t v =
        let r = result_unwrap_or (refine_answer bits w h c v t mean_module) unrefined in
        Some (record { finders = c; marker = r.marker; version = record { 0 = v }; transform = r.transform; score = s; mean = mean_module })

    -- for version v: a rough transform through the finders alone, the marker by it, and the transform through both
    unfoldable pub build_with : ℕ → Option Detection
    build_with v = option_and_then (λ rough. option_and_then (λ t. refined_from t v) (fit_with (marker_by rough v) v)) (fit_with None v)

    -- for the version that the finders imply, if they imply one
    abbrev pub build_for : Option Version → Option Detection
    build_for = option_and_then (λ v. build_with v.0)

    -- `build_detection`
    unfoldable pub build_of : Option Detection
    build_of = build_for (estimate_of c)
