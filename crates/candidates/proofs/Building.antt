-- The steps of `build_detection`, as the code takes them. Assumes nothing.
use Rattle.std.proofs.Common.{◌≡◌, Option, Some, None, Result, refl, sym, ◌∙◌}
use Rattle.std.specs.Prelude.{option_and_then}
use Rattle.std.specs.Result.{result_unwrap_or}
use mathlib.Core.List.{List}
use Prim.Native.Nat.{ℕ}
use lib.Ieee.{Float}
use Rattle.lcr_core.specs.declared.version.Version.{Version}
use Rattle.transform.specs.declared.Transform.{Transform}
use Rattle.geometry.specs.declared.Corners.{Corners}
use Rattle.geometry.specs.Build.{built_fit}
use Rattle.geometry.specs.Estimate.{estimate_of}
use Rattle.geometry.specs.Score.{mean_of}
use Rattle.lcr_core.specs.declared.Refusal.{Refusal}
use Rattle.lcr_core.specs.declared.point.Point.{Point}
use Rattle.alignment.specs.declared.Refined.{Refined}
use Rattle.alignment.specs.Alignment.{locate_answer, refine_answer}
use Rattle.candidates.specs.declared.Detection.{Detection}
use Rattle.candidates.specs.Detection.{unrefined, fit_with, marker_by, refined_from, build_with, build_of}

-- what follows a value, where there is one
at_none : {A : Type 0} (o : Option A) (next : A → Option Detection) → o ≡ None → None ≡ option_and_then next o
at_none o next e = rw e refl

at_some : {A : Type 0} (o : Option A) (next : A → Option Detection) (x : A) → o ≡ Some x → next x ≡ option_and_then next o
at_some o next x e = rw e refl

module _ (bits : List ℕ) (w h : ℕ) (c : Corners) (s : Float) (v : Version) (m : Float) (em : m ≡ mean_of c.tl c.tr c.bl) (rough : Option Transform) (er : rough ≡ built_fit c None v.0) where
  roughly : fit_with bits w h c None v.0 ≡ rough
  roughly = sym er

  pub rough_none : rough ≡ None → None ≡ build_with bits w h c s v.0
  unfolding build_with
  rough_none f = at_none _ _ (roughly ∙ f)

  module _ (t : Transform) (et : rough ≡ Some t) (marker : Option Point) (el : marker ≡ result_unwrap_or (locate_answer bits w h t v.0 m) None) (built : Option Transform) (eb : built ≡ built_fit c marker v.0) where
    same_fit : fit_with bits w h c (marker_by bits w h c t v.0) v.0 ≡ built
    same_fit = rw (eb, el, em)

    pub fit_none : built ≡ None → None ≡ build_with bits w h c s v.0
    unfolding build_with
    fit_none f = at_none _ _ (same_fit ∙ f) ∙ at_some _ _ t (roughly ∙ et)

    -- the detection from what the refinement answers and the mean module
    abbrev made : Refined → Float → Option Detection
    made r x = Some (record { finders = c; marker = r.marker; version = v; transform = r.transform; score = s; mean = x })

    pub complete : (u : Transform) → built ≡ Some u → (r : Refined) → r ≡ result_unwrap_or (refine_answer bits w h c v.0 u m) unrefined → made r m ≡ build_with bits w h c s v.0
    unfolding build_with
    complete u f r e = done ∙ at_some _ _ u (same_fit ∙ f) ∙ at_some _ _ t (roughly ∙ et)
      where
        done : made r m ≡ refined_from bits w h c s u v.0
        done = rw (e, em)

module _ (bits : List ℕ) (w h : ℕ) (c : Corners) (s : Float) (found : Option Version) (e : found ≡ estimate_of c) where
  pub of_version : (v : Version) → found ≡ Some v → (r : Option Detection) → r ≡ build_with bits w h c s v.0 → r ≡ build_of bits w h c s
  unfolding build_of
  of_version v f r g = g ∙ at_some _ _ v (sym e ∙ f)

  pub of_none : found ≡ None → None ≡ build_of bits w h c s
  unfolding build_of
  of_none f = at_none _ _ (sym e ∙ f)

-- what is read of an answer that may be refused
pub read_of : {A : Type 0} (answer given : Result A Refusal) (other r : A) → r ≡ result_unwrap_or answer other → answer ≡ given → r ≡ result_unwrap_or given other
read_of answer given other r e q = rw (← q) e
