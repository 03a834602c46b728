-- The sweeps read colours of modules and nothing else: where those of one picture through one transform are those of another through another, the best site
-- is the same. Assumes nothing.
use Prim.Native.Nat.{ℕ, ◌*◌, ◌/◌, ◌%◌}
use mathlib.Core.Path.{◌≡◌, ap, fun_ext}
use mathlib.Core.List.{List}
use lib.Ieee.{Float}
use Rattle.lists.specs.Lists.{range, folded, sum_to}
use Rattle.float.specs.Steps.{◌⊕◌}
use Rattle.float.specs.Constants.{f1/2, f1/8, f1/32}
use Rattle.transform.specs.declared.Transform.{Transform}
use Rattle.alignment.specs.Template.{module_dark, agree, template_score, site_at, better_of, along, no_site, sweep_best, best_of}
use Rattle.alignment.specs.declared.template.Site.{Site}

module _ (a b : List ℕ) (w h : ℕ) (t s : Transform) (dark : (x y : Float) → module_dark a w h t x y ≡ module_dark b w h s x y) where
  agree_alike : (x y : Float) (k : ℕ) → agree a w h t x y k ≡ agree b w h s x y k
  unfolding agree
  agree_alike x y k = rw (dark _ _)

  score_alike : (x y : Float) → template_score a w h t x y ≡ template_score b w h s x y
  unfolding template_score
  score_alike x y = ap (sum_to 25) (fun_ext (λ k. agree_alike x y k))

  site_alike : (c x y : Float) → site_at a w h t c x y ≡ site_at b w h s c x y
  unfolding site_at
  site_alike c x y = rw (score_alike (c ⊕ x) (c ⊕ y))

  sweep_alike : (c : Float) (m : ℕ) (step : Float) (best : Site) → sweep_best a w h t c m step best ≡ sweep_best b w h s c m step best
  unfolding sweep_best
  sweep_alike c m step best =
      ap (λ (f : ℕ → Site). folded (λ (r : Site) (k : ℕ). better_of r (f k)) best (range 0 (m * m)))
      (fun_ext (λ k. site_alike c (along m step best.x (k % m)) (along m step best.y (k / m))))

  pub best_alike : (c : Float) → best_of a w h t c ≡ best_of b w h s c
  unfolding best_of
  best_alike c =
      let p = sweep_best b w h s c 13 f1/2 no_site in
      let q = sweep_best b w h s c 9 f1/8 p in
      rw (sweep_alike c 13 f1/2 no_site, sweep_alike c 9 f1/8 p, sweep_alike c 9 f1/32 q)
