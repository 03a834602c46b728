-- Transforms with lens terms (document 02, N12): what `refine_alignment` does with them; and that at strength 0 the alignment functions answer what they
-- answer without a lens, for any centre. Assumes nothing.
use Rattle.std.specs.Prelude.{Option, Some, None, IfSome, unwrap_or, Result, Ok, Err, IfOk, IsErrAnd}
use Rattle.std.specs.Option.{is_some}
use Rattle.std.specs.Result.{result_unwrap_or}
use Prim.Native.Nat.{ℕ, suc, ◌*◌}
use native.Mathlib.Omega.{arith}
use mathlib.Core.Path.{◌≡◌, refl, sym, ap, fun_ext, ◌∙◌}
use mathlib.Core.Bool.{Bool, true, false, cond}
use mathlib.Core.List.{List, [], ◌∷◌}
use lib.Dec.{ltb}
use lib.ListN.{length}
use lib.Ieee.{Float, eq}
use Rattle.lists.specs.Lists.{folded}
use Rattle.float.specs.Constants.{d0}
use Rattle.float.specs.Steps.{◌⊕◌}
use Rattle.lcr_core.specs.Outcome.{Check, refusal_number, number_of}
use Rattle.lcr_core.specs.Answer.{checked}
use Rattle.lcr_core.specs.declared.Refusal.{Refusal}
use Rattle.lcr_core.proofs.Checks.{either}
use Rattle.lcr_core.proofs.Answers.{number_checked, checked_passed, checked_holds}
use Rattle.transform.specs.Apply.{applied}
use Rattle.transform.specs.Fit.{plain, Plain}
use Rattle.lcr_core.specs.declared.point.Point.{Point}
use Rattle.transform.specs.declared.Transform.{Transform}
use Rattle.transform.proofs.Theorems.{same_places}
use Rattle.geometry.specs.Build.{built_fit}
use Rattle.geometry.specs.declared.Corners.{Corners}
use Rattle.geometry.proofs.Theorems.{built_plain}
use Rattle.row_search.specs.Rows.{find_answer}
use Rattle.alignment.specs.Alignment.{alignment_checks, alignment_refusal, match_answer, searched_of, located_of, locate_answer, rebuilt_of, refined_of, refine_answer}
use Rattle.alignment.specs.Template.{tapped, no_votes, taps, module_dark, marker_centre, matched_of}
use Rattle.alignment.specs.declared.Refined.{Refined}
use Rattle.alignment.specs.declared.template.Votes.{Votes}
use Rattle.alignment.proofs.Alike.{best_alike}

-- ---- what `refine_alignment` does with lens terms; where it finds no marker, it keeps them (`refine_none`, Theorems.antt)
module _ (bits : List ℕ) (w h : ℕ) (c : Corners) (v : ℕ) (t : Transform) (m : Float) where
  abbrev checks : List Check
  checks = alignment_checks (length bits) w h v

  abbrev answered : Transform → Option Point → Result Refined Refusal
  answered u a = checked checks (record { transform = u; marker = a })

  -- where it rebuilds the transform, through the finders and the marker a, centre and strength are 0
  pub refine_rebuilds : alignment_refusal (length bits) w h v ≡ 0 → (a : Option Point) → located_of bits w h t v m ≡ a → is_some a ≡ true → (b : Transform) → built_fit c a v ≡ Some b
      → refine_answer bits w h c v t m ≡ Ok (record { transform = plain b.m; marker = a })
  unfolding refine_answer refined_of rebuilt_of alignment_refusal
  refine_rebuilds e a l f b g = rw (l, f, g) (ap (λ (u : Transform). answered u a) (rw g at (built_plain c a v)) ∙ sym (checked_passed checks _ (sym e)))

  -- where there is no such transform, it keeps those of the one given
  pub refine_keeps : alignment_refusal (length bits) w h v ≡ 0 → (a : Option Point) → located_of bits w h t v m ≡ a → built_fit c a v ≡ None
      → refine_answer bits w h c v t m ≡ Ok (record { transform = t; marker = a })
  unfolding refine_answer refined_of rebuilt_of alignment_refusal
  refine_keeps e a l b = rw (l, b) (go (is_some a) ∙ sym (checked_passed checks _ (sym e)))
    where
      go : (f : Bool) → answered (cond f t t) a ≡ answered t a
      go true = refl
      go false = refl

  -- a refusal answers no transform
  pub refine_refused : (n : ℕ) → alignment_refusal (length bits) w h v ≡ suc n → IsErrAnd (refine_answer bits w h c v t m) (λ r. refusal_number r ≡ suc n)
  unfolding refine_answer alignment_refusal
  refine_refused n e = is_error _ n (number_checked checks _ ∙ e)
    where
      is_error : (a : Result Refined Refusal) (n : ℕ) → number_of a ≡ suc n → IsErrAnd a (λ r. refusal_number r ≡ suc n)
      is_error (Ok x) n q = absurd (omega arith)
      is_error (Err r) n q = q

  -- a transform without a lens never gets one
  pub refined-plain : Plain t → IfOk (refine_answer bits w h c v t m) (λ r. Plain r.transform)
  unfolding refine_answer refined_of rebuilt_of
  refined-plain p =
      let a = located_of bits w h t v m in
      let b = built_fit c a v in
      checked_holds (λ (r : Refined). Plain r.transform) checks _ (either Plain (is_some a) (unwrap_or b t) t (or_plain b (built_plain c a v)) p)
    where
      or_plain : (b : Option Transform) → IfSome b Plain → Plain (unwrap_or b t)
      or_plain None _ = p
      or_plain (Some u) q = q

-- the eight numbers and the marker, or the refusal
abbrev pub numbers_of : Result Refined Refusal → Result (List Float × Option Point) Refusal
numbers_of (Ok r) = Ok (r.transform.m, r.marker)
numbers_of (Err e) = Err e

numbers_checked : (cs : List Check) (r : Refined) → numbers_of (checked cs r) ≡ checked cs (r.transform.m, r.marker)
numbers_checked [] r = refl
numbers_checked (c ∷ cs) r = go c.refuses (numbers_checked cs r)
  where
    go : (b : Bool) → numbers_of (checked cs r) ≡ checked cs (r.transform.m, r.marker) → numbers_of (cond b (Err c.refusal) (checked cs r)) ≡ cond b (Err c.refusal) (checked cs (r.transform.m, r.marker))
    go true h = refl
    go false h = h

-- ---- strength 0
module _ (bits : List ℕ) (w h : ℕ) (t : Transform) (e : eq t.strength d0 ≡ true) where
  places : applied t ≡ applied (plain t.m)
  places = fun_ext (λ u. fun_ext (same_places t e u))

  pub dark_plain : (x y : Float) → module_dark bits w h t x y ≡ module_dark bits w h (plain t.m) x y
  unfolding module_dark
  dark_plain x y =
      ap (λ (f : Float → Float → Point). let v = folded (λ (v : Votes) (o : Point). tapped bits w h v (f (x ⊕ o.x) (y ⊕ o.y))) no_votes taps in ltb v.seen (v.dark * 2)) places

  matched_plain : (v : ℕ) → matched_of bits w h t v ≡ matched_of bits w h (plain t.m) v
  unfolding matched_of
  matched_plain v = rw (best_alike bits bits w h t (plain t.m) dark_plain (marker_centre v), same_places t e _ _)

  searched_plain : (v : ℕ) (m : Float) → searched_of bits w h t v m ≡ searched_of bits w h (plain t.m) v m
  unfolding searched_of
  searched_plain v m = ap (λ (p : Point). result_unwrap_or (find_answer bits w h p m) None) (same_places t e (marker_centre v) (marker_centre v))

  located_plain : (v : ℕ) (m : Float) → located_of bits w h t v m ≡ located_of bits w h (plain t.m) v m
  unfolding located_of
  located_plain v m = rw (matched_plain v, searched_plain v m)

  -- `match_alignment` and `locate_alignment`
  pub match_plain : (v : ℕ) → match_answer bits w h t v ≡ match_answer bits w h (plain t.m) v
  unfolding match_answer
  match_plain v = ap (checked (alignment_checks (length bits) w h v)) (matched_plain v)

  pub locate_plain : (v : ℕ) (m : Float) → locate_answer bits w h t v m ≡ locate_answer bits w h (plain t.m) v m
  unfolding locate_answer
  locate_plain v m = ap (checked (alignment_checks (length bits) w h v)) (located_plain v m)

  -- `refine_alignment`: the same refusal, the same marker and the same eight numbers
  numbers_plain : (c : Corners) (a : Option Point) (v : ℕ) → (rebuilt_of c a v t).m ≡ (rebuilt_of c a v (plain t.m)).m
  unfolding rebuilt_of
  numbers_plain c a v = go (is_some a) (built_fit c a v)
    where
      go : (f : Bool) (b : Option Transform) → (cond f (unwrap_or b t) t).m ≡ (cond f (unwrap_or b (plain t.m)) (plain t.m)).m
      go true None = refl
      go true (Some u) = refl
      go false b = refl

  pub refine_plain : (c : Corners) (v : ℕ) (m : Float) → numbers_of (refine_answer bits w h c v t m) ≡ numbers_of (refine_answer bits w h c v (plain t.m) m)
  unfolding refine_answer refined_of
  refine_plain c v m =
      let cs = alignment_checks (length bits) w h v in
      let a = located_of bits w h (plain t.m) v m in
      rw (located_plain v m)
      (numbers_checked cs _ ∙ ap (λ (n : List Float). checked cs (n, a)) (numbers_plain c a v) ∙ sym (numbers_checked cs _))
