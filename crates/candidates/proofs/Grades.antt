-- Score and mean module of the detections (document 02, N8): those of the finders they have, scores never falling from one to the next, whatever triples were
-- left out in between; of the list, and of what `candidates_from`, `detect_candidates` and `detect` answer. Assumes nothing.
use Rattle.std.specs.Prelude.{Option, Some, None, Result, Ok, Err, IfSome, IfOk, option_and_then}
use Rattle.std.specs.Result.{result_map_both}
use Rattle.std.proofs.lemmas.Option.{IfSome_then}
use mathlib.Core.Path.{◌≡◌, refl, sym, ap, subst, ◌∙◌}
use mathlib.Core.Bool.{Bool, true, false, cond}
use mathlib.Core.List.{List, [], ◌∷◌, ◌++◌}
use Prim.Native.Nat.{ℕ, zero, suc, ◌<◌}
use native.Mathlib.Omega.{arith}
use lib.Dec.{ltb}
use lib.Ieee.{Float, le}
use lib.ListN.{length, get_or, get_or-eq_default}
use borrow.Author.Tests.{ltb-true, lt-ltb}
use Rattle.lists.specs.Lists.{Each, Some as Exists, flat_map}
use Rattle.lists.proofs.Filters.{each_map, each_both, each_get_or, each_from, each_among, some_map}
use Rattle.lists.proofs.Padded.{get_or-padded, get_or_table}
use Rattle.lcr_core.specs.Answer.{checked}
use Rattle.lcr_core.specs.Outcome.{Check}
use Rattle.lcr_core.specs.declared.Refusal.{Refusal}
use Rattle.lcr_core.proofs.Answers.{checked_holds}
use Rattle.binary.specs.Refusal.{bits_checks}
use Rattle.float.specs.Floats.{is_number}
use Rattle.geometry.specs.declared.Corners.{Corners}
use Rattle.lcr_core.specs.declared.finder.Finder.{Finder}
use Rattle.geometry.specs.Score.{mean_of, corner_score, score_of}
use Rattle.geometry.specs.Estimate.{estimate_of}
use Rattle.geometry.proofs.Theorems.{admissible_number}
use Rattle.finders.specs.Answer.{find_checks, finders_of}
use Rattle.finders.specs.Search.{found}
use Rattle.ranking.specs.declared.Triple.{Triple}
use Rattle.ranking.specs.Ranking.{finder_at, ranked}
use Rattle.ranking.specs.Tables.{zero_triple}
use Rattle.ranking.proofs.Theorems.{Admissible, before, ranked_only, never_falls}
use Rattle.candidates.specs.declared.Detection.{Detection}
use Rattle.candidates.specs.declared.Detections.{Detections}
use Rattle.candidates.specs.Detection.{zero_detection, fit_with, marker_by, build_with, build_of}
use Rattle.candidates.specs.Candidates.{corners_of, kept, detection_of, detections_of, detections_table, table_in, first_detection, from_answer, detect_answer, detect_first}
use Rattle.candidates.proofs.Kept.{builds}
use Rattle.candidates.specs.Graded.{place_in, first_in, Graded, AllGraded}

-- ---- what holds of what follows each value holds of what follows one that there may be
pub if_then : {A : Type 0} (P : Detection → Type 0) (o : Option A) (next : A → Option Detection) → ((x : A) → o ≡ Some x → IfSome (next x) P) → IfSome (option_and_then next o) P
if_then P None next h = tt
if_then P (Some x) next h = h x refl

-- what holds of an answer's table, and of the empty one
pub in_table : (P : Detections → Type 0) (answer : Result Detections Refusal) → IfOk answer P → P (detections_table []) → P (table_in answer)
in_table P (Ok t) h z = h
in_table P (Err r) h z = z

-- ---- what is built of the finders c with the score s has these, and the mean module of c
module _ (bits : List ℕ) (w h : ℕ) (c : Corners) (s : Float) where
  abbrev Carries : Detection → Type 0
  Carries d = (d.finders ≡ c) × (d.score ≡ s) × (d.mean ≡ mean_of c.tl c.tr c.bl)

  carried_with : (v : ℕ) → IfSome (build_with bits w h c s v) Carries
  unfolding build_with
  carried_with v =
      if_then Carries (fit_with bits w h c None v) _ (λ rough _. if_then Carries (fit_with bits w h c (marker_by bits w h c rough v) v) _ (λ t _. (refl, refl, refl)))

  carried : IfSome (build_of bits w h c s) Carries
  unfolding build_of
  carried = if_then Carries (estimate_of c) _ (λ v _. carried_with v.0)

-- ---- what triples give, those that can't be built left out
module _ (f : Triple → Option Detection) where
  pub each_kept : (P : Detection → Type 0) (ts : List Triple) → Each (λ (t : Triple). IfSome (f t) P) ts → Each P (builds f ts)
  unfolding flat_map
  each_kept P [] h = tt
  each_kept P (t ∷ ts) h = go (f t) h.0 (each_kept P ts h.1)
    where
      go : (b : Option Detection) → IfSome b P → Each P (builds f ts) → Each P (kept b ++ builds f ts)
      go None p r = r
      go (Some d) p r = (p, r)

-- ---- scores that never fall, of any list
module _ {A : Type 0} (score : A → Float) where
  abbrev NotUnder : Float → A → Type 0
  NotUnder s x = le s (score x) ≡ true

  abbrev Rising : List A → Type 0
  Rising [] = Unit {0}
  Rising (x ∷ xs) = Each (NotUnder (score x)) xs × Rising xs

  rising_from : (d : A) (xs : List A) → ((p q : ℕ) → p < q → q < length xs → NotUnder (score (get_or xs p d)) (get_or xs q d)) → Rising xs
  rising_from d [] h = tt
  rising_from d (x ∷ xs) h = (each_from (NotUnder (score x)) xs d (λ q l. h 0 (suc q) (omega arith) (omega arith)), rising_from d xs (λ p q l m. h (suc p) (suc q) (omega arith) (omega arith)))

  rising_at : (d : A) (xs : List A) (p q : ℕ) → Rising xs → p < q → q < length xs → NotUnder (score (get_or xs p d)) (get_or xs q d)
  rising_at d [] p q h l m = absurd (omega arith)
  rising_at d (x ∷ xs) p zero h l m = absurd (omega arith)
  rising_at d (x ∷ xs) zero (suc q) h l m = each_get_or (NotUnder (score x)) xs q d h.0 (omega arith)
  rising_at d (x ∷ xs) (suc p) (suc q) h l m = rising_at d xs p q h.1 (omega arith) (omega arith)

abbrev triple_score_lem : Triple → Float
triple_score_lem t = t.score

abbrev score_in : Detection → Float
score_in d = d.score

module _ (f : Triple → Option Detection) (same : (t : Triple) → IfSome (f t) (λ (d : Detection). d.score ≡ t.score)) where
  rising_kept : (ts : List Triple) → Rising triple_score_lem ts → Rising score_in (builds f ts)
  unfolding flat_map
  rising_kept [] h = tt
  rising_kept (t ∷ ts) h = go (f t) (same t) (rising_kept ts h.1)
    where
      above : Each (NotUnder score_in t.score) (builds f ts)
      above = each_kept f (NotUnder score_in t.score) ts (each_map (NotUnder triple_score_lem t.score) _ (λ u g. IfSome_then (f u) (same u) (λ d e. ap (le t.score) e ∙ g)) ts h.0)

      go : (b : Option Detection) → IfSome b (λ (d : Detection). d.score ≡ t.score) → Rising score_in (builds f ts) → Rising score_in (kept b ++ builds f ts)
      go None e r = r
      go (Some d) e r = (subst (λ (s : Float). Each (NotUnder score_in s) (builds f ts)) (sym e) above, r)

-- ---- a list as a table, and no detection, as after a refusal
as_table : (fs : List Finder) (ds : List Detection) → Each (Graded fs) ds → Rising score_in ds → AllGraded fs (detections_table ds)
as_table fs ds g r =
    let at : (p : ℕ) → p < length ds → place_in (detections_table ds) p ≡ get_or ds p zero_detection = λ p l. get_or-padded 3 zero_detection ds p zero_detection zero_detection l in
    record {
      each = λ p l. subst (Graded fs) (sym (at p l)) (each_get_or (Graded fs) ds p zero_detection g l);
      never_fall = λ p q l m. rw (at p (omega arith), at q m) (rising_at score_in zero_detection ds p q r l m);
      none-beyond = λ p l m. let z = get_or_table 3 zero_detection ds p zero_detection m ∙ get_or-eq_default ds zero_detection l in (ap score_in z, ap (λ (d : Detection). d.mean) z);
    }

pub none_graded : (fs : List Finder) → AllGraded fs (detections_table [])
none_graded fs = as_table fs [] tt tt

-- ---- the detections of a list of finders
module _ (bits : List ℕ) (w h : ℕ) (fs : List Finder) where
  abbrev built : Triple → Option Detection
  built t = build_of bits w h (corners_of fs t) t.score

  -- that of a ranked triple, where it can be built
  graded : (t : Triple) → (Admissible fs t × (before fs t < 3)) × Exists (λ (u : Triple). t ≡ u) (ranked fs) → IfSome (built t) (Graded fs)
  unfolding Admissible score_of
  graded t a = IfSome_then (built t) (carried bits w h (corners_of fs t) t.score) of_one
    where
      of_one : (d : Detection) → (d.finders ≡ corners_of fs t) × (d.score ≡ t.score) × (d.mean ≡ mean_of (corners_of fs t).tl (corners_of fs t).tr (corners_of fs t).bl) → Graded fs d
      of_one d k =
          let n = a.0.0.1 in
          let i : d.score ≡ corner_score (corners_of fs t) = k.1 ∙ n.1 in
          record {
            of_triple = some_map (λ (u : Triple). t ≡ u) _ (λ u g. (k.0 ∙ ap (corners_of fs) g, k.1 ∙ ap triple_score_lem g)) (ranked fs) a.1;
            number = ap is_number i ∙ admissible_number (finder_at fs t.i) (finder_at fs t.j) (finder_at fs t.k) n.0;
            given_back = i ∙ ap corner_score (sym k.0);
            mean_module = k.2 ∙ ap (λ (c : Corners). mean_of c.tl c.tr c.bl) (sym k.0);
          }

  pub each_graded : Each (Graded fs) (detections_of bits w h fs)
  unfolding detections_of detection_of
  each_graded =
      each_kept built (Graded fs) (ranked fs) (each_map _ _ graded (ranked fs) (each_both _ _ (ranked fs) (ranked_only fs) (each_among (ranked fs))))

  scores_rise : Rising score_in (detections_of bits w h fs)
  unfolding detections_of detection_of
  scores_rise =
      rising_kept built (λ t. IfSome_then (built t) (carried bits w h (corners_of fs t) t.score) (λ d k. k.1)) (ranked fs) (rising_from triple_score_lem zero_triple (ranked fs) (never_falls fs))

  pub scores_never_fall : (p q : ℕ) → p < q → q < length (detections_of bits w h fs) → le (get_or (detections_of bits w h fs) p zero_detection).score (get_or (detections_of bits w h fs) q zero_detection).score ≡ true
  scores_never_fall p q l m = rising_at score_in zero_detection (detections_of bits w h fs) p q scores_rise l m

  answer_graded : (cs : List Check) → AllGraded fs (table_in (checked cs (detections_table (detections_of bits w h fs))))
  answer_graded cs =
      let t = detections_table (detections_of bits w h fs) in
      in_table (AllGraded fs) (checked cs t) (checked_holds (AllGraded fs) cs t (as_table fs (detections_of bits w h fs) each_graded scores_rise)) (none_graded fs)

-- ---- what the calls answer
-- `candidates_from`, of every lent list
pub from_graded : (bits : List ℕ) (w h : ℕ) (fs : List Finder) → AllGraded fs (table_in (from_answer bits w h fs))
unfolding from_answer
from_graded bits w h fs = answer_graded bits w h fs (bits_checks (length bits) w h)

-- `detect_candidates`, of every picture
pub detect_graded : (bits : List ℕ) (w h : ℕ) → AllGraded (finders_of bits w h) (table_in (detect_answer bits w h))
unfolding detect_answer
detect_graded bits w h = answer_graded bits w h (finders_of bits w h) (find_checks (length bits) w h (found bits w h))

-- what is made of the value behind checks, behind the same checks
pub map_checked : {A B : Type 0} (g : A → B) (cs : List Check) (x : A) (y : B) → y ≡ g x → checked cs y ≡ result_map_both g (λ (r : Refusal). r) (checked cs x)
map_checked g [] x y e = ap Ok e
map_checked g (c ∷ cs) x y e = go c.refuses (map_checked g cs x y e)
  where
    go : (b : Bool) → checked cs y ≡ result_map_both g (λ (r : Refusal). r) (checked cs x) → cond b (Err c.refusal) (checked cs y) ≡ result_map_both g (λ (r : Refusal). r) (cond b (Err c.refusal) (checked cs x))
    go true h = refl
    go false h = h

-- `detect`: the detection at the first place of that table, so that none of the others scores lower, or none
first_is : (ds : List Detection) → first_detection ds ≡ first_in (detections_table ds)
first_is [] = refl
first_is (d ∷ ds) = rw (lt-ltb 0 (suc (length ds)) (omega arith))

module _ (bits : List ℕ) (w h : ℕ) where
  -- after a refusal the same refusal, else what is at the first place of the table, if there is a detection
  pub first-place : detect_first bits w h ≡ result_map_both first_in (λ (r : Refusal). r) (detect_answer bits w h)
  unfolding detect_answer detect_first
  first-place =
      let ds = detections_of bits w h (finders_of bits w h) in
      map_checked first_in (find_checks (length bits) w h (found bits w h)) (detections_table ds) (first_detection ds) (first_is ds)

  pub first_graded : (d : Detection) → detect_first bits w h ≡ Ok (Some d)
      → Graded (finders_of bits w h) d × ((q : ℕ) → 0 < q → q < (table_in (detect_answer bits w h)).count → le d.score (place_in (table_in (detect_answer bits w h)) q).score ≡ true)
  first_graded d e = go (detect_answer bits w h) (detect_graded bits w h) (sym first-place ∙ e)
    where
      go : (a : Result Detections Refusal) → AllGraded (finders_of bits w h) (table_in a) → result_map_both first_in (λ (r : Refusal). r) a ≡ Ok (Some d)
          → Graded (finders_of bits w h) d × ((q : ℕ) → 0 < q → q < (table_in a).count → le d.score (place_in (table_in a) q).score ≡ true)
      go (Err r) g e = cc
      go (Ok t) g e = by (ltb 0 t.count) refl e
        where
          by : (b : Bool) → ltb 0 t.count ≡ b → ◌≡◌ {A = Result (Option Detection) Refusal} (Ok (cond b (Some (place_in t 0)) None)) (Ok (Some d))
              → Graded (finders_of bits w h) d × ((q : ℕ) → 0 < q → q < t.count → le d.score (place_in t q).score ≡ true)
          by false l e = cc
          by true l e =
              let i : place_in t 0 ≡ d = cc in
              (subst (Graded (finders_of bits w h)) i (g.each 0 (ltb-true 0 t.count l)), λ q m n. ap (λ (d : Detection). le d.score (place_in t q).score) (sym i) ∙ g.never_fall 0 q m n)

  -- of an empty table there is none, and so no score and no mean module
  pub first-zero : (t : Detections) → detect_answer bits w h ≡ Ok t → t.count ≡ 0 → detect_first bits w h ≡ Ok None
  first-zero t e z = first-place ∙ ap (result_map_both first_in (λ (r : Refusal). r)) e ∙ ap Ok (ap (λ (n : ℕ). cond (ltb 0 n) (Some (place_in t 0)) None) z)
