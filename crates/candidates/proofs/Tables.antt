-- The table of detections, triple by triple, and the tables of finders that they come from. Assumes nothing.
use Rattle.std.specs.Prelude.{Option, Some, None}
use mathlib.Core.Path.{◌≡◌, refl, sym, ◌∙◌, ap}
use mathlib.Core.List.{List, [], ◌∷◌, ◌++◌, append-nil}
use Prim.Native.Nat.{ℕ, ◌+◌, ◌≤◌, ◌<◌, min}
use native.Mathlib.Omega.{arith}
use lib.ListN.{length, get_or, set, take, length-append, length-take}
use lib.Seq.{get_or-take, take_all}
use Rattle.lists.specs.Lists.{padded, flat_map}
use Rattle.lists.proofs.Tabulate.{tabulate_ext}
use Rattle.lists.proofs.Padded.{get_d_any, get_or_table, padded_more, take-padded}
use Rattle.lists.proofs.Filters.{each_map}
use Rattle.lists.proofs.Folds.{flat_map-take, flat_map_few, flat_map_same}
use Rattle.geometry.specs.declared.Corners.{Corners}
use Rattle.lcr_core.specs.declared.finder.Finder.{Finder}
use Rattle.lcr_core.specs.Finder.{zero_finder}
use Rattle.finders.specs.declared.Finders.{Finders}
use Rattle.finders.specs.Search.{max_finders}
use Rattle.finders.specs.Answer.{finders_table}
use Rattle.ranking.specs.declared.Eight.{Eight}
use Rattle.ranking.specs.declared.Ranked.{Ranked}
use Rattle.ranking.specs.declared.Triple.{Triple}
use Rattle.ranking.specs.Ranking.{ranked}
use Rattle.ranking.specs.Tables.{ranked_table, zero_triple, in_use, eight_of}
use Rattle.ranking.proofs.Theorems.{Admissible, before, ranked_only, ranked-admissible}
use Rattle.ranking.proofs.Tables.{in_use_lem, ranked-eight}
use Rattle.candidates.specs.declared.Detection.{Detection}
use Rattle.candidates.specs.declared.Detections.{Detections}
use Rattle.candidates.specs.Detection.{build_of, zero_detection}
use Rattle.candidates.specs.Passing.{Within}
use Rattle.candidates.specs.Candidates.{corners_of, kept, detection_of, detections_of, detections_table}
use Rattle.candidates.proofs.Kept.{kept_few}

-- ---- one more detection
pub pushed : (found : Detections) (d : Detection) (ds : List Detection) → found ≡ detections_table ds → found.count < 3 → record { count = found.count + 1; at = set found.at found.count d } ≡ detections_table (ds ++ d ∷ [])
pushed found d ds e l =
    let m : length ds < 3 = rw e at l in
    let q : set (padded 3 zero_detection ds) (length ds) d ≡ padded 3 zero_detection (ds ++ (d ∷ [])) = padded_more 3 zero_detection ds d m in
    let n : length ds + 1 ≡ length (ds ++ (d ∷ [])) = sym (length-append ds (d ∷ [])) in
    rw e (rw (q, n))

-- ---- triples ts, one after the other
module _ (fs : List Finder) (ts : List Triple) where
  -- the detections of the first p of them
  abbrev pub first : List ℕ → ℕ → ℕ → ℕ → List Detection
  first bits w h p = flat_map (detection_of bits w h fs) (take p ts)

  pub first_few : (bits : List ℕ) (w h p : ℕ) (found : Detections) → found ≡ detections_table (first bits w h p) → found.count ≤ p
  unfolding detection_of
  first_few bits w h p found g = rw g (omega (arith, flat_map_few (detection_of bits w h fs) (λ s. kept_few (build_of bits w h (corners_of fs s) s.score)) (take p ts), length-take p ts))

  -- what the triple at place p gives
  module _ (bits : List ℕ) (w h : ℕ) (p : ℕ) (d : Triple) (l : p < length ts) (c : Corners) (ec : c ≡ corners_of fs (get_or ts p d)) (b : Option Detection) (eb : b ≡ build_of bits w h c (get_or ts p d).score) where
    next_of : (found : List Detection) → found ≡ first bits w h p ++ kept b → found ≡ first bits w h (p + 1)
    unfolding detection_of
    next_of found g =
        let q : kept b ≡ detection_of bits w h fs (get_or ts p d) = ap kept (eb ∙ ap (λ (x : Corners). build_of bits w h x (get_or ts p d).score) ec) in
        g ∙ ap (λ (l : List Detection). first bits w h p ++ l) q ∙ sym (flat_map-take (detection_of bits w h fs) ts p d l)

    pub one_more : (x : Detection) → b ≡ Some x → (found more : Detections) → found ≡ detections_table (first bits w h p) → ((ds : List Detection) → found ≡ detections_table ds → more ≡ detections_table (ds ++ x ∷ [])) → more ≡ detections_table (first bits w h (p + 1))
    one_more x k found more g f = f (first bits w h p) g ∙ ap detections_table (next_of _ (rw k refl))

    pub none_more : b ≡ None → (found : Detections) → found ≡ detections_table (first bits w h p) → found ≡ detections_table (first bits w h (p + 1))
    none_more k found g = g ∙ ap detections_table (next_of _ (rw (k, append-nil) refl))

  -- where they are those of a ranking of the same finders
  module _ (gs : List Finder) (f : fs ≡ gs) (r : Ranked) (e : r ≡ ranked_table (ranked gs)) (q : ts ≡ take r.count r.at) where
    all_ranked : ts ≡ ranked fs
    unfolding ranked_table
    all_ranked = q ∙ ap (λ (r : Ranked). take r.count r.at) e ∙ take-padded 3 zero_triple (ranked gs) ∙ ap ranked (sym f)

    pub place-within : (p : ℕ) (d : Triple) → p < length ts → Within fs (get_or ts p d)
    unfolding Admissible
    place-within p d l =
        let h = ranked-admissible fs p (rw all_ranked at l) in
        rw (get_d_any ts p d zero_triple l, all_ranked) (record { i_in = omega arith; j_in = omega arith; k_in = omega arith })

    pub all_built : (bits : List ℕ) (w h : ℕ) (p : ℕ) (found : Detections) → length ts ≤ p → found ≡ detections_table (first bits w h p) → found ≡ detections_table (detections_of bits w h gs)
    unfolding detections_of
    all_built bits w h p found l g =
        g ∙ ap (λ (l : List Triple). detections_table (flat_map (detection_of bits w h fs) l)) (take_all p ts l ∙ all_ranked) ∙ ap (λ (fs : List Finder). detections_table (detections_of bits w h fs)) f

-- ---- the detections of a list are those of its first eight
module _ (bits : List ℕ) (w h : ℕ) (fs : List Finder) where
  same_at : (t : Triple) → Admissible fs t × (before fs t < 3) → detection_of bits w h (take 8 fs) t ≡ detection_of bits w h fs t
  unfolding detection_of Admissible
  same_at t a =
      rw (get_or-take 8 fs t.i zero_finder (omega (arith, a.0.0)), get_or-take 8 fs t.j zero_finder (omega (arith, a.0.0)), get_or-take 8 fs t.k zero_finder (omega (arith, a.0.0)))

  pub detections_eight : detections_of bits w h (take 8 fs) ≡ detections_of bits w h fs
  unfolding detections_of
  detections_eight =
      rw ranked-eight (flat_map_same (detection_of bits w h (take 8 fs)) (detection_of bits w h fs) (ranked fs) (each_map (λ (t : Triple). Admissible fs t × (before fs t < 3)) _ same_at (ranked fs) (ranked_only fs)))

  pub detections_in_lem : (t : Eight) → t ≡ eight_of fs → detections_of bits w h (in_use t) ≡ detections_of bits w h fs
  detections_in_lem t e = ap (λ (t : Eight). detections_of bits w h (in_use t)) e ∙ ap (detections_of bits w h) (in_use_lem fs) ∙ detections_eight

-- ---- the first eight of a search
eight_same : (n : ℕ) (xs ys : List Finder) → xs ≡ ys → ◌≡◌ {A = Eight} (record { count = n; at = xs }) (record { count = n; at = ys })
eight_same n xs ys e = rw e refl

pub first_eight_is : (t : Finders) (fs : List Finder) (e r : Eight) → t ≡ finders_table fs → e ≡ eight_of t.table → r ≡ record { count = min t.count 8; at = e.at } → r ≡ eight_of fs
unfolding eight_of
first_eight_is t fs e r q g h =
    h ∙ rw (g, q) (eight_same (min (length fs) 8) _ _ (tabulate_ext 8 _ _ (λ i l. get_or_table max_finders zero_finder fs i zero_finder (omega (arith, l)))))
