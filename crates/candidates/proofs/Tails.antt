-- Of a bit picture of w × h pixels nothing beyond its (w × h + 7) / 8 bytes is read, by the search, by the alignment functions and by the detections.
-- Assumes nothing.
use Rattle.std.specs.Option.{option_or}
use Rattle.std.specs.Prelude.{Option, Some, None, Result, option_and_then}
use Rattle.std.specs.Result.{result_unwrap_or}
use Rattle.lcr_core.specs.Answer.{checked}
use Rattle.lcr_core.specs.Outcome.{Check}
use Rattle.lcr_core.specs.declared.Refusal.{Refusal}
use mathlib.Core.Path.{◌≡◌, refl, sym, ap, ◌∙◌, fun_ext}
use mathlib.Core.Bool.{Bool, true, false, not, cond, ◌&&◌}
use mathlib.Core.List.{List, [], ◌∷◌}
use Prim.Native.Nat.{ℕ, zero, suc, ◌+◌, ◌-◌, ◌*◌, ◌/◌, ◌≤◌, ◌<◌, min}
use native.Mathlib.Omega.{arith}
use lib.Dec.{ltb}
use lib.IntN.{ℤ, pos, negsuc, ◌+ℤ◌}
use lib.Ieee.{Float, to_unsigned, to_signed}
use lib.ListN.{length, take, length-take}
use lib.Seq.{get_or-take}
use borrow.Author.Tests.{ltb-true, ltb-false, lt-ltb, le-ltb}
use Rattle.float.specs.Steps.{◌⊕◌}
use Rattle.lists.specs.Lists.{Each, range, folded, flat_map}
use Rattle.lists.proofs.Folds.{each_range}
use Rattle.lists.proofs.Numbers.{row_within}
use Rattle.binary.specs.Binary.{dark_bit, dark_at, bytes_of}
use Rattle.binary.specs.Line.{row, column, run, run_back, run_before, run_after, end_before, end_after}
use Rattle.binary.proofs.Ends.{end_of, before_end, after_end}
use Rattle.binary.specs.Refusal.{short_bits}
use Rattle.confirm.specs.Confirm.{confirm_limit, side_before, side_after, counted_of, any_cut, core_of, vertical_by, horizontal_by, row_by, column_by, confirmed_by, confirm_vertical, confirm_horizontal, row_confirmed, column_confirmed, confirmed_on}
use Rattle.confirm.proofs.Inside.{dark_inside}
use Rattle.transform.specs.Apply.{applied}
use Rattle.lcr_core.specs.declared.point.Point.{Point}
use Rattle.transform.specs.declared.Transform.{Transform}
use Rattle.geometry.specs.Score.{mean_of}
use Rattle.geometry.specs.Estimate.{estimate_of}
use Rattle.geometry.specs.Build.{built_fit}
use Rattle.geometry.specs.declared.Corners.{Corners}
use Rattle.lcr_core.specs.declared.finder.Finder.{Finder}
use Rattle.finders.specs.Hits.{Hit, runs, hits, line_hits}
use Rattle.finders.specs.Held.{Sighting, Held, held, merge_next}
use Rattle.finders.specs.Search.{max_finders, sighting, seen, row_sightings_by, column_sightings_by, sightings_by, found_by, sightings, found}
use Rattle.finders.proofs.Axes.{second_same}
use Rattle.finders.specs.Answer.{find_checks, find_refusal, finders_after, finders_of, answer_of}
use Rattle.row_search.specs.Rows.{clamp, clamp_right, radius_of, window_of, middle_of, column_runs, column_limit, marker_at, starts_at, row_runs, nearer_of, confirm_marker, marker_by_runs, marker_from, row_nearest, nearest_of, find_answer}
use Rattle.row_search.specs.declared.window.Window.{Window}
use Rattle.alignment.specs.declared.Refined.{Refined}
use Rattle.alignment.specs.declared.template.Votes.{Votes}
use Rattle.alignment.specs.Template.{taps, no_votes, pixel_at, tapped, module_dark, marker_centre, matched_of}
use Rattle.alignment.specs.Alignment.{alignment_checks, searched_of, located_of, locate_answer, rebuilt_of, refined_of, refine_answer}
use Rattle.alignment.proofs.Alike.{best_alike}
use Rattle.ranking.specs.declared.Triple.{Triple}
use Rattle.ranking.specs.Ranking.{ranked}
use Rattle.candidates.specs.declared.Detection.{Detection}
use Rattle.candidates.specs.Detection.{unrefined, build_with, build_of, build_for}
use Rattle.candidates.specs.Candidates.{corners_of, kept, detection_of, detections_of, detections_table, detect_answer}
use Rattle.lcr_core.specs.declared.version.Version.{Version}

-- ---- two lines that agree on their first len pixels
module _ (f g : ℕ → Bool) (len : ℕ) (same : (k : ℕ) → k < len → f k ≡ g k) where
  run_same : (c : Bool) (i n : ℕ) → n ≤ len - i → run c f i n ≡ run c g i n
  unfolding run
  run_same c i zero l = refl
  run_same c i (suc n) l = rw (same i (omega arith), run_same c (suc i) n (omega arith))

  back_same : (c : Bool) (i n : ℕ) → i ≤ len → run_back c f i n ≡ run_back c g i n
  unfolding run_back
  back_same c zero n l = refl
  back_same c (suc i) zero l = refl
  back_same c (suc i) (suc n) l = rw (same i (omega arith), back_same c i n (omega arith))

  after_same : (c : Bool) (limit i : ℕ) → run_after c f len limit i ≡ run_after c g len limit i
  after_same c limit i = run_same c i (min limit (len - i)) (omega arith)

  runs_same : (c : Bool) (k i n : ℕ) → n ≤ len - i → runs f c k i n ≡ runs g c k i n
  unfolding runs
  runs_same c k i zero l = refl
  runs_same c k i (suc n) l =
      rw (same i (omega arith), runs_same c (suc k) (suc i) n (omega arith), runs_same (not c) 1 (suc i) n (omega arith))

  hits_same : line_hits f len ≡ line_hits g len
  unfolding line_hits
  hits_same = ap (hits 0) (runs_same true 0 0 len (omega arith))

  end_same : (c : Bool) (limit i : ℕ) → i ≤ len → end_before c f limit i ≡ end_before c g limit i
  end_same c limit i l = before_end c f limit i ∙ ap (end_of limit i) (back_same c i i l) ∙ sym (before_end c g limit i)

  end_behind : (c : Bool) (limit i : ℕ) → end_after c f len limit i ≡ end_after c g len limit i
  end_behind c limit i = after_end c f len limit i ∙ ap (end_of limit (len - i)) (run_same c i (len - i) (omega arith)) ∙ sym (after_end c g len limit i)

  before_same : (limit i : ℕ) → i ≤ len → side_before f limit i ≡ side_before g limit i
  unfolding side_before
  before_same limit i l =
      let n = i - run_before false g limit i in
      rw (back_same false i (min limit i) l, end_same false limit i l, back_same true n (min limit n) (omega arith), end_same true limit n (omega arith))

  behind_same : (limit i : ℕ) → side_after f len limit i ≡ side_after g len limit i
  unfolding side_after
  behind_same limit i =
      let n = i + run_after false g len limit i in
      rw (after_same false limit i, end_behind false limit i, after_same true limit n, end_behind true limit n)

  core_same : (i limit : ℕ) → i ≤ len → core_of f len i limit ≡ core_of g len i limit
  unfolding core_of any_cut counted_of
  core_same i limit l =
      rw (back_same true i (min limit i) l, end_same true limit i l, after_same true limit (i + 1), end_behind true limit (i + 1), before_same limit (i - run_before true g limit i) (omega arith), behind_same limit (i + 1 + run_after true g len limit (i + 1)))

  column_same : (i limit : ℕ) → i ≤ len → column_runs f len i limit ≡ column_runs g len i limit
  unfolding column_runs
  column_same i limit l =
      rw (back_same true i (min limit i) l, after_same true limit (i + 1), back_same false (i - run_before true g limit i) (min limit (i - run_before true g limit i)) (omega arith), after_same false limit (i + 1 + run_after true g len limit (i + 1)))

  starts_same : (x : ℕ) → x < len → starts_at f x ≡ starts_at g x
  unfolding starts_at
  starts_same x l = rw (same x l, same (x - 1) (omega arith))

  row_same : (left right x : ℕ) → right ≤ len → x < right → row_runs f left right x ≡ row_runs g left right x
  unfolding row_runs
  row_same left right x m l =
      rw (run_same true x (right - x) (omega arith), back_same false x (x - left) (omega arith), run_same false (x + run true g x (right - x)) (right - (x + run true g x (right - x))) (omega arith))

-- ---- a fold whose steps agree
folded_same : {S A : Type 0} (g k : S → A → S) (xs : List A) → Each (λ (x : A). (s : S) → g s x ≡ k s x) xs → (s : S) → folded g s xs ≡ folded k s xs
unfolding folded
folded_same g k [] h s = refl
folded_same g k (x ∷ xs) h s = rw (h.0 s) (folded_same g k xs h.1 (k s x))

-- what a row's and a column's confirmation are made of
abbrev row_through : (ℕ → ℕ → Float → Option Float) → (ℕ → ℕ → Float → Option Float) → ℕ → Float → Float → Option Point
row_through down across y centre m =
    let x = to_unsigned 32 centre in option_and_then (λ cy. option_and_then (λ cx. Some (record { x = cx; y = cy })) (across x (to_unsigned 32 cy) m)) (down x y m)

abbrev column_through : (ℕ → ℕ → Float → Option Float) → (ℕ → ℕ → Float → Option Float) → ℕ → Float → Float → Option Point
column_through down across x centre m =
    let y = to_unsigned 32 centre in option_and_then (λ cx. option_and_then (λ cy. Some (record { x = cx; y = cy })) (down (to_unsigned 32 cx) y m)) (across x y m)

-- what a refinement is made of: a transform and a marker, unless a check refuses
abbrev marked : List Check → Transform → Option Point → Result Refined Refusal
marked cs t a = checked cs (record { transform = t; marker = a })

-- what a detection is made of: the marker by a transform, and the refinement from one
abbrev build_by : (Transform → Option Point) → (Transform → Refined) → Corners → Float → ℕ → Option Detection
build_by locate refine c s v =
    let made : Refined → Option Detection = λ r. Some (record { finders = c; marker = r.marker; version = record { 0 = v }; transform = r.transform; score = s; mean = mean_of c.tl c.tr c.bl }) in
    option_and_then (λ rough. option_and_then (λ t. made (refine t)) (built_fit c (locate rough) v)) (built_fit c None v)

-- the window of the search along rows lies in the picture
right_within : (p : Point) (m : Float) (w h : ℕ) → (window_of p m w h).right ≤ w
unfolding window_of
right_within p m w h = go (to_signed 31 p.x +ℤ radius_of m)
  where
    go : (z : ℤ) → clamp_right (w - 1) z ≤ w
    go (pos n) = omega arith
    go (negsuc n) = omega arith

bottom_within : (p : Point) (m : Float) (w h : ℕ) → (window_of p m w h).bottom ≤ h
unfolding window_of
bottom_within p m w h = go (to_signed 31 p.y +ℤ radius_of m +ℤ pos 1)
  where
    go : (z : ℤ) → clamp h z ≤ h
    go (pos n) = omega arith
    go (negsuc n) = omega arith

-- ---- two pictures that agree on their pixels
module _ (a b : List ℕ) (w h : ℕ) (same : (k : ℕ) → k < w * h → dark_bit a k ≡ dark_bit b k) where
  row_alike : (y : ℕ) → y < h → (k : ℕ) → k < w → row a w y k ≡ row b w y k
  row_alike y l k m = same (y * w + k * 1) (omega (arith, row_within y h w l))

  column_alike : (x : ℕ) → x < w → (k : ℕ) → k < h → column a w x k ≡ column b w x k
  column_alike x l k m = same (x + k * w) (omega (arith, row_within k h w m))

  pixel_same : (x y : ℕ) → dark_at a w h x y ≡ dark_at b w h x y
  unfolding dark_at
  pixel_same x y = go (ltb x w) refl (ltb y h) refl
    where
      go : (c : Bool) → ltb x w ≡ c → (d : Bool) → ltb y h ≡ d → c && d && dark_bit a (y * w + x) ≡ c && d && dark_bit b (y * w + x)
      go true p true q = same (y * w + x) (omega (arith, ltb-true x w p, row_within y h w (ltb-true y h q)))
      go true p false q = refl
      go false p d q = refl

  -- ---- the search
  down_same : (x y : ℕ) (m : Float) → confirm_vertical a w h x y m ≡ confirm_vertical b w h x y m
  unfolding vertical_by
  down_same x y m = rw (pixel_same x y) (go (dark_at b w h x y) refl)
    where
      go : (d : Bool) → dark_at b w h x y ≡ d → cond d (core_of (column a w x) h y (confirm_limit m)) None ≡ cond d (core_of (column b w x) h y (confirm_limit m)) None
      go true e =
          let i = dark_inside b w h x y true (sym e) refl in
          core_same (column a w x) (column b w x) h (column_alike x i.0) y (confirm_limit m) (omega (arith, i.1))
      go false e = refl

  across_same : (x y : ℕ) (m : Float) → confirm_horizontal a w h x y m ≡ confirm_horizontal b w h x y m
  unfolding horizontal_by
  across_same x y m = rw (pixel_same x y) (go (dark_at b w h x y) refl)
    where
      go : (d : Bool) → dark_at b w h x y ≡ d → cond d (core_of (row a w y) w x (confirm_limit m)) None ≡ cond d (core_of (row b w y) w x (confirm_limit m)) None
      go true e =
          let i = dark_inside b w h x y true (sym e) refl in
          core_same (row a w y) (row b w y) w (row_alike y i.1) x (confirm_limit m) (omega (arith, i.0))
      go false e = refl

  down_alike : confirm_vertical a w h ≡ confirm_vertical b w h
  down_alike = fun_ext (λ x. fun_ext (λ y. fun_ext (λ m. down_same x y m)))

  across_alike : confirm_horizontal a w h ≡ confirm_horizontal b w h
  across_alike = fun_ext (λ x. fun_ext (λ y. fun_ext (λ m. across_same x y m)))

  on_row_same : (n : ℕ) (x m : Float) → row_confirmed a w h n x m ≡ row_confirmed b w h n x m
  unfolding row_by
  on_row_same n x m =
      ap (λ (d : ℕ → ℕ → Float → Option Float). row_through d (confirm_horizontal a w h) n x m) down_alike
      ∙ ap (λ (c : ℕ → ℕ → Float → Option Float). row_through (confirm_vertical b w h) c n x m) across_alike

  on_column_same : (n : ℕ) (x m : Float) → column_confirmed a w h n x m ≡ column_confirmed b w h n x m
  unfolding column_by
  on_column_same n x m =
      ap (λ (d : ℕ → ℕ → Float → Option Float). column_through d (confirm_horizontal a w h) n x m) down_alike
      ∙ ap (λ (c : ℕ → ℕ → Float → Option Float). column_through (confirm_vertical b w h) c n x m) across_alike

  confirmed_same : (columns : Bool) (n : ℕ) (x m : Float) → confirmed_on a w h columns n x m ≡ confirmed_on b w h columns n x m
  unfolding confirmed_by
  confirmed_same columns n x m = rw (on_column_same n x m, on_row_same n x m)

  seen_same : (columns : Bool) (n : ℕ) (t : Hit) → seen a w h columns n t ≡ seen b w h columns n t
  seen_same columns n t = ap (sighting t.«module») (confirmed_same columns n t.centre t.«module»)

  seen_alike : (columns : Bool) (n : ℕ) (ts : List Hit) → flat_map (seen a w h columns n) ts ≡ flat_map (seen b w h columns n) ts
  seen_alike columns n ts = ap (λ (s : Hit → List Sighting). flat_map s ts) (fun_ext (λ t. seen_same columns n t))

  in_row_same : (y : ℕ) → y < h → row_sightings_by core_of a w h y ≡ row_sightings_by core_of b w h y
  in_row_same y l =
      ap (flat_map (seen a w h false y)) (hits_same (row a w y) (row b w y) w (row_alike y l)) ∙ seen_alike false y (line_hits (row b w y) w)

  in_column_same : (x : ℕ) → x < w → column_sightings_by core_of a w h x ≡ column_sightings_by core_of b w h x
  in_column_same x l =
      ap (flat_map (seen a w h true x)) (hits_same (column a w x) (column b w x) h (column_alike x l)) ∙ seen_alike true x (line_hits (column b w x) h)

  sightings_same : sightings a w h ≡ sightings b w h
  unfolding sightings_by
  sightings_same =
      rw (second_same (row_sightings_by core_of a w h) (row_sightings_by core_of b w h) h (λ k l. in_row_same (2 * k) l), second_same (column_sightings_by core_of a w h) (column_sightings_by core_of b w h) w (λ k l. in_column_same (2 * k) l))

  pub found_same : found a w h ≡ found b w h
  unfolding found_by
  found_same = ap (folded (merge_next max_finders) (held [])) sightings_same

  -- ---- the search for the marker along rows
  confirm_same : (m : Float) (y : ℕ) (x : Float) → confirm_marker a w h m y x ≡ confirm_marker b w h m y x
  unfolding confirm_marker
  confirm_same m y x = let i = to_unsigned 32 x in rw (pixel_same i y) (go i (dark_at b w h i y) refl)
    where
      go : (i : ℕ) (d : Bool) → dark_at b w h i y ≡ d
          → cond d (marker_at m x (column_runs (column a w i) h y (column_limit m))) None ≡ cond d (marker_at m x (column_runs (column b w i) h y (column_limit m))) None
      go i true e =
          let k = dark_inside b w h i y true (sym e) refl in
          ap (marker_at m x) (column_same (column a w i) (column b w i) h (column_alike i k.0) y (column_limit m) (omega (arith, k.1)))
      go i false e = refl

  module _ (m : Float) (v : Window) (e : v.right ≤ w) where
    from_same : (y x : ℕ) → y < h → x < v.right → marker_from a w h m v y x ≡ marker_from b w h m v y x
    unfolding marker_from marker_by_runs
    from_same y x l k =
        rw (starts_same (row a w y) (row b w y) w (row_alike y l) x (omega arith), row_same (row a w y) (row b w y) w (row_alike y l) v.left v.right x e k, confirm_same m y (middle_of (row_runs (row b w y) v.left v.right x)))

    along_same : (p : Point) (y : ℕ) → y < h → (nearest : Option Point) → row_nearest a w h m v p nearest y ≡ row_nearest b w h m v p nearest y
    unfolding row_nearest
    along_same p y l nearest =
        folded_same (λ (s : Option Point) (x : ℕ). nearer_of p s (marker_from a w h m v y x)) (λ (s : Option Point) (x : ℕ). nearer_of p s (marker_from b w h m v y x))
        (range (v.left + 1) v.right)
        (each_range (λ x. (s : Option Point) → nearer_of p s (marker_from a w h m v y x) ≡ nearer_of p s (marker_from b w h m v y x)) (v.left + 1) v.right
        (λ x _ k s. ap (nearer_of p s) (from_same y x l k)))
        nearest

    nearest_same : (p : Point) → v.bottom ≤ h → nearest_of a w h m v p ≡ nearest_of b w h m v p
    unfolding nearest_of
    nearest_same p l =
        folded_same (row_nearest a w h m v p) (row_nearest b w h m v p) (range v.top v.bottom)
        (each_range (λ y. (s : Option Point) → row_nearest a w h m v p s y ≡ row_nearest b w h m v p s y) v.top v.bottom (λ y _ k s. along_same p y (omega arith) s))
        None

  -- ---- the template match
  tap_same : (v : Votes) (p : Point) → tapped a w h v p ≡ tapped b w h v p
  unfolding tapped pixel_at
  tap_same v p = rw (pixel_same (to_unsigned 32 p.x) (to_unsigned 32 p.y))

  taps_alike : tapped a w h ≡ tapped b w h
  taps_alike = fun_ext (λ v. fun_ext (λ p. tap_same v p))

  module _ (t : Transform) where
    module_same : (x y : Float) → module_dark a w h t x y ≡ module_dark b w h t x y
    unfolding module_dark
    module_same x y =
        ap (λ (f : Votes → Point → Votes). let v = folded (λ (v : Votes) (o : Point). f v (applied t (x ⊕ o.x) (y ⊕ o.y))) no_votes taps in ltb v.seen (v.dark * 2)) taps_alike

    matched_same : (v : ℕ) → matched_of a w h t v ≡ matched_of b w h t v
    unfolding matched_of
    matched_same v = rw (best_alike a b w h t t module_same (marker_centre v))

  -- ---- what is refused for too few bytes, and what follows
  module _ (short : short_bits (length a) w h ≡ short_bits (length b) w h) where
    alignment_same : (v : ℕ) → alignment_checks (length a) w h v ≡ alignment_checks (length b) w h v
    alignment_same v = rw short

    checks_same : (s : Held) → find_checks (length a) w h s ≡ find_checks (length b) w h s
    checks_same s = rw short

    six_same : find_refusal a w h ≡ find_refusal b w h
    unfolding find_refusal
    six_same = rw (short, found_same)

    search_same : answer_of a w h ≡ answer_of b w h
    unfolding answer_of
    search_same = rw (short, found_same)

    find_same : (p : Point) (m : Float) → find_answer a w h p m ≡ find_answer b w h p m
    unfolding find_answer
    find_same p m = rw (short, nearest_same m (window_of p m w h) (right_within p m w h) p (bottom_within p m w h))

    searched_same : (t : Transform) (v : ℕ) (m : Float) → searched_of a w h t v m ≡ searched_of b w h t v m
    unfolding searched_of
    searched_same t v m = ap (λ (l : Result (Option Point) Refusal). result_unwrap_or l None) (find_same (applied t (marker_centre v) (marker_centre v)) m)

    located_same : (t : Transform) (v : ℕ) (m : Float) → located_of a w h t v m ≡ located_of b w h t v m
    unfolding located_of
    located_same t v m =
        ap (λ (k : Option Point). cond (ltb v 2) None (option_or k (searched_of a w h t v m))) (matched_same t v)
        ∙ ap (λ (k : Option Point). cond (ltb v 2) None (option_or (matched_of b w h t v) k)) (searched_same t v m)

    locate_same : (t : Transform) (v : ℕ) (m : Float) → locate_answer a w h t v m ≡ locate_answer b w h t v m
    unfolding locate_answer
    locate_same t v m =
        ap (λ (cs : List Check). checked cs (located_of a w h t v m)) (alignment_same v) ∙ ap (checked (alignment_checks (length b) w h v)) (located_same t v m)

    refine_same : (c : Corners) (v : ℕ) (t : Transform) (m : Float) → refine_answer a w h c v t m ≡ refine_answer b w h c v t m
    unfolding refine_answer refined_of
    refine_same c v t m =
        ap (λ (cs : List Check). marked cs (rebuilt_of c (located_of a w h t v m) v t) (located_of a w h t v m)) (alignment_same v)
        ∙ ap (λ (k : Option Point). marked (alignment_checks (length b) w h v) (rebuilt_of c k v t) k) (located_same t v m)

    build_same : (c : Corners) (s : Float) (v : ℕ) → build_with a w h c s v ≡ build_with b w h c s v
    unfolding build_with
    build_same c s v =
        let m = mean_of c.tl c.tr c.bl in
        ap (λ (l : Transform → Option Point). build_by l (λ t. result_unwrap_or (refine_answer a w h c v t m) unrefined) c s v) (fun_ext (λ t. ap (λ (l : Result (Option Point) Refusal). result_unwrap_or l None) (locate_same t v m)))
        ∙ ap (λ (r : Transform → Refined). build_by (λ t. result_unwrap_or (locate_answer b w h t v m) None) r c s v) (fun_ext (λ t. ap (λ (r : Result Refined Refusal). result_unwrap_or r unrefined) (refine_same c v t m)))

    built_same : (c : Corners) (s : Float) → build_of a w h c s ≡ build_of b w h c s
    unfolding build_of
    built_same c s = go (estimate_of c)
      where
        go : (e : Option Version) → build_for a w h c s e ≡ build_for b w h c s e
        go None = refl
        go (Some v) = build_same c s v.0

    pub detections_same : (fs : List Finder) → detections_of a w h fs ≡ detections_of b w h fs
    unfolding detections_of detection_of
    detections_same fs = ap (λ (f : Triple → List Detection). flat_map f (ranked fs)) (fun_ext (λ t. ap kept (built_same (corners_of fs t) t.score)))

    pub answer_same : detect_answer a w h ≡ detect_answer b w h
    unfolding detect_answer
    answer_same =
        ap (λ (s : Held). checked (find_checks (length a) w h s) (detections_table (detections_of a w h (finders_after s)))) found_same
        ∙ ap (λ (cs : List Check). checked cs (detections_table (detections_of a w h (finders_of b w h)))) (checks_same (found b w h))
        ∙ ap (λ (ds : List Detection). checked (find_checks (length b) w h (found b w h)) (detections_table ds)) (detections_same (finders_of b w h))

-- ---- the bytes of the picture are enough
module _ (bits : List ℕ) (w h : ℕ) where
  bits_alike : (k : ℕ) → k < w * h → dark_bit (take (bytes_of (w * h)) bits) k ≡ dark_bit bits k
  unfolding dark_bit
  bits_alike k l = rw (get_or-take (bytes_of (w * h)) bits (k / 8) 0 (omega arith))

  short_alike : short_bits (length (take (bytes_of (w * h)) bits)) w h ≡ short_bits (length bits) w h
  unfolding short_bits
  short_alike = rw (length-take (bytes_of (w * h)) bits) (go (ltb (length bits) (bytes_of (w * h))) refl)
    where
      go : (s : Bool) → ltb (length bits) (bytes_of (w * h)) ≡ s → ltb (min (bytes_of (w * h)) (length bits)) (bytes_of (w * h)) ≡ ltb (length bits) (bytes_of (w * h))
      go true e = lt-ltb (min (bytes_of (w * h)) (length bits)) (bytes_of (w * h)) (omega (arith, ltb-true (length bits) (bytes_of (w * h)) e)) ∙ sym e
      go false e = le-ltb (min (bytes_of (w * h)) (length bits)) (bytes_of (w * h)) (omega (arith, ltb-false (length bits) (bytes_of (w * h)) e)) ∙ sym e

  pub found_tail : found (take (bytes_of (w * h)) bits) w h ≡ found bits w h
  found_tail = found_same (take (bytes_of (w * h)) bits) bits w h bits_alike

  pub finders_tail : finders_of (take (bytes_of (w * h)) bits) w h ≡ finders_of bits w h
  finders_tail = ap finders_after found_tail

  pub refusal_tail : find_refusal (take (bytes_of (w * h)) bits) w h ≡ find_refusal bits w h
  refusal_tail = six_same (take (bytes_of (w * h)) bits) bits w h bits_alike short_alike

  pub search_tail : answer_of (take (bytes_of (w * h)) bits) w h ≡ answer_of bits w h
  search_tail = search_same (take (bytes_of (w * h)) bits) bits w h bits_alike short_alike

  pub detections_tail : (fs : List Finder) → detections_of (take (bytes_of (w * h)) bits) w h fs ≡ detections_of bits w h fs
  detections_tail fs = detections_same (take (bytes_of (w * h)) bits) bits w h bits_alike short_alike fs

  pub answer_tail : detect_answer (take (bytes_of (w * h)) bits) w h ≡ detect_answer bits w h
  answer_tail = answer_same (take (bytes_of (w * h)) bits) bits w h bits_alike short_alike
