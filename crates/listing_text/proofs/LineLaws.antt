-- Lines from their fields as they are written. Assumes nothing.
use Rattle.std.specs.Prelude.{Option, Some, None}
use mathlib.Core.Path.{◌≡◌, refl, sym, ap, ◌∙◌}
use mathlib.Core.List.{List, [], ◌∷◌, ◌++◌, append-nil, append_assoc}
use Prim.Native.Nat.{ℕ, ◌+◌, ◌*◌, ◌≤◌, ◌<◌}
use native.Mathlib.Numerals.{add-one}
use native.Mathlib.Omega.{arith}
use lib.ListN.{length, take, get_or, length-append}
use lib.Seq.{append_snoc, take_all}
use Rattle.lists.specs.Lists.{tabulate, flat_map}
use Rattle.lists.proofs.Folds.{flat_map-append, flat_map-take}
use Rattle.lcr_core.specs.declared.point.Point.{Point}
use Rattle.lcr_core.specs.declared.finder.Finder.{Finder}
use Rattle.candidates.specs.declared.Detection.{Detection}
use Rattle.listing_text.specs.declared.pieces.Text.{Text}
use Rattle.listing_text.specs.Text.{space, line_feed, dash, decimal_text, single_text, line_text}
use Rattle.listing_text.specs.Inner.{Adds, with_space, spaced}
use Rattle.listing_text.specs.Listing.{refused_word, refused_line, head_line, finder_line, marker_fields, number_fields, detection_line, single_room, double_room, decimal_room, head_room, finder_room, detection_room}
use Rattle.listing_text.proofs.Writing.{adds_then, adds_as, adds_none}

-- ---- a line of few fields
next : (f g : List ℕ) (rest : List (List ℕ)) {m n : ℕ} {a b c : Text} → Adds (with_space f) m a b → Adds (line_text (g ∷ rest)) n b c → Adds (line_text (f ∷ g ∷ rest)) (m + n) a c
unfolding line_text
next f g rest p q = adds_as (append_snoc f space (line_text (g ∷ rest))) (omega arith) (adds_then p q)

last : (f : List ℕ) {m : ℕ} {a b : Text} → Adds (f ++ (line_feed ∷ [])) m a b → Adds (line_text (f ∷ [])) m a b
unfolding line_text
last f p = p

pub refused_adds : (n : ℕ) {m : ℕ} {a b c : Text} → Adds (with_space refused_word) m a b → Adds (decimal_text n ++ (line_feed ∷ [])) decimal_room b c → Adds (refused_line n) (m + decimal_room) a c
unfolding refused_line
refused_adds n p q = next _ _ _ p (last _ q)

pub head_adds : (w h n m : ℕ) {a b c d e : Text} → Adds (with_space (decimal_text w)) decimal_room a b → Adds (with_space (decimal_text h)) decimal_room b c
    → Adds (with_space (decimal_text n)) decimal_room c d → Adds (decimal_text m ++ (line_feed ∷ [])) decimal_room d e → Adds (head_line w h n m) head_room a e
unfolding head_line
head_adds w h n m p q s t = next _ _ _ p (next _ _ _ q (next _ _ _ s (last _ t)))

pub finder_adds : (f : Finder) {a b c d e : Text} → Adds (with_space (single_text f.x)) single_room a b → Adds (with_space (single_text f.y)) single_room b c
    → Adds (with_space (single_text f.«module»)) single_room c d → Adds (decimal_text f.confirmations ++ (line_feed ∷ [])) decimal_room d e → Adds (finder_line f) finder_room a e
unfolding finder_line
finder_adds f p q s t = next _ _ _ p (next _ _ _ q (next _ _ _ s (last _ t)))

-- ---- the marker
pub marker_adds : (m : Option Point) (p : Point) {a b c : Text} → m ≡ Some p → Adds (with_space (single_text p.x)) single_room a b → Adds (with_space (single_text p.y)) single_room b c
    → Adds (spaced (marker_fields m)) (2 * single_room) a c
unfolding spaced flat_map marker_fields
marker_adds m p e u v = rw e (adds_then u (adds_as {n = single_room} (sym (append-nil (with_space (single_text p.y)))) (omega arith) v))

pub missing_adds : (m : Option Point) {k : ℕ} {a b : Text} → m ≡ None → k ≤ 2 * single_room → Adds (with_space dash) k a b → Adds (spaced (marker_fields m)) (2 * single_room) a b
unfolding spaced flat_map marker_fields
missing_adds m e h u = rw e (adds_as refl h u)

-- ---- a line of many fields
line_first : (x : List ℕ) (xs ys : List (List ℕ)) → 0 < length ys → line_text (x ∷ (xs ++ ys)) ≡ x ++ (space ∷ line_text (xs ++ ys))
unfolding line_text
line_first x [] [] h = absurd (omega arith)
line_first x [] (y ∷ ys) h = refl
line_first x (z ∷ xs) ys h = refl

line_split : (xs ys : List (List ℕ)) → 0 < length ys → line_text (xs ++ ys) ≡ spaced xs ++ line_text ys
unfolding spaced flat_map
line_split [] ys h = refl
line_split (x ∷ xs) ys h =
    line_first x xs ys h ∙ ap (λ z. x ++ (space ∷ z)) (line_split xs ys h) ∙ sym (append_snoc x space (spaced xs ++ line_text ys)) ∙ sym (append_assoc (with_space x) (spaced xs) (line_text ys))

module _ (g : ℕ → List ℕ) where
  pub numbers_none : (a : Text) → Adds (spaced (tabulate 0 g)) 0 a a
  unfolding spaced flat_map tabulate
  numbers_none a = adds_none a

  spaced_next : (k : ℕ) → spaced (tabulate k g) ++ with_space (g k) ≡ spaced (tabulate (k + 1) g)
  unfolding spaced flat_map tabulate
  spaced_next k = rw (add-one k) (sym (flat_map-append with_space (tabulate k g) (g k ∷ []) ∙ ap (λ z. flat_map with_space (tabulate k g) ++ z) (append-nil (with_space (g k)))))

  pub number_next : (k : ℕ) {a b c : Text} → Adds (spaced (tabulate k g)) (double_room * k) a b → Adds (with_space (g k)) double_room b c → Adds (spaced (tabulate (k + 1) g)) (double_room * (k + 1)) a c
  number_next k p q = adds_as (spaced_next k) (omega arith) (adds_then p q)

-- score and mean module
abbrev grades : Detection → List (List ℕ)
grades d = single_text d.score ∷ single_text d.mean ∷ []

detection_is : (d : Detection)
    → with_space (decimal_text d.version.0) ++ (spaced (marker_fields d.marker) ++ (spaced (number_fields d.transform.m) ++ line_text (grades d))) ≡ detection_line d
unfolding detection_line spaced flat_map
detection_is d =
    let v = decimal_text d.version.0 in
    let m = marker_fields d.marker in
    let n = number_fields d.transform.m in
    let g = grades d in
    sym (append_assoc (with_space v) (spaced m) (spaced n ++ line_text g)) ∙ ap (λ z. spaced (v ∷ m) ++ z) (sym (line_split n g (omega arith))) ∙ sym (line_split (v ∷ m) (n ++ g) (omega (arith, length-append n g)))

pub detection_adds : (d : Detection) {a b c e f x : Text} → Adds (with_space (decimal_text d.version.0)) decimal_room a b → Adds (spaced (marker_fields d.marker)) (2 * single_room) b c
    → Adds (spaced (number_fields d.transform.m)) (8 * double_room) c e → Adds (with_space (single_text d.score)) single_room e f → Adds (single_text d.mean ++ (line_feed ∷ [])) single_room f x
    → Adds (detection_line d) detection_room a x
detection_adds d p q s t u = adds_as (detection_is d) (omega arith) (adds_then p (adds_then q (adds_then s (next _ _ _ t (last _ u)))))

-- ---- a line for each of a list
module _ {A : Type 0} (g : A → List ℕ) (room : ℕ) (xs : List A) where
  pub lines_none : (a : Text) → Adds (flat_map g (take 0 xs)) (room * 0) a a
  unfolding flat_map
  lines_none a = adds_as refl (omega arith) (adds_none a)

  pub lines_next : (k : ℕ) (x : A) {a b c : Text} → k < length xs → x ≡ get_or xs k x → Adds (flat_map g (take k xs)) (room * k) a b → Adds (g x) room b c → Adds (flat_map g (take (k + 1) xs)) (room * (k + 1)) a c
  lines_next k x h e p q = adds_as (ap (λ y. flat_map g (take k xs) ++ g y) e ∙ sym (flat_map-take g xs k x h)) (omega arith) (adds_then p q)

  pub lines_all : (k : ℕ) {a b : Text} → k ≡ length xs → Adds (flat_map g (take k xs)) (room * k) a b → Adds (flat_map g xs) (room * length xs) a b
  lines_all k e p = adds_as (ap (flat_map g) (take_all k xs (omega arith))) (let x : room * k ≤ room * length xs = rw e (omega arith) in x) p
