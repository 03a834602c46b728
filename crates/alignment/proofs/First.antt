-- A fold that keeps the better of two sites ends with the first best one: what comes before it is beaten by it, and nothing that comes after beats it. Assumes nothing.
use mathlib.Core.Path.{◌≡◌, refl, sym, ap, ◌∙◌, subst}
use mathlib.Core.Bool.{Bool, true, false, cond}
use mathlib.Core.List.{List, [], ◌∷◌, ◌++◌, append_assoc, append-nil}
use Rattle.lists.specs.Lists.{Each, folded}
use Rattle.lists.proofs.Filters.{each_append, each_left, each_right}
use Rattle.float.specs.Floats.{is_number}
use Rattle.alignment.specs.declared.template.Site.{Site}
use Rattle.alignment.specs.Template.{beats, better_of}
use Rattle.alignment.proofs.Order.{beats-trans, beats_over}

-- r is the first best of the sites: it beats each earlier one, and no later one beats it
pub record FirstBest (sites : List Site) (r : Site) : Type 0 where
  pub earlier : List Site
  pub later : List Site
  pub placed : sites ≡ earlier ++ (r ∷ later)
  pub beaten : Each (λ (s : Site). beats r s ≡ true) earlier
  pub unbeaten : Each (λ (s : Site). beats s r ≡ false) later

abbrev pub Numbered : List Site → Type 0
Numbered = Each (λ (s : Site). is_number s.offset2 ≡ true)

-- the last of some sites beats them all, if it beats their best
beats_each : (s r : Site) → beats s r ≡ true → (xs : List Site) → Each (λ (x : Site). beats r x ≡ true) xs → Each (λ (x : Site). beats s x ≡ true) xs
beats_each s r h [] e = tt
beats_each s r h (x ∷ xs) e = (beats-trans s r x h e.0, beats_each s r h xs e.1)

beats_rest : (s r : Site) → beats s r ≡ true → (xs : List Site) → Numbered xs → Each (λ (x : Site). beats x r ≡ false) xs → Each (λ (x : Site). beats s x ≡ true) xs
beats_rest s r h [] n e = tt
beats_rest s r h (x ∷ xs) n e = (beats_over s r x n.0 h e.0, beats_rest s r h xs n.1 e.1)

first_more : (sites : List Site) (r s : Site) → Numbered sites → FirstBest sites r → FirstBest (sites ++ (s ∷ [])) (better_of r s)
unfolding better_of
first_more sites r s n f = go (beats s r) refl
  where
    go : (v : Bool) → beats s r ≡ v → FirstBest (sites ++ (s ∷ [])) (cond v s r)
    go true h =
        let m = subst Numbered f.placed n in
        let p = each_append (λ (x : Site). beats s x ≡ true) f.earlier (r ∷ f.later) (beats_each s r h f.earlier f.beaten)
        (h, beats_rest s r h f.later (each_right (λ (x : Site). is_number x.offset2 ≡ true) f.earlier (r ∷ f.later) m).1 f.unbeaten) in
        record { earlier = sites; later = []; placed = refl; beaten = subst (Each (λ (x : Site). beats s x ≡ true)) (sym f.placed) p; unbeaten = tt }
    go false h =
        record {
          earlier = f.earlier;
          later = f.later ++ (s ∷ []);
          placed = ap (λ (l : List Site). l ++ (s ∷ [])) f.placed ∙ append_assoc f.earlier (r ∷ f.later) (s ∷ []);
          beaten = f.beaten;
          unbeaten = each_append (λ (x : Site). beats x r ≡ false) f.later (s ∷ []) f.unbeaten (h, tt);
        }

first_all : (sites more : List Site) (r : Site) → Numbered (sites ++ more) → FirstBest sites r → FirstBest (sites ++ more) (folded better_of r more)
unfolding folded
first_all sites [] r n f = subst (λ (l : List Site). FirstBest l r) (sym (append-nil sites)) f
first_all sites (s ∷ more) r n f =
    let a = append_assoc sites (s ∷ []) more in
    subst (λ (l : List Site). FirstBest l (folded better_of (better_of r s) more)) a
    (first_all (sites ++ (s ∷ [])) more (better_of r s) (subst Numbered (sym a) n)
    (first_more sites r s (each_left (λ (x : Site). is_number x.offset2 ≡ true) sites (s ∷ more) n) f))

pub first-best : (r : Site) (sites : List Site) → Numbered (r ∷ sites) → FirstBest (r ∷ sites) (folded better_of r sites)
first-best r sites n = first_all (r ∷ []) sites r n (record { earlier = []; later = []; placed = refl; beaten = tt; unbeaten = tt })
