-- What is known where checks pass. Assumes nothing.
use Rattle.std.proofs.lemmas.Bool.{or_parts}
use mathlib.Core.Path.{◌≡◌, refl, sym, ap, ◌∙◌}
use mathlib.Core.Bool.{Bool, cond, true, false, ◌||◌}
use Prim.Native.Nat.{ℕ, zero, suc}
use native.Mathlib.Omega.{arith}
use borrow.Author.Tests.{eqb-false, ltb-false}
use lib.Dec.{eqb, ltb}
use Rattle.std.specs.Prelude.{List, [], ◌∷◌, ◌++◌, take, drop, Result, Ok, Err, IsErrAnd}
use Rattle.lcr_core.specs.Outcome.{Check, refusal_number, number_of, first_of, if_refused, zero_side, large_side, sides_refusal}
use Rattle.lcr_core.specs.declared.Refusal.{Refusal}
use Rattle.lcr_core.specs.declared.Refusal.TheVariants.{ZeroSide, LargeSide, UnknownFormat, ShortPicture, ShortOutput, FullTable, BadVersion, BadList, LargeFrame}
use Rattle.lcr_core.specs.Passed.{Sides}

-- what holds of both holds of the one that is taken
pub either : {A : Type 0} (P : A → Type 0) (b : Bool) (x y : A) → P x → P y → P (cond b x y)
either P true x y p q = p
either P false x y p q = q

pub if_refused_either : {A : Type 0} (P : A → Type 0) (n : ℕ) (x y : A) → P x → P y → P (if_refused n x y)
if_refused_either P zero x y p q = q
if_refused_either P (suc n) x y p q = p

-- no refusal has the number 0
pub some_number : (r : Refusal) → refusal_number r ≡ 0 → ⊥
some_number ZeroSide e = absurd (omega arith)
some_number LargeSide e = absurd (omega arith)
some_number UnknownFormat e = absurd (omega arith)
some_number ShortPicture e = absurd (omega arith)
some_number ShortOutput e = absurd (omega arith)
some_number FullTable e = absurd (omega arith)
some_number BadVersion e = absurd (omega arith)
some_number BadList e = absurd (omega arith)
some_number LargeFrame e = absurd (omega arith)

-- where a list of checks gives 0, its first does not refuse, and the others give 0
pub first_passes : (b : Bool) (n rest : ℕ) → cond b (suc n) rest ≡ 0 → (b ≡ false) × (rest ≡ 0)
first_passes true n rest e = absurd (omega arith)
first_passes false n rest e = (refl, e)

-- what the first n checks refuse, all of them refuse
pub refused_first : (n : ℕ) (cs : List Check) (r : Refusal) → refusal_number r ≡ first_of (take n cs) → refusal_number r ≡ first_of cs
refused_first n [] r e = absurd (some_number r (e ∙ none_of n))
  where
    none_of : (n : ℕ) → first_of (take n []) ≡ 0
    none_of zero = refl
    none_of (suc n) = refl
refused_first zero (c ∷ cs) r e = absurd (some_number r e)
refused_first (suc n) (c ∷ cs) r e = go c.refuses (refused_first n cs r) e
  where
    go : (b : Bool) → (refusal_number r ≡ first_of (take n cs) → refusal_number r ≡ first_of cs) → refusal_number r ≡ cond b (refusal_number c.refusal) (first_of (take n cs)) → refusal_number r ≡ cond b (refusal_number c.refusal) (first_of cs)
    go true later h = h
    go false later h = later h

-- where they pass, the checks behind them decide
pub passed_first : (n : ℕ) (cs : List Check) → 0 ≡ first_of (take n cs) → first_of (drop n cs) ≡ first_of cs
passed_first zero cs e = refl
passed_first (suc n) [] e = refl
passed_first (suc n) (c ∷ cs) e = go c.refuses (passed_first n cs) e
  where
    go : (b : Bool) → (0 ≡ first_of (take n cs) → first_of (drop n cs) ≡ first_of cs) → 0 ≡ cond b (refusal_number c.refusal) (first_of (take n cs)) → first_of (drop n cs) ≡ cond b (refusal_number c.refusal) (first_of cs)
    go true later h = absurd (some_number c.refusal (sym h))
    go false later h = later h

-- check n, behind those that pass
pub check_refuses : (n : ℕ) (cs : List Check) (k : Check) (ds : List Check) → drop n cs ≡ k ∷ ds → 0 ≡ first_of (take n cs) → true ≡ k.refuses → refusal_number k.refusal ≡ first_of cs
check_refuses n cs k ds d e r =
    let h : refusal_number k.refusal ≡ first_of (k ∷ ds) = rw (← r) refl in
    h ∙ ap first_of (sym d) ∙ passed_first n cs e

pub check_passes : (n : ℕ) (cs : List Check) (k : Check) (ds : List Check) → drop n cs ≡ k ∷ ds → 0 ≡ first_of (take n cs) → false ≡ k.refuses → 0 ≡ first_of (take (suc n) cs)
check_passes zero [] k ds d e r = refl
check_passes zero (c ∷ cs) k ds d e r = go c k (ap head_of d) r
  where
    head_of : List Check → Check
    head_of [] = k
    head_of (x ∷ xs) = x

    go : (c k : Check) → c ≡ k → false ≡ k.refuses → 0 ≡ cond c.refuses (refusal_number c.refusal) 0
    go c k q r = rw (q, ← r) refl
check_passes (suc n) [] k ds d e r = refl
check_passes (suc n) (c ∷ cs) k ds d e r = go c.refuses (check_passes n cs k ds d) e
  where
    go : (b : Bool) → (0 ≡ first_of (take n cs) → false ≡ k.refuses → 0 ≡ first_of (take (suc n) cs)) → 0 ≡ cond b (refusal_number c.refusal) (first_of (take n cs)) → 0 ≡ cond b (refusal_number c.refusal) (first_of (take (suc n) cs))
    go true later h = absurd (some_number c.refusal (sym h))
    go false later h = later h r

-- an error that is handed on, of a call that made the first n checks
pub refused_on : {A : Type 0} (answer : Result A Refusal) (r : Refusal) → IsErrAnd answer (λ e. e ≡ r) → (n : ℕ) (cs : List Check) → refusal_number r ≡ first_of (take n cs) → number_of answer ≡ first_of cs
refused_on (Ok x) r i n cs h = absurd i
refused_on (Err e) r i n cs h = rw i (refused_first n cs r h)

pub same_number : {A : Type 0} (answer : Result A Refusal) (r : Refusal) → IsErrAnd answer (λ e. e ≡ r) → number_of answer ≡ refusal_number r
same_number (Ok x) r i = absurd i
same_number (Err e) r i = ap refusal_number i

pub sides_pass : (w h : ℕ) → zero_side w h ≡ false → large_side w h ≡ false → Sides w h
unfolding zero_side large_side
sides_pass w h z l =
    let p = or_parts (eqb w 0) (eqb h 0) z in
    let q = or_parts (ltb 4096 w) (ltb 4096 h) l in
    let wz = eqb-false w 0 p.0 in
    let hz = eqb-false h 0 p.1 in
    let wl = ltb-false 4096 w q.0 in
    let hl = ltb-false 4096 h q.1 in
    omega arith

-- what a refusal leaves
pub if_refused_kept : {A : Type 0} (n : ℕ) (old new : A) → (n ≡ 0 → ⊥) → old ≡ if_refused n old new
if_refused_kept zero old new h = absurd (h refl)
if_refused_kept (suc n) old new h = refl

pub if_refused_done : {A : Type 0} (n : ℕ) (old new : A) → n ≡ 0 → new ≡ if_refused n old new
if_refused_done n old new h = rw h

-- what an error that is handed on leaves
pub if_refused_error : {A : Type 0} (r : Refusal) (n : ℕ) (old new : A) → refusal_number r ≡ n → old ≡ if_refused n old new
if_refused_error r n old new h = if_refused_kept n old new (λ e. some_number r (h ∙ e))

-- what is known where the sides pass
pub sides_allowed : (w h : ℕ) → 0 ≡ sides_refusal w h → (false ≡ zero_side w h) × (false ≡ large_side w h)
unfolding sides_refusal
sides_allowed w h e =
    let p = first_passes (zero_side w h) 0 _ (sym e) in
    let q = first_passes (large_side w h) 1 _ p.1 in
    (sym p.0, sym q.0)

pub sides_known : (w h : ℕ) → 0 ≡ sides_refusal w h → Sides w h
sides_known w h e = let p = sides_allowed w h e in sides_pass w h (sym p.0) (sym p.1)

-- ---- checks of the sides, and others behind them: these decide where the sides pass
pub sides_then : (w h rest : ℕ) → 0 ≡ sides_refusal w h → cond (zero_side w h) 1 (cond (large_side w h) 2 rest) ≡ rest
sides_then w h rest e = let p = sides_allowed w h e in rw (← p.0, ← p.1)

-- else the sides' refusal
pub sides_refused : (r : Refusal) (w h rest : ℕ) → refusal_number r ≡ sides_refusal w h → cond (zero_side w h) 1 (cond (large_side w h) 2 rest) ≡ refusal_number r
unfolding sides_refusal
sides_refused r w h rest e = go (zero_side w h) (large_side w h) e
  where
    go : (z l : Bool) → refusal_number r ≡ cond z 1 (cond l 2 0) → cond z 1 (cond l 2 rest) ≡ refusal_number r
    go true l q = sym q
    go false true q = sym q
    go false false q = absurd (some_number r q)

-- ---- checks behind checks
pub first_behind : (cs ds : List Check) → if_refused (first_of cs) (first_of cs) (first_of ds) ≡ first_of (cs ++ ds)
first_behind [] ds = refl
first_behind (c ∷ cs) ds = go c.refuses (first_behind cs ds)
  where
    go : (b : Bool) → if_refused (first_of cs) (first_of cs) (first_of ds) ≡ first_of (cs ++ ds)
        → let n : ℕ = cond b (refusal_number c.refusal) (first_of cs) in if_refused n n (first_of ds) ≡ cond b (refusal_number c.refusal) (first_of (cs ++ ds))
    go true e = sym (if_refused_kept (refusal_number c.refusal) (refusal_number c.refusal) (first_of ds) (some_number c.refusal))
    go false e = e

-- where all pass, the first n pass
pub part_passes : (n : ℕ) (cs : List Check) → 0 ≡ first_of cs → 0 ≡ first_of (take n cs)
part_passes zero cs e = refl
part_passes (suc n) [] e = refl
part_passes (suc n) (c ∷ cs) e = go c.refuses (part_passes n cs) e
  where
    go : (b : Bool) → (0 ≡ first_of cs → 0 ≡ first_of (take n cs)) → 0 ≡ cond b (refusal_number c.refusal) (first_of cs) → 0 ≡ cond b (refusal_number c.refusal) (first_of (take n cs))
    go true later h = absurd (some_number c.refusal (sym h))
    go false later h = later h
