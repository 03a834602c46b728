-- What a call answers, by the number that its checks give. Assumes nothing.
use mathlib.Core.Path.{◌≡◌, refl, sym, ap, ◌∙◌}
use mathlib.Core.Bool.{Bool, cond, true, false}
use Prim.Native.Nat.{ℕ, zero, suc}
use lib.Dec.{eqb}
use Rattle.std.specs.Prelude.{List, [], ◌∷◌, Result, Ok, Err, IsErrAnd, IfOk}
use Rattle.std.specs.Result.{result_unwrap_or}
use Rattle.lcr_core.specs.Outcome.{Check, refusal_number, number_of, first_of, if_refused}
use Rattle.lcr_core.specs.Answer.{behind, checked}
use Rattle.lcr_core.specs.declared.Refusal.{Refusal}
use Rattle.lcr_core.specs.declared.Refusal.TheVariants.{ZeroSide, LargeSide, UnknownFormat, ShortPicture, ShortOutput, FullTable, BadVersion, BadList, LargeFrame}
use Rattle.lcr_core.proofs.Checks.{some_number, if_refused_kept}

-- the refusal of a number
abbrev numbered : ℕ → Refusal
numbered n =
    cond (eqb n 1) ZeroSide
    (cond (eqb n 2) LargeSide
    (cond (eqb n 3) UnknownFormat
    (cond (eqb n 4) ShortPicture (cond (eqb n 5) ShortOutput (cond (eqb n 6) FullTable (cond (eqb n 7) BadVersion (cond (eqb n 8) BadList LargeFrame)))))))

numbered_back : (r : Refusal) → numbered (refusal_number r) ≡ r
numbered_back ZeroSide = refl
numbered_back LargeSide = refl
numbered_back UnknownFormat = refl
numbered_back ShortPicture = refl
numbered_back ShortOutput = refl
numbered_back FullTable = refl
numbered_back BadVersion = refl
numbered_back BadList = refl
numbered_back LargeFrame = refl

-- refusals with the same number are the same
pub refusal_same : (r s : Refusal) → refusal_number r ≡ refusal_number s → r ≡ s
refusal_same r s e = sym (numbered_back r) ∙ ap numbered e ∙ numbered_back s

-- no number behind a number
if_refused_itself : (n : ℕ) → if_refused n n 0 ≡ n
if_refused_itself zero = refl
if_refused_itself (suc n) = refl

module _ {A : Type 0} where
  -- ---- an answer behind checks: its number is theirs, or else its own
  pub number_behind : (cs : List Check) (a : Result A Refusal) → number_of (behind cs a) ≡ if_refused (first_of cs) (first_of cs) (number_of a)
  number_behind [] a = refl
  number_behind (c ∷ cs) a = go c.refuses (number_behind cs a)
    where
      go : (b : Bool) → number_of (behind cs a) ≡ if_refused (first_of cs) (first_of cs) (number_of a)
          → let n : ℕ = cond b (refusal_number c.refusal) (first_of cs) in number_of (cond b (Err c.refusal) (behind cs a)) ≡ if_refused n n (number_of a)
      go true h = if_refused_kept (refusal_number c.refusal) (refusal_number c.refusal) (number_of a) (some_number c.refusal)
      go false h = h

  -- where they pass, it
  pub behind_passed : (cs : List Check) (a : Result A Refusal) → 0 ≡ first_of cs → a ≡ behind cs a
  behind_passed [] a e = refl
  behind_passed (c ∷ cs) a e = go c.refuses (behind_passed cs a) e
    where
      go : (b : Bool) → (0 ≡ first_of cs → a ≡ behind cs a) → 0 ≡ cond b (refusal_number c.refusal) (first_of cs) → a ≡ cond b (Err c.refusal) (behind cs a)
      go true later h = absurd (some_number c.refusal (sym h))
      go false later h = later h

  -- else the refusal with their number
  pub behind_refused : (cs : List Check) (a : Result A Refusal) (r : Refusal) → refusal_number r ≡ first_of cs → Err r ≡ behind cs a
  behind_refused [] a r e = absurd (some_number r e)
  behind_refused (c ∷ cs) a r e = go c.refuses (behind_refused cs a r) e
    where
      go : (b : Bool) → (refusal_number r ≡ first_of cs → Err r ≡ behind cs a) → refusal_number r ≡ cond b (refusal_number c.refusal) (first_of cs) → Err r ≡ cond b (Err c.refusal) (behind cs a)
      go true later h = ap Err (refusal_same r c.refusal h)
      go false later h = later h

  -- an error that is handed on
  pub behind_by : (answer : Result A Refusal) (r : Refusal) → IsErrAnd answer (λ e. e ≡ r) → (cs : List Check) (a : Result A Refusal) → refusal_number r ≡ first_of cs → answer ≡ behind cs a
  behind_by (Ok x) r i cs a e = absurd i
  behind_by (Err s) r i cs a e = ap Err i ∙ behind_refused cs a r e

  -- what holds of every refusal and of it
  pub behind_holds : (P : Result A Refusal → Type 0) (cs : List Check) (a : Result A Refusal) → ((r : Refusal) → P (Err r)) → P a → P (behind cs a)
  behind_holds P [] a refused p = p
  behind_holds P (c ∷ cs) a refused p = go c.refuses (behind_holds P cs a refused p)
    where
      go : (b : Bool) → P (behind cs a) → P (cond b (Err c.refusal) (behind cs a))
      go true h = refused c.refusal
      go false h = h

  -- ---- a value behind checks: the answer's number is theirs
  pub number_checked : (cs : List Check) (x : A) → number_of (checked cs x) ≡ first_of cs
  number_checked cs x = number_behind cs (Ok x) ∙ if_refused_itself (first_of cs)

  -- where they pass, the value
  pub checked_passed : (cs : List Check) (x : A) → 0 ≡ first_of cs → Ok x ≡ checked cs x
  checked_passed cs x = behind_passed cs (Ok x)

  -- else the refusal with their number
  pub checked_refused : (cs : List Check) (x : A) (r : Refusal) → refusal_number r ≡ first_of cs → Err r ≡ checked cs x
  checked_refused cs x = behind_refused cs (Ok x)

  -- an error that is handed on
  pub refused_by : (answer : Result A Refusal) (r : Refusal) → IsErrAnd answer (λ e. e ≡ r) → (cs : List Check) (x : A) → refusal_number r ≡ first_of cs → answer ≡ checked cs x
  refused_by answer r i cs x = behind_by answer r i cs (Ok x)

  -- what holds of the value holds of the answer's
  pub checked_holds : (P : A → Type 0) (cs : List Check) (x : A) → P x → IfOk (checked cs x) P
  checked_holds P cs x = behind_holds (λ a. IfOk a P) cs (Ok x) (λ r. tt)

  -- and what holds of another holds of whichever of the two is taken
  pub either_or : (P : A → Type 0) (answer : Result A Refusal) (other : A) → IfOk answer P → P other → P (result_unwrap_or answer other)
  either_or P (Ok x) other p q = p
  either_or P (Err r) other p q = q
