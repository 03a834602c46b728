-- The two forms: what the first byte and the head say. Assumes nothing.
use Rattle.std.proofs.Common.{◌≡◌, ℕ, ◌≤◌, ◌<◌, ◌^◌, eqb, ltb, ◌||◌, refl, ◌⊎◌, List, length, get_or, inl, inr, arith}
use Rattle.lcr_core.proofs.Checks.{either}
use Rattle.finders.specs.Search.{max_finders}
use Rattle.stored.specs.Stored.{Form, form_one, form_two, no_form, form_in, head_size, bad_head}

-- one of the two
abbrev pub Known : Form → Type 0
Known f = (f ≡ form_one) ⊎ (f ≡ form_two)

-- no form has more finders than the table
pub form_fits : (bytes : List ℕ) → (form_in bytes).most ≤ max_finders
form_fits bytes = either (λ f. f.most ≤ max_finders) (eqb (get_or bytes 0 0) 2) form_two form_one (omega arith) (omega arith)

-- a count that a form allows fits its bytes
pub count_fits : (f : Form) → Known f → f.most < 256 ^ f.wide
count_fits f (inl e) = rw e (omega arith)
count_fits f (inr e) = rw e (omega arith)

-- the form that the first byte names
pub form_is : (f : Form) (bytes : List ℕ) → Known f → get_or bytes 0 0 ≡ f.byte → form_in bytes ≡ f
form_is f bytes (inl e) q = rw (q, e)
form_is f bytes (inr e) q = rw (q, e)

-- its head is refused for its length alone
pub refused_head : (f : Form) (bytes : List ℕ) → Known f → get_or bytes 0 0 ≡ f.byte → bad_head bytes ≡ ltb (length bytes) (head_size f)
unfolding bad_head
refused_head f bytes (inl e) q = rw (q, e)
refused_head f bytes (inr e) q = rw (q, e)

-- the two parts of the head's 8
pub head_cases : (bytes : List ℕ) → bad_head bytes ≡ no_form bytes || ltb (length bytes) (head_size (form_in bytes))
unfolding bad_head
head_cases bytes = refl
