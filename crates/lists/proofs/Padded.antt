-- Laws of tables that hold a list, and of reading them. Assumes nothing.
use mathlib.Core.Path.{◌≡◌, refl, sym, ◌∙◌}
use mathlib.Core.List.{List, [], ◌∷◌, ◌++◌}
use Prim.Native.Nat.{ℕ, zero, suc, ◌+◌, ◌-◌, ◌≤◌, ◌<◌}
use native.Mathlib.Omega.{arith}
use lib.ListN.{length, take, get_or, set, replicate, length-append, length-replicate, get_or-replicate, get_or-append}
use lib.Seq.{take_at, set_at, append_snoc}
use Rattle.lists.specs.Lists.{padded}

-- within a list the default is not read
pub get_d_any : {A : Type 0} (xs : List A) (i : ℕ) (d e : A) → i < length xs → get_or xs i d ≡ get_or xs i e
get_d_any [] i d e h = absurd (omega arith)
get_d_any (x ∷ xs) zero d e h = refl
get_d_any (x ∷ xs) (suc i) d e h = get_d_any xs i d e (omega arith)

module _ {A : Type 0} (n : ℕ) (z : A) where
  pub length-padded : (xs : List A) → length xs ≤ n → length (padded n z xs) ≡ n
  length-padded xs h = simp (length-append, length-replicate) (omega arith)

  -- the list that the table holds
  pub take-padded : (xs : List A) → take (length xs) (padded n z xs) ≡ xs
  take-padded xs = take_at xs _ (length xs) refl

  pub get_or-padded : (xs : List A) (i : ℕ) (d e : A) → i < length xs → get_or (padded n z xs) i d ≡ get_or xs i e
  get_or-padded xs i d e h = get_or-append xs _ d i h ∙ get_d_any xs i d e h

  -- any place of the table
  pub get_or_table : (xs : List A) (i : ℕ) (d : A) → i < n → get_or (padded n z xs) i d ≡ get_or xs i z
  get_or_table xs i d h = go n xs i h
    where
      go : (n : ℕ) (xs : List A) (i : ℕ) → i < n → get_or (padded n z xs) i d ≡ get_or xs i z
      go n [] i h = let e : n - 0 ≡ n = omega arith in rw e (get_or-replicate n i z d h)
      go n (x ∷ xs) zero h = refl
      go n (x ∷ xs) (suc i) h =
          let e : n - suc (length xs) ≡ n - 1 - length xs = omega arith in
          rw e (go (n - 1) xs i (omega arith))

  -- one more is stored in the first free place
  pub padded_more : (xs : List A) (x : A) → length xs < n → set (padded n z xs) (length xs) x ≡ padded n z (xs ++ (x ∷ []))
  padded_more xs x h =
      let e : n - length xs ≡ suc (n - (length xs + 1)) = omega arith in
      rw (e, length-append xs (x ∷ [])) (set_at xs z (replicate (n - (length xs + 1)) z) x (length xs) refl ∙ sym (append_snoc xs x (replicate (n - (length xs + 1)) z)))
