-- Laws of lent slices: their lengths, what they hold, their hash and what is answered of them. Assumes nothing.
use Rattle.std.proofs.Common.{◌≡◌, ℕ, zero, suc, ◌+◌, ◌*◌, ◌%◌, ◌<◌, ◌≤◌, ◌⊎◌, inl, inr, add-zero, false, cond, ◌&&◌, leb, ltb, List, [], ◌∷◌, ◌++◌, length, take, drop, sym, refl, ap, ◌∙◌, append-nil, arith, length-append, length-drop, length-take-le, drop_at, le-ltb, lt-ltb}
use Rattle.std.specs.List.{fold, list_all, range_with_len}
use Rattle.std.proofs.lemmas.Bool.{cases_lt, le-leb, lt-leb}
use Rattle.lists.specs.Lists.{flat_map, folded}
use Rattle.little_endian.specs.Bytes.{bytes_le, put}
use Rattle.little_endian.proofs.Pieces.{put_then, counted}
use Rattle.little_endian.proofs.Round.{length_bytes}
use Rattle.replay_records.specs.Record.{longest, length_at, lendable_at, hash_of, slice_bytes}

-- ---- lengths that have room

-- as a test of each, from the k-th on
lendable_each : (p : List ℕ) (at n k : ℕ) → list_all (λ i. leb (length_at p (at + 4 * i)) longest) (range_with_len k n) ≡ lendable_at p (at + 4 * k) n
unfolding lendable_at
lendable_each p at zero k = refl
lendable_each p at (suc n) k =
    let z : at + 4 * (k + 1) ≡ at + 4 * k + 4 = omega arith in
    ap (λ b. leb (length_at p (at + 4 * k)) longest && b) (lendable_each p at n (k + 1) ∙ ap (λ i. lendable_at p i n) z) ∙ go (cases_lt longest (length_at p (at + 4 * k)))
  where
    go : (longest < length_at p (at + 4 * k)) ⊎ (length_at p (at + 4 * k) ≤ longest)
        → (leb (length_at p (at + 4 * k)) longest && lendable_at p (at + 4 * k + 4) n) ≡ cond (ltb longest (length_at p (at + 4 * k))) false (lendable_at p (at + 4 * k + 4) n)
    go (inl h) = rw (lt-leb (length_at p (at + 4 * k)) longest h, lt-ltb longest (length_at p (at + 4 * k)) h)
    go (inr h) = rw (le-leb (length_at p (at + 4 * k)) longest h, le-ltb longest (length_at p (at + 4 * k)) h)

pub lendable_is : (p : List ℕ) (at n : ℕ) → list_all (λ i. leb (length_at p (at + 4 * i)) longest) (range_with_len 0 n) ≡ lendable_at p at n
lendable_is p at n = lendable_each p at n 0 ∙ ap (λ i. lendable_at p i n) (add-zero at)

-- ---- parts

-- a slice whose first n bytes were handed out
pub kept_long : (n : ℕ) (l part : List ℕ) → n ≤ length l → length part ≡ length (take n l) → length (part ++ drop n l) ≡ length l
kept_long n l part h e = length-append part (drop n l) ∙ omega (arith, e, length-take-le n l h, length-drop n l)

pub kept_rest : (n : ℕ) (l part : List ℕ) → n ≤ length l → length part ≡ length (take n l) → drop n (part ++ drop n l) ≡ drop n l
kept_rest n l part h e = drop_at part (drop n l) n (e ∙ length-take-le n l h)

-- ---- the hash

pub folded_is : {S A : Type 0} (g : S → A → S) (s : S) (l : List A) → fold g s l ≡ folded g s l
unfolding folded
folded_is g s [] = refl
folded_is g s (x ∷ l) = folded_is g (g s x) l

-- ---- a slice in an answer

pub slice_is : (s : List ℕ) (i : ℕ) (l : List ℕ) → put (bytes_le 8 (hash_of s)) (i + 4) (put (bytes_le 4 (length s % 4294967296)) i l) ≡ put (slice_bytes s) i l
unfolding slice_bytes
slice_is s i l = counted 4 (length s) (bytes_le 8 (hash_of s)) i l

length_slice : (s : List ℕ) → length (slice_bytes s) ≡ 12
unfolding slice_bytes
length_slice s = length-append (bytes_le 4 (length s)) (bytes_le 8 (hash_of s)) ∙ rw (length_bytes 4 (length s), length_bytes 8 (hash_of s))

-- five slices, one after the other
pub five_are : (a b c d e : List ℕ) (i : ℕ) (l l1 l2 l3 l4 l5 : List ℕ)
    → l1 ≡ put (slice_bytes a) i l
    → l2 ≡ put (slice_bytes b) (i + 12) l1
    → l3 ≡ put (slice_bytes c) (i + 24) l2
    → l4 ≡ put (slice_bytes d) (i + 36) l3
    → l5 ≡ put (slice_bytes e) (i + 48) l4
    → l5 ≡ put (flat_map slice_bytes (a ∷ b ∷ c ∷ d ∷ e ∷ [])) i l
unfolding flat_map
five_are a b c d e i l l1 l2 l3 l4 l5 p1 p2 p3 p4 p5 =
    let de = slice_bytes d ++ (slice_bytes e ++ []) in
    let cde = slice_bytes c ++ de in
    p5
    ∙ ap (λ z. put z (i + 48) l4) (sym (append-nil (slice_bytes e)))
    ∙ ap (put (slice_bytes e ++ []) (i + 48)) p4
    ∙ put_then 12 (slice_bytes d) (slice_bytes e ++ []) (i + 36) (i + 48) l3 (length_slice d) (omega arith)
    ∙ ap (put de (i + 36)) p3
    ∙ put_then 12 (slice_bytes c) de (i + 24) (i + 36) l2 (length_slice c) (omega arith)
    ∙ ap (put cde (i + 24)) p2
    ∙ put_then 12 (slice_bytes b) cde (i + 12) (i + 24) l1 (length_slice b) (omega arith)
    ∙ ap (put (slice_bytes b ++ cde) (i + 12)) p1
    ∙ put_then 12 (slice_bytes a) (slice_bytes b ++ cde) i (i + 12) l (length_slice a) refl
