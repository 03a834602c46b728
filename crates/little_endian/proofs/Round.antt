-- Lengths, bytes put over the beginning of a list, and what is read of bytes that were put together. Assumes nothing.
use mathlib.Core.Path.{◌≡◌, refl, sym, ap, ◌∙◌}
use mathlib.Core.List.{List, [], ◌∷◌, ◌++◌}
use Prim.Native.Nat.{ℕ, zero, suc, ◌+◌, ◌*◌, ◌/◌, ◌%◌, ◌^◌, ◌≤◌, ◌<◌}
use native.Mathlib.Nat.{pow-suc}
use native.Mathlib.Omega.{arith}
use lib.ListN.{length, drop, set, length-append, length-set}
use lib.Seq.{set-append_seam, append_snoc, get_or-append-add}
use Rattle.little_endian.specs.Bytes.{bytes_le, read_le, put}

pub length_bytes : (k n : ℕ) → length (bytes_le k n) ≡ k
unfolding bytes_le
length_bytes zero n = refl
length_bytes (suc k) n = ap suc (length_bytes k (n / 256))

pub length-put : (bs : List ℕ) (i : ℕ) (l : List ℕ) → length (put bs i l) ≡ length l
unfolding put
length-put [] i l = refl
length-put (b ∷ bs) i l = length-put bs (i + 1) (set l i b) ∙ length-set l i b

put_after : (bs p l : List ℕ) → length bs ≤ length l → put bs (length p) (p ++ l) ≡ p ++ (bs ++ drop (length bs) l)
unfolding put
put_after [] p l h = refl
put_after (b ∷ bs) p [] h = absurd (omega arith)
put_after (b ∷ bs) p (x ∷ l) h =
    let n : length p + 1 ≡ length (p ++ (b ∷ [])) = sym (length-append p (b ∷ [])) in
    ap (λ z. put bs (length p + 1) z) (set-append_seam p x l b ∙ sym (append_snoc p b l))
    ∙ ap (λ z. put bs z ((p ++ (b ∷ [])) ++ l)) n
    ∙ put_after bs (p ++ (b ∷ [])) l (omega arith)
    ∙ append_snoc p b (bs ++ drop (length bs) l)

-- over the beginning, the tail untouched
pub put_front : (bs l : List ℕ) → length bs ≤ length l → put bs 0 l ≡ bs ++ drop (length bs) l
put_front bs l h = put_after bs [] l h

-- past the first part
pub read_after : (k : ℕ) (xs ys : List ℕ) (i : ℕ) → read_le k (xs ++ ys) (length xs + i) ≡ read_le k ys i
unfolding read_le
read_after zero xs ys i = refl
read_after (suc k) xs ys i =
    let e : length xs + i + 1 ≡ length xs + (i + 1) = omega arith in
    rw (get_or-append-add xs ys i 0, e, read_after k xs ys (i + 1))

-- a number's own bytes
pub read_bytes : (k v : ℕ) (ys : List ℕ) → v < 256 ^ k → read_le k (bytes_le k v ++ ys) 0 ≡ v
unfolding read_le bytes_le
read_bytes zero v ys h = omega arith
read_bytes (suc k) v ys h =
    let s : 256 ^ suc k ≡ 256 ^ k * 256 = pow-suc 256 k in
    let l : v / 256 < 256 ^ k = omega (arith, s) in
    let r : read_le k (v % 256 ∷ (bytes_le k (v / 256) ++ ys)) (0 + 1) ≡ v / 256 = read_after k (v % 256 ∷ []) (bytes_le k (v / 256) ++ ys) 0 ∙ read_bytes k (v / 256) ys l in
    omega (arith, r)
