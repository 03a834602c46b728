-- To be believed. The cases that document 01 marks P ("P runs pass: ..", "P runs fail: ..", "P level of means 10, 20, 200: 107"), and gray values (document
-- 02, N3: "The pixel (0, 1, 1) .. becomes 1").
use Rattle.std.specs.Prelude.{ℕ, ◌≡◌, Bool, true, false, List, [], ◌∷◌}
use Rattle.ratio.specs.Ratio.{passes}
use Rattle.binarize.specs.Levels.{level}
use Rattle.gray.specs.Gray.{gray_rule}

-- what a case says
pub data Case : Type 0 where
  -- five runs, and whether they pass
  runs : ℕ → ℕ → ℕ → ℕ → ℕ → Bool → Case
  -- a window's means, and their level
  means : List ℕ → ℕ → Case
  -- a pixel's red, green and blue, and its gray value
  pixel : ℕ → ℕ → ℕ → ℕ → Case

-- the definitions give what a case says
abbrev pub Holds : Case → Type 0
Holds (runs a b c d e pass) = passes a b c d e ≡ pass
Holds (means l v) = level l ≡ v
Holds (pixel r g b v) = gray_rule r g b ≡ v

-- those marked P, then pixels: document 02's, the last blue that is black and the next one, an exact half, just under a half, white
abbrev pub cases : List Case
cases =
    runs 1 1 3 1 1 true
    ∷ runs 20 20 60 31 9 true
    ∷ runs 20 20 27 20 20 true
    ∷ runs 20 20 93 20 20 true
    ∷ runs 7 3 7 3 7 true
    ∷ runs 1 1 2 1 1 false
    ∷ runs 20 20 60 32 8 false
    ∷ runs 20 20 26 20 20 false
    ∷ runs 20 20 94 20 20 false
    ∷ runs 2 1 2 1 2 false
    ∷ runs 0 2 3 2 2 false
    ∷ means (10 ∷ 20 ∷ 200 ∷ []) 107
    ∷ pixel 0 1 1 1
    ∷ pixel 0 0 6 0
    ∷ pixel 0 0 7 1
    ∷ pixel 1 6 0 5
    ∷ pixel 2 0 1 0
    ∷ pixel 255 255 255 255
    ∷ []
