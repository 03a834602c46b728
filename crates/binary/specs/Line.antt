-- To be believed. A line of a bit picture, as a row or a column, and its runs. Document 02, N7: "The run count must also tell how it ended: colour change,
-- picture edge or limit .. A run of exactly the limit followed by a change of colour or the edge ended by that."
use Rattle.std.specs.Prelude.{ℕ, zero, suc, ◌+◌, ◌-◌, ◌*◌, min, Bool, cond, List, eqb, leb}
use Rattle.std.specs.Bool.{beq}
use Rattle.binary.specs.Binary.{dark_bit}
use Rattle.binary.specs.declared.line.End.{End}
use Rattle.binary.specs.declared.line.End.TheVariants.{Change, Edge, Limit}
use Rattle.binary.specs.declared.line.Run.{Run}

-- pixel k of a line that starts at pixel number `start` and goes on by `stride` numbers
abbrev pub pixel : List ℕ → ℕ → ℕ → ℕ → Bool
pixel bits start stride k = dark_bit bits (start + k * stride)

-- row y of a picture of width w
abbrev pub row : List ℕ → ℕ → ℕ → ℕ → Bool
row bits w y = pixel bits (y * w) 1

-- column x
abbrev pub column : List ℕ → ℕ → ℕ → ℕ → Bool
column bits w x = pixel bits x w

-- how many pixels of one colour (true for dark) stand together on the line f, from pixel i on, n at most
unfoldable pub run : Bool → (ℕ → Bool) → ℕ → ℕ → ℕ
run colour f i zero = 0
run colour f i (suc n) = cond (beq (f i) colour) (suc (run colour f (suc i) n)) 0

-- the same before pixel i, n at most
unfoldable pub run_back : Bool → (ℕ → Bool) → ℕ → ℕ → ℕ
run_back colour f zero n = 0
run_back colour f (suc i) zero = 0
run_back colour f (suc i) (suc n) = cond (beq (f i) colour) (suc (run_back colour f i n)) 0

-- on a line f of len pixels, the run of a colour that ends before pixel i, limit pixels at most
abbrev pub run_before : Bool → (ℕ → Bool) → ℕ → ℕ → ℕ
run_before colour f limit i = run_back colour f i (min limit i)

-- and the one that starts at pixel i
abbrev pub run_after : Bool → (ℕ → Bool) → ℕ → ℕ → ℕ → ℕ
run_after colour f len limit i = run colour f i (min limit (len - i))

-- how a run of a colour ended that the pixel `next` follows: where that pixel has the run's colour too, the limit ended it
abbrev pub end_by : Bool → Bool → End
end_by colour next = cond (beq next colour) Limit Change

-- how the run before pixel i ended: at the picture's edge where no pixel is left beyond it, else by the next one
unfoldable pub end_before : Bool → (ℕ → Bool) → ℕ → ℕ → End
end_before colour f limit i = let left = i - run_before colour f limit i in cond (eqb left 0) Edge (end_by colour (f (left - 1)))

-- and the run from pixel i on
unfoldable pub end_after : Bool → (ℕ → Bool) → ℕ → ℕ → ℕ → End
end_after colour f len limit i = let next = i + run_after colour f len limit i in cond (leb len next) Edge (end_by colour (f next))

-- both: how many pixels, and how it ended
abbrev pub limited_before : Bool → (ℕ → Bool) → ℕ → ℕ → Run
limited_before colour f limit i = record { count = run_before colour f limit i; end = end_before colour f limit i }

abbrev pub limited_after : Bool → (ℕ → Bool) → ℕ → ℕ → ℕ → Run
limited_after colour f len limit i = record { count = run_after colour f len limit i; end = end_after colour f len limit i }
