-- To be believed. `find_finders` (document 01, "The eight refusal numbers": 1, 2, 4, "then 6, given if and only if a confirmed hit falls within no held
-- finder while 128 are held", 1,000 by document 02, N9: "refusal 6 is then for the 1,001st"; "A refusal gives its number with every other field zero").
use Rattle.std.specs.Prelude.{ℕ, Bool, true, false, List, [], ◌∷◌, ◌++◌, length, take, Result, Ok, Err}
use Rattle.lists.specs.Lists.{padded}
use Rattle.lcr_core.specs.Outcome.{Check, first_of}
use Rattle.lcr_core.specs.Answer.{checked}
use Rattle.lcr_core.specs.declared.Refusal.{Refusal}
use Rattle.lcr_core.specs.declared.Refusal.TheVariants.{FullTable}
use Rattle.binary.specs.Refusal.{bits_checks}
use Rattle.finders.specs.Held.{Held, held, over}
use Rattle.finders.specs.Search.{max_finders, found}
use Rattle.finders.specs.Rank.{by_confirmations}
use Rattle.lcr_core.specs.declared.finder.Finder.{Finder}
use Rattle.lcr_core.specs.Finder.{zero_finder}
use Rattle.finders.specs.declared.Finders.{Finders}

-- a table that holds a list: zero beyond the count
abbrev pub finders_table : List Finder → Finders
finders_table fs = record { count = length fs; table = padded max_finders zero_finder fs }

-- the finders that a table holds
abbrev pub held_in : Finders → List Finder
held_in t = take t.count t.table

-- whether there was one finder too many
abbrev pub is_over : Held → Bool
is_over over = true
is_over (held fs) = false

-- the finders, none where there was one too many
abbrev pub held_list : Held → List Finder
held_list over = []
held_list (held fs) = fs

-- 1, 2, 4 and 6, in this order, where a search of a picture of len bytes ends with s
abbrev pub find_checks : ℕ → ℕ → ℕ → Held → List Check
find_checks len width height s = bits_checks len width height ++ (record { refuses = is_over s; refusal = FullTable } ∷ [])

-- the number of the first that refuses
abbrev pub refusal_after : ℕ → ℕ → ℕ → Held → ℕ
refusal_after len width height s = first_of (find_checks len width height s)

unfoldable pub find_refusal : List ℕ → ℕ → ℕ → ℕ
find_refusal bits width height = refusal_after (length bits) width height (found bits width height)

-- the finders of a picture: those that are held at the end, most confirmed first
abbrev pub finders_after : Held → List Finder
finders_after s = by_confirmations (held_list s)

abbrev pub finders_of : List ℕ → ℕ → ℕ → List Finder
finders_of bits width height = finders_after (found bits width height)

-- the first refusal, or else the finders
abbrev pub answer_after : ℕ → ℕ → ℕ → Held → Result Finders Refusal
answer_after len width height s = checked (find_checks len width height s) (finders_table (finders_after s))

-- `find_finders`
unfoldable pub answer_of : List ℕ → ℕ → ℕ → Result Finders Refusal
answer_of bits width height = answer_after (length bits) width height (found bits width height)

-- the finders of an answer, none after a refusal
abbrev pub finders_in : Result Finders Refusal → Finders
finders_in (Ok finders) = finders
finders_in (Err refusal) = finders_table []
