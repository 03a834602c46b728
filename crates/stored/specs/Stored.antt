-- To be believed. The stored list of a picture's finders, its reader and its writer (document 01, "The eight refusal numbers", last paragraph; document 02,
-- N9: "The stored list gets form 2, with a two-byte count and the rest as before, so its length is 7 + 16 × count. Form 1 is still read, up to its 128, and
-- the same finders come out of it; the writer makes form 2 only").
use Rattle.std.specs.Prelude.{ℕ, ◌+◌, ◌*◌, Bool, cond, not, ◌||◌, List, [], ◌∷◌, ◌++◌, eqb, ltb, length, get_or, Result}
use Rattle.std.specs.Float.{binary32}
use Rattle.std.specs.Float.Ieee.{of_bits}
use Rattle.lists.specs.Lists.{tabulate, flat_map}
use Rattle.lcr_core.specs.Outcome.{Check, first_of, side_checks}
use Rattle.lcr_core.specs.Answer.{checked}
use Rattle.lcr_core.specs.declared.Refusal.{Refusal}
use Rattle.lcr_core.specs.declared.Refusal.TheVariants.{ShortOutput, BadList}
use Rattle.little_endian.specs.Bytes.{bytes_le, single_bytes, read_le}
use Rattle.lcr_core.specs.declared.finder.Finder.{Finder}
use Rattle.finders.specs.declared.Finders.{Finders}
use Rattle.finders.specs.Search.{max_finders}
use Rattle.finders.specs.Answer.{finders_table}
use Rattle.stored.specs.declared.Stored.{Stored}

-- ---- the two forms, all numbers little-endian
-- a form: its first byte, how many bytes its count has, and how many finders it has at most
pub record Form : Type 0 where
  pub byte : ℕ
  pub wide : ℕ
  pub most : ℕ

-- form 1, which is only read
abbrev pub form_one : Form
form_one = record { byte = 1; wide = 1; most = 128 }

-- form 2, which the writer makes
abbrev pub form_two : Form
form_two = record { byte = 2; wide = 2; most = max_finders }

-- how many bytes stand before the pairs: 6 in form 1, 7 in form 2
abbrev pub head_size : Form → ℕ
head_size f = 5 + f.wide

-- form byte, width and height of two bytes each, and the count
abbrev pub head_bytes : Form → ℕ → ℕ → ℕ → List ℕ
head_bytes f width height count = f.byte ∷ (bytes_le 2 width ++ (bytes_le 2 height ++ bytes_le f.wide count))

-- a finder's pair (x, y): each number four bytes, floats as their bits
abbrev pub place_bytes : Finder → List ℕ
place_bytes f = single_bytes f.x ++ single_bytes f.y

-- a finder's pair (module, confirmations)
abbrev pub module_bytes : Finder → List ℕ
module_bytes f = single_bytes f.«module» ++ bytes_le 4 f.confirmations

-- the whole list in a form: its head, then count pairs (x, y), then count pairs (module, confirmations)
unfoldable pub stored_in : Form → ℕ → ℕ → List Finder → List ℕ
stored_in f width height fs = head_bytes f width height (length fs) ++ (flat_map place_bytes fs ++ flat_map module_bytes fs)

-- its length: 6 + 16 × count in form 1, 7 + 16 × count in form 2
abbrev pub size_in : Form → ℕ → ℕ
size_in f count = head_size f + 16 * count

-- ---- the reader
-- whether the first byte names no form
abbrev pub no_form : List ℕ → Bool
no_form bytes = not (eqb (get_or bytes 0 0) form_one.byte || eqb (get_or bytes 0 0) form_two.byte)

-- the form that it names; form 1 too where it names none, which `bad_head` refuses
abbrev pub form_in : List ℕ → Form
form_in bytes = cond (eqb (get_or bytes 0 0) form_two.byte) form_two form_one

-- what stands in the head: width, height and count
abbrev pub width_in : List ℕ → ℕ
width_in bytes = read_le 2 bytes 1

abbrev pub height_in : List ℕ → ℕ
height_in bytes = read_le 2 bytes 3

abbrev pub count_in : List ℕ → ℕ
count_in bytes = read_le (form_in bytes).wide bytes 5

-- finder k of so many, from its two pairs
unfoldable pub stored_finder : Form → List ℕ → ℕ → ℕ → Finder
stored_finder f bytes count k =
    let places = head_size f + 8 * k in
    let modules = head_size f + 8 * count + 8 * k in
    record {
      x = of_bits binary32 (read_le 4 bytes places);
      y = of_bits binary32 (read_le 4 bytes (places + 4));
      «module» = of_bits binary32 (read_le 4 bytes modules);
      confirmations = read_le 4 bytes (modules + 4);
    }

-- refused by 8: another form, or fewer bytes than the form's head has
unfoldable pub bad_head : List ℕ → Bool
bad_head bytes = no_form bytes || ltb (length bytes) (head_size (form_in bytes))

-- refused by 8: more finders than the form has at most
unfoldable pub many_finders : Form → ℕ → Bool
many_finders f count = ltb f.most count

-- refused by 8: that, or a length that isn't the form's for so many
unfoldable pub bad_length : Form → ℕ → ℕ → Bool
bad_length f len count = many_finders f count || not (eqb len (size_in f count))

-- in this order: 8, 1, 2, 8
abbrev pub read_checks : List ℕ → List Check
read_checks bytes =
    record { refuses = bad_head bytes; refusal = BadList }
    ∷ (side_checks (width_in bytes) (height_in bytes)
    ++ (record { refuses = bad_length (form_in bytes) (length bytes) (count_in bytes); refusal = BadList }
    ∷ []))

-- the number of the first that refuses
unfoldable pub read_refusal : List ℕ → ℕ
read_refusal bytes = first_of (read_checks bytes)

-- what the list holds
abbrev pub list_in : List ℕ → Stored
list_in bytes =
    let count = count_in bytes in
    record { width = width_in bytes; height = height_in bytes; finders = finders_table (tabulate count (stored_finder (form_in bytes) bytes count)) }

-- `read_list`: that, or the first refusal
unfoldable pub read_of : List ℕ → Result Stored Refusal
read_of bytes = checked (read_checks bytes) (list_in bytes)

-- ---- the writer
-- the list that it makes: form 2
abbrev pub stored_bytes : ℕ → ℕ → List Finder → List ℕ
stored_bytes width height fs = stored_in form_two width height fs

-- its length
abbrev pub size_of : ℕ → ℕ
size_of count = size_in form_two count

-- refused by 5: an output of len bytes is too short
unfoldable pub short_output : ℕ → ℕ → Bool
short_output len count = ltb len (size_of count)

-- in this order: 1, 2, 8, 5
abbrev pub write_checks : ℕ → ℕ → ℕ → ℕ → List Check
write_checks count width height len =
    side_checks width height
    ++ (record { refuses = many_finders form_two count; refusal = BadList }
    ∷ record { refuses = short_output len count; refusal = ShortOutput }
    ∷ [])

-- `write_list`: the number of the first that refuses, for a table of finders
unfoldable pub write_refusal : Finders → ℕ → ℕ → ℕ → ℕ
write_refusal t width height len = first_of (write_checks t.count width height len)
