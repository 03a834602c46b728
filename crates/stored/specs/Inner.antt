-- For inner contracts and proofs. What the reader's check hands on.
use Rattle.std.specs.Prelude.{ℕ, List}
use Rattle.stored.specs.declared.check.Head.{Head}
use Rattle.stored.specs.Stored.{form_in, head_size, count_in}

-- the head of a list, in the form that its first byte names
abbrev pub head_in : List ℕ → Head
head_in bytes = record { size = head_size (form_in bytes); most = (form_in bytes).most; count = count_in bytes }
