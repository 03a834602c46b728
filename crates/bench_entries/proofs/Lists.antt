-- The refusal of a search, and then that of the stored list's writer. Assumes nothing.
use mathlib.Core.Path.{◌≡◌, sym, ap, ◌∙◌}
use mathlib.Core.List.{List}
use Prim.Native.Nat.{ℕ, ◌≤◌}
use lib.ListN.{length}
use borrow.Author.Tests.{le-ltb}
use Rattle.std.specs.Prelude.{Ok, Err}
use Rattle.lcr_core.specs.Outcome.{refusal_number, zero_side, large_side}
use Rattle.lcr_core.specs.declared.Refusal.{Refusal}
use Rattle.lcr_core.proofs.Checks.{first_passes, refused_first, passed_first}
use Rattle.finders.specs.declared.Finders.{Finders}
use Rattle.finders.specs.Search.{max_finders}
use Rattle.finders.specs.Answer.{find_refusal, finders_of, answer_of}
use Rattle.finders.proofs.Outcomes.{answer_refusal, answer_table}
use Rattle.finders.proofs.Theorems.{few_finders}
use Rattle.stored.specs.Stored.{many_finders, write_refusal}
use Rattle.bench_entries.specs.Entries.{list_checks, list_refusal}

module _ (bits : List ℕ) (w h len : ℕ) where
  pub list_refused : (refusal : Refusal) (n : ℕ) → Err refusal ≡ answer_of bits w h → n ≡ refusal_number refusal → n ≡ list_refusal bits w h len
  unfolding list_refusal find_refusal
  list_refused refusal n e q = q ∙ refused_first 4 (list_checks bits w h len) refusal (answer_refusal bits w h refusal e)

  pub list_written : (t : Finders) (n : ℕ) → Ok t ≡ answer_of bits w h → n ≡ write_refusal t w h len → n ≡ list_refusal bits w h len
  unfolding list_refusal find_refusal write_refusal many_finders
  list_written t n e q =
      let a = answer_table bits w h t e in
      let p1 = first_passes (zero_side w h) 0 _ a.0 in
      let p2 = first_passes (large_side w h) 1 _ p1.1 in
      let count : t.count ≡ length (finders_of bits w h) = ap (λ (t : Finders). t.count) a.1 in
      let few : length (finders_of bits w h) ≤ max_finders = few_finders bits w h in
      (rw (p1.0, p2.0, count, le-ltb max_finders (length (finders_of bits w h)) few) at q) ∙ passed_first 4 (list_checks bits w h len) (sym a.0)
