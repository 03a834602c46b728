-- For inner contracts and proofs. What is known of counts that a function need not finish.
use Rattle.std.specs.Prelude.{ℕ, ◌+◌, ◌≤◌, ◌<◌, ◌≡◌, cond, ◌⊎◌, Float}
use Rattle.std.specs.Float.Ieee.{lt}
use Rattle.alignment.specs.declared.template.Votes.{Votes}
use Rattle.alignment.specs.declared.template.Site.{Site}

-- r is v with one tap more, which may have been outside the picture
pub record Counted (v r : Votes) : Type 0 where
  pub kept : v.seen ≤ r.seen
  pub most : r.seen ≤ v.seen + 1
  pub darker : v.dark ≤ r.dark
  pub within : r.dark + v.seen ≤ v.dark + r.seen

-- r is the score s, or both are below least
abbrev pub UpTo : ℕ → ℕ → ℕ → Type 0
UpTo least s r = (r ≡ s) ⊎ ((r < least) × (s < least))

-- the least score by which a site with the squared offset d beats the best so far
unfoldable pub least_of : Site → Float → ℕ
least_of best d = cond (lt d best.offset2) best.score (best.score + 1)
