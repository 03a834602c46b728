-- For inner contracts and proofs. What inner functions ask of their callers.
use Rattle.std.specs.Prelude.{◌<◌, List, length}
use Rattle.lcr_core.specs.declared.finder.Finder.{Finder}
use Rattle.ranking.specs.declared.Triple.{Triple}

-- the places of a triple are those of finders
pub record Within (fs : List Finder) (t : Triple) : Type 0 where
  pub i_in : t.i < length fs
  pub j_in : t.j < length fs
  pub k_in : t.k < length fs
