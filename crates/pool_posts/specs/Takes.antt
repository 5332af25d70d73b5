-- What a poster takes in.
use Rattle.std.specs.Prelude.{◌≡◌, List, ◌++◌}
use Rattle.swarm_model.specs.declared.entry.Entry.{Entry}
use Rattle.swarm_boards.specs.Posted.{Posted}

-- the first of the entries are pending behind those that were, and the rest is left
pub record TakesIn (old new : Posted) (entries rest : List Entry) : Type 0 where
  pub first : List Entry
  pub parts : entries ≡ first ++ rest
  pub takes : new ≡ record old { pending = old.pending ++ first }
