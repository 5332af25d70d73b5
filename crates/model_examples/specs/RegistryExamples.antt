-- Small rows of bots.
use Rattle.std.specs.Prelude.{ℕ, false, List, [], ◌∷◌, None, codes}
use Rattle.dimensions.specs.declared.dim_set.DimSet.{DimSet}
use Rattle.swarm_model.specs.declared.bot_row.BotRow.{BotRow}
use Rattle.swarm_model.specs.declared.pool_state.PoolState.{PoolState}
use Rattle.swarm_model.specs.Effects.{opening}
use Rattle.swarm_model.specs.Examples.{settings}
use Rattle.model_examples.specs.BotExamples.{has}

-- a bot of this number and name that is fit
abbrev pub bot : ℕ → List ℕ → BotRow
bot number name =
    record {
      no = number;
      name = name;
      session = codes "s";
      dims = has name;
      contact = 1000;
      streak = 0;
      quarantined = [];
      dead = false;
      terminating = false;
      task = None;
    }

-- two that didn't come in the order of their names
abbrev pub two_bots : List BotRow
two_bots = bot 1 (codes "b2") ∷ bot 2 (codes "b1") ∷ []

-- a pool that has them
abbrev pub pool_of_two : PoolState
pool_of_two = record (opening settings) { bots = two_bots }

-- what each bot of the pool has, and what the bot of a name alone has
abbrev pub any_bot : DimSet
any_bot = (codes "pool", codes "default") ∷ []

abbrev pub bot_called : List ℕ → DimSet
bot_called name = (codes "id", name) ∷ []
