-- The world that a machine and the bot's end make.
use Rattle.std.specs.Prelude.{◌≡◌, List}
use Rattle.bot_core.specs.Table.{action_of}
use Rattle.swarm_model.specs.declared.entry.Entry.{Entry}
use Rattle.swarm_model.specs.Bases.{Base}
use Rattle.swarm_model.specs.MachineState.{MachineState}
use Rattle.pool_loading.specs.Records.{AreFilled}
use Rattle.bot_worlds.specs.World.{WorldState}
use Rattle.bot_worlds.specs.Invariant.{Stands}
use Rattle.two_ends.specs.declared.bot_end.BotEnd.{BotEnd}

-- the bot's end beside a log that begins there
abbrev pub world_with : Base → List Entry → BotEnd → WorldState
world_with start log end =
    record {
      bot = end.bot;
      start = start;
      log = log;
      name = end.name;
      dims = end.dims;
      sent = end.sent.items;
      got = end.got.items;
      runs = end.runs.items;
      pending = end.pending.items;
      asking = end.asking;
    }

-- the bot's end beside the log of a machine
abbrev pub world_of : MachineState → BotEnd → WorldState
world_of kept end = world_with kept.start kept.log end

-- what holds of a world at any time
pub record IsWorld (kept : MachineState) (end : BotEnd) : Type 0 where
  pub stands : Stands (world_of kept end)
  pub filled : AreFilled kept
  -- the action that is kept is the bot's
  pub action : end.action ≡ action_of end.bot
