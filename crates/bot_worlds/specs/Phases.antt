-- Phases of a bot, by what they tell of its present run.
use Rattle.std.specs.Prelude.{Bool, true, false}
use Rattle.bot_core.specs.declared.bot_state.Phase.{Phase}
use Rattle.bot_core.specs.declared.bot_state.Phase.TheVariants as phase

-- the bot asks for a run
abbrev pub claims : Phase → Bool
claims phase.Claim = true
claims p = false

-- the command of the present run was not started
abbrev pub is_early : Phase → Bool
is_early phase.Prepare = true
is_early phase.Start = true
is_early p = false

-- it was, and may still write
abbrev pub is_live : Phase → Bool
is_live phase.Look = true
is_live (phase.Signal signal) = true
is_live phase.Send = true
is_live phase.Upload = true
is_live p = false

-- no output of the present run comes any more
abbrev pub is_over : Phase → Bool
is_over phase.LastSend = true
is_over phase.CleanUp = true
is_over phase.Handshake = true
is_over phase.Poll = true
is_over phase.Claim = true
is_over (phase.Stop why) = true
is_over p = false
