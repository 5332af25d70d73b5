-- The turns of the child: Start, Look and Signal.
use Rattle.std.specs.Prelude.{◌≡◌, ℕ, ◌-◌, List, ◌++◌, length, take, Option, Some, None, Result, Ok, Err}
use Rattle.bot_turns.specs.Types.{Properties, Failed, StartFault, Look, Signal, BotEvent, Hands}
use Rattle.sw_base.specs.declared.start_fault.StartFault.TheVariants as start
use Rattle.runners.specs.declared.answer.Look.TheVariants as look
use Rattle.runners.specs.declared.call.RunnerCall.TheVariants as call
use Rattle.runners.specs.Calls.{RunnerState, Performs, Signals, Looks}
use Rattle.bot_core.specs.declared.bot_event.BotEvent.TheVariants as event
use Rattle.bot_core.specs.RunChanges.{most_pending}
use Rattle.bot_turns.specs.ServerTurns.{OfRun}

-- ---- Start

-- None: there was no memory
abbrev pub start_event : Result (Unit {0}) StartFault → Option BotEvent
start_event (Ok done) = Some event.Started
start_event (Err start.Failed) = Some event.RunnerFailed
start_event (Err start.Memory) = None

-- the runner was to start the command of the run in its environment
pub record StartsChild (p : Properties) (e : BotEvent) (before after : RunnerState) : Type 0 where
  pub answer : Result (Unit {0}) StartFault
  pub starts : Performs answer before after (call.Start p.command p.env)
  pub event : start_event answer ≡ Some e

abbrev pub IsStartTurn : Hands → BotEvent → RunnerState → RunnerState → Type 0
IsStartTurn h e before after = OfRun h.run (λ run p. StartsChild p e before after)

-- ---- Look

abbrev pub look_event : Result Look Failed → BotEvent
look_event (Ok (look.Output n)) = event.Output n
look_event (Ok look.Quiet) = event.Quiet
look_event (Ok (look.Ended code)) = event.Ended code
look_event (Err failed) = event.RunnerFailed

-- the pending bytes with those of an output, which are at the front of the buffer
abbrev pub pending_after : Result Look Failed → List ℕ → List ℕ → List ℕ
pending_after (Ok (look.Output n)) into pending = pending ++ take n into
pending_after answer into pending = pending

-- A look with so much room. First the pending bytes are cut to those that the bot counts.
pub record IsLookTurn (room : ℕ) (e : BotEvent) (pending pending2 : List ℕ) (before after : RunnerState) : Type 0 where
  pub into : List ℕ
  pub answer : Result Look Failed
  pub size : length into ≡ room
  pub looks : Looks answer into before after
  pub event : e ≡ look_event answer
  pub bytes : pending2 ≡ pending_after answer into (take (most_pending - room) pending)

-- ---- Signal

abbrev pub signal_event : Result (Unit {0}) Failed → BotEvent
signal_event (Ok done) = event.Signalled
signal_event (Err failed) = event.RunnerFailed

pub record IsSignalTurn (signal : Signal) (e : BotEvent) (before after : RunnerState) : Type 0 where
  pub answer : Result (Unit {0}) Failed
  pub signals : Signals answer before after (call.Signal signal)
  pub event : e ≡ signal_event answer
