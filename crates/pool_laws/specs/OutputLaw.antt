-- What the parts of an output are.
use Rattle.std.specs.Prelude.{◌≡◌, ℕ, List, Some}
use Rattle.pool_laws.specs.Types.{TaskState, PoolSettings, PoolState, TaskRow, Entry, Part}
use Rattle.swarm_model.specs.declared.request.Request.TheVariants as ask
use Rattle.swarm_model.specs.declared.reply.Reply.TheVariants as reply
use Rattle.swarm_model.specs.Answers.{answer, named_task, chunks_shown}
use Rattle.swarm_model.specs.Effects.{opening}
use Rattle.swarm_model.specs.History.{replay, IsCaused}
use Rattle.swarm_model.specs.Output.{AreBytesFrom}

-- the parts that a pool tells of an output are the bytes that were asked for of the chunks that are kept
abbrev pub TellsOutput : PoolState → Type 0
TellsOutput s =
    (who : List ℕ) (moment pass number try_no offset most : ℕ) (task : TaskRow) (state : TaskState) (parts : List Part) → named_task s number try_no ≡ Some task
    → (answer s who moment pass (ask.Stdout number try_no offset most)).reply ≡ reply.Stdout state parts
    → AreBytesFrom offset most (chunks_shown s task) parts

abbrev pub OutputIsTold : Type 0
OutputIsTold = (settings : PoolSettings) (log : List Entry) → IsCaused (opening settings) log → TellsOutput (replay (opening settings) log)
