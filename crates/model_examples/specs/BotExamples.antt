-- A pool with bots, from one request to the next.
use Rattle.std.specs.Prelude.{ℕ, Bool, List, [], ◌∷◌, ◌++◌, Option, codes}
use Rattle.std.specs.List.{fold}
use Rattle.std.specs.Option.{option_map}
use Rattle.dimensions.specs.declared.bot_dims.BotDims.{BotDims}
use Rattle.model_examples.specs.Types.{NewTask, PoolSettings, PoolState, TaskState, Request, Reply, Answer}
use Rattle.swarm_model.specs.declared.request.Request.TheVariants as ask
use Rattle.swarm_model.specs.Finding.{task_of, bot_of}
use Rattle.swarm_model.specs.Effects.{opening}
use Rattle.swarm_model.specs.Answers.{answer}
use Rattle.swarm_model.specs.Examples.{settings}
use Rattle.model_examples.specs.Examples.{settle_one, with_answer}

-- a pool, and what it answered so far
pub record Script : Type 0 where
  pub pool : PoolState
  pub replies : List Reply

abbrev pub settle : ℕ → PoolState → PoolState
settle moment s = settle_one moment (settle_one moment (settle_one moment s))

abbrev pub answered_by : Script → PoolState → Answer → Script
answered_by script s a = record { pool = with_answer s a; replies = script.replies ++ a.reply ∷ [] }

-- a request at a moment, once what is due is settled
abbrev pub step : Script → ℕ × Request → Script
step script asked =
    answered_by script (settle asked.0 script.pool) (answer (settle asked.0 script.pool) (codes "ana") asked.0 0 asked.1)

abbrev pub from : PoolSettings → List (ℕ × Request) → Script
from settings asked = fold step (record { pool = opening settings; replies = [] }) asked

abbrev pub script : List (ℕ × Request) → Script
script asked = from settings asked

-- what a bot has: its pool and its name
abbrev pub has : List ℕ → BotDims
has name = (codes "id", name ∷ []) ∷ (codes "pool", codes "default" ∷ []) ∷ []

abbrev pub greets : List ℕ → List ℕ → Request
greets name session = ask.Handshake name session (has name) []

abbrev pub polls : List ℕ → Request
polls name = ask.Poll name (has name) []

abbrev pub claims : List ℕ → List ℕ → Request
claims name id = ask.Claim name id

-- how a bot stands: whether it is dead, whether it is to end, and its run
abbrev pub stands : Script → ℕ → Option (Bool × (Bool × Option ℕ))
stands c number = option_map (λ bot. (bot.dead, (bot.terminating, bot.task))) (bot_of c.pool number)

-- the state of a task, and the place of its slice
abbrev pub comes_to : Script → ℕ → Option (TaskState × ℕ)
comes_to c number = option_map (λ task. (task.state, task.slice)) (task_of c.pool number)

-- a task with another tolerance of silence
abbrev pub with_tolerance : ℕ → NewTask → NewTask
with_tolerance secs request = record request { bot_ping_tolerance_secs = secs }
