-- What holds between the two ends, at any time.
use Rattle.std.specs.Prelude.{◌≡◌, ◌⊎◌, ℕ, ◌+◌, ◌≤◌, ◌<◌, ◌^◌, Bool, true, List, [], ◌∷◌, ◌++◌, length, take, drop, Option, Some, None, IfSome, ⊤, slice_get}
use Rattle.sha2.specs.Sha256.{sha256}
use Rattle.bot_worlds.specs.Types.{BotLimits, BotState, Properties, Chunk, Last, Entry, PoolState, Reply, Request}
use Rattle.bot_core.specs.Bounds.{InBounds}
use Rattle.bot_core.specs.Output.{OutputEvent, OutputSteps, output_start}
use Rattle.bot_core.specs.Table.{phase_action}
use Rattle.bot_requests.specs.Bodies.{claim_name}
use Rattle.swarm_model.specs.declared.entry.EntryKind.TheVariants as kind
use Rattle.swarm_model.specs.declared.reply.Reply.TheVariants as reply
use Rattle.swarm_model.specs.declared.request.Request.TheVariants as ask
use Rattle.swarm_model.specs.BaseRules.{IsBase}
use Rattle.swarm_model.specs.Bases.{Base}
use Rattle.swarm_model.specs.Before.{bots_before}
use Rattle.swarm_model.specs.Claims.{claimants}
use Rattle.swarm_model.specs.Finding.{bot_named}
use Rattle.swarm_model.specs.History.{IsLegal, replay}
use Rattle.pool_laws.proofs.Lists.{Among}
use Rattle.log_laws.specs.Names.{name_of}
use Rattle.log_laws.specs.Runs.{HasEntry}
use Rattle.bot_worlds.specs.declared.child_run.ChildRun.{ChildRun}
use Rattle.bot_worlds.specs.declared.sent.Got.{Got}
use Rattle.bot_worlds.specs.declared.sent.Sent.{Sent}
use Rattle.bot_worlds.specs.Phases.{claims, is_early, is_live, is_over}
use Rattle.bot_worlds.specs.World.{WorldState, request_of}

-- ---- what the pool knows of the bot

-- the log of a pool, and a bot that is looked for in it
pub record BotLog : Type 0 where
  pub start : Base
  pub log : List Entry
  pub name : List ℕ

abbrev pub log_of : WorldState → BotLog
log_of w = record { start = w.start; log = w.log; name = w.name }

abbrev pub rows_by : BotLog → PoolState
rows_by l = replay l.start.rows l.log

-- the bot of this number has the name
abbrev pub IsNumber : BotLog → ℕ → Type 0
IsNumber l b = name_of (rows_by l) b ≡ Some l.name

-- the bots that claimed a task, in their order: those of the base first
abbrev pub claimed_by : BotLog → ℕ → List ℕ
claimed_by l t = bots_before l.start.rows t ++ claimants t l.log

-- this bot claimed the task as the one of this try, from 1
pub record IsTryOf (l : BotLog) (t n b : ℕ) : Type 0 where
  pub before : ℕ
  pub count : n ≡ before + 1
  pub is : slice_get (claimed_by l t) before ≡ Some b

-- the log has a claim of the bot of this task and try, under this id
pub record HasClaim (l : BotLog) (t n : ℕ) (claim : List ℕ) : Type 0 where
  pub b : ℕ
  pub number : IsNumber l b
  pub entry : HasEntry l.log (kind.Claim b t claim)
  pub is_try : IsTryOf l t n b

-- the log has this report of the bot
pub record HasReport (l : BotLog) (t n : ℕ) (chunk : Option Chunk) (last : Option Last) : Type 0 where
  pub b : ℕ
  pub number : IsNumber l b
  pub entry : HasEntry l.log (kind.Update b t n chunk last)

-- ---- output

-- the chunk has the size and the digest of the bytes of the output at its start
pub record IsPiece (wrote : List ℕ) (c : Chunk) : Type 0 where
  pub within : c.start + c.size ≤ length wrote
  pub digest : c.digest ≡ sha256 (take c.size (drop c.start wrote))

-- the log has the output of a run up to a place
abbrev pub IsReportedTo : BotLog → ℕ → ℕ → ℕ → Type 0
IsReportedTo l t n end = (end ≡ 0) ⊎ ((c : Chunk) × (last : Option Last) × HasReport l t n (Some c) last × (c.start + c.size ≡ end))

abbrev pub Reaches : BotLog → ℕ → ℕ → ℕ → Option Chunk → Type 0
Reaches l t n end None = IsReportedTo l t n end
Reaches l t n end (Some c) = c.start + c.size ≡ end

-- a report carries a piece of the output, and a last one that drops nothing reaches its end
pub record CarriesPiece (l : BotLog) (wrote : List ℕ) (t n : ℕ) (chunk : Option Chunk) (last : Option Last) : Type 0 where
  pub piece : IfSome chunk (IsPiece wrote)
  pub whole : IfSome last (λ report. report.dropped ≡ 0 → Reaches l t n (length wrote) chunk)

-- it does so for one of these runs
pub record CarriesOne (l : BotLog) (runs : List ChildRun) (t n : ℕ) (chunk : Option Chunk) (last : Option Last) : Type 0 where
  pub run : ChildRun
  pub among : Among run runs
  pub task : run.task ≡ t
  pub try_is : run.try_no ≡ n
  pub carries : CarriesPiece l run.wrote t n chunk last

pub record CarriesNewest (l : BotLog) (over : Bool) (run : ChildRun) (t n : ℕ) (chunk : Option Chunk) (last : Option Last) : Type 0 where
  pub task : run.task ≡ t
  pub try_is : run.try_no ≡ n
  pub carries : CarriesPiece l run.wrote t n chunk last
  pub closed : IfSome last (λ report. over ≡ true)

-- for the newest run, whose output is over where this is the last report; or for an earlier one
abbrev pub CarriesSome : BotLog → Bool → List ChildRun → ℕ → ℕ → Option Chunk → Option Last → Type 0
CarriesSome l over [] t n chunk last = ⊥
CarriesSome l over (run ∷ runs) t n chunk last = CarriesNewest l over run t n chunk last ⊎ CarriesOne l runs t n chunk last

-- ---- runs

pub record IsRun (l : BotLog) (run : ChildRun) : Type 0 where
  pub claimed : HasClaim l run.task run.try_no run.claim
  pub once : run.started ≤ 1
  pub idle : run.started ≡ 0 → run.wrote ≡ []

-- an id before another
abbrev pub IsBefore : ℕ → ℕ → ℕ → ℕ → Type 0
IsBefore x y session claim = (x < session) ⊎ ((x ≡ session) × (y < claim))

-- the claims of the runs, from the newest on, each before the one after it, all before this id
abbrev pub AreBefore : ℕ → ℕ → ℕ → List ChildRun → Type 0
AreBefore first session claim [] = ⊤
AreBefore first session claim (run ∷ runs) =
    (x : ℕ) × (y : ℕ) × (run.claim ≡ claim_name first x y) × IsBefore x y session claim × (x < 2 ^ 64) × (y < 2 ^ 64) × AreBefore first x y runs

-- all up to the bot's id, and before it where it asks for it
abbrev pub AreNumbered : BotState → List ChildRun → Type 0
AreNumbered s runs = AreBefore s.first s.session (s.claim + 1) runs × (claims s.phase ≡ true → AreBefore s.first s.session s.claim runs)

abbrev pub wrote_of : List ChildRun → List ℕ
wrote_of [] = []
wrote_of (run ∷ runs) = run.wrote

-- what the bot keeps of the newest run: the log has its output up to the length sent, and the phase tells whether it was started
pub record IsNewest (l : BotLog) (s : BotState) (run : ChildRun) : Type 0 where
  pub sent : IsReportedTo l run.task run.try_no s.run.sent
  pub early : is_early s.phase ≡ true → run.started ≡ 0
  pub live : is_live s.phase ≡ true → run.started ≡ 1

abbrev pub HasNewest : BotLog → BotState → List ChildRun → Type 0
HasNewest l s [] = (s.run.sent ≡ 0) × (is_over s.phase ≡ true)
HasNewest l s (run ∷ runs) = IsNewest l s run

-- the bot came here by its table, with this output
pub record IsBot (s : BotState) (pending wrote : List ℕ) : Type 0 where
  pub limits : BotLimits
  pub events : List OutputEvent
  pub steps : OutputSteps (output_start limits) events (record { bot = s; waiting = pending; wrote = wrote })

-- ---- what was sent and got

-- what a reply says of the bot's request is in the log
pub record IsRight (l : BotLog) (request : Request) (answered : Reply) : Type 0 where
  pub run : (claim : List ℕ) (t n slice tolerance : ℕ) (p : Properties) → request ≡ ask.Claim l.name claim → answered ≡ reply.Run t n slice tolerance p → HasClaim l t n claim
  pub taken : (t n : ℕ) (c : Chunk) (must_stop : Bool) → request ≡ ask.Update l.name t n (Some c) None → answered ≡ reply.Updated must_stop →
      (last : Option Last) × HasReport l t n (Some c) last

-- the present request is that of the bot's phase
abbrev pub IsAsking : WorldState → ℕ → Type 0
IsAsking w place = (q : Sent) × (slice_get w.sent place ≡ Some q) × (request_of w.name w.dims w.runs w.pending (phase_action w.bot w.bot.phase) ≡ Some q)

-- a report that was sent
abbrev pub IsReport : WorldState → ℕ → ℕ → Option Chunk → Option Last → Sent → Type 0
IsReport w t n chunk last s = s.request ≡ ask.Update w.name t n chunk last

-- ---- all of it

pub record Stands (w : WorldState) : Type 0 where
  pub base : IsBase w.start.rows.settings w.start.count w.start.rows
  pub legal : IsLegal w.start.rows w.log
  pub stranger : bot_named w.start.rows w.name ≡ None
  pub bot : IsBot w.bot w.pending (wrote_of w.runs)
  pub limit : w.bot.limits.steps < 2 ^ 64
  pub bounds : InBounds w.bot
  pub numbered : AreNumbered w.bot w.runs
  pub newest : HasNewest (log_of w) w.bot w.runs
  pub runs : (run : ChildRun) → Among run w.runs → IsRun (log_of w) run
  pub asking : IfSome w.asking (IsAsking w)
  pub sent : (s : Sent) → Among s w.sent → (t n : ℕ) (chunk : Option Chunk) (last : Option Last) → IsReport w t n chunk last s →
      CarriesSome (log_of w) (is_over w.bot.phase) w.runs t n chunk last
  pub got : (g : Got) → Among g w.got → (q : Sent) → slice_get w.sent g.sent ≡ Some q → IsRight (log_of w) q.request g.reply
  pub bounded : (g : Got) → Among g w.got → g.sent < length w.sent
  pub log : (t n : ℕ) (chunk : Option Chunk) (last : Option Last) → HasReport (log_of w) t n chunk last →
      (s : Sent) × Among s w.sent × IsReport w t n chunk last s
