-- What stands of each world.
use Rattle.std.proofs.Common.{◌≡◌, ℕ, ◌≤◌, List, [], ◌∷◌, ◌++◌, Option, None, IfSome, Result, Ok, Err, OnOk, OnErr, refl, sym, subst}
use Rattle.dimensions.specs.declared.bot_dims.BotDims.{BotDims}
use Rattle.bot_core.specs.declared.action.Action.{Action}
use Rattle.bot_core.specs.declared.bot_state.BotState.{BotState}
use Rattle.bot_core.specs.Table.{action_of}
use Rattle.swarm_model.specs.declared.entry.Entry.{Entry}
use Rattle.swarm_model.specs.declared.pool_settings.PoolSettings.{PoolSettings}
use Rattle.swarm_model.specs.declared.pool_state.PoolState.{PoolState}
use Rattle.swarm_model.specs.BaseRules.{IsBase}
use Rattle.swarm_model.specs.Bases.{Base}
use Rattle.swarm_model.specs.Finding.{bot_named}
use Rattle.swarm_model.specs.MachineState.{IsHistory, MachineState}
use Rattle.pool_laws.proofs.Lists.{Among}
use Rattle.pool_laws.proofs.Lists.Among.{here}
use Rattle.bot_worlds.specs.declared.child_run.ChildRun.{ChildRun}
use Rattle.bot_worlds.specs.declared.sent.Got.{Got}
use Rattle.bot_worlds.specs.declared.sent.Sent.{Sent}
use Rattle.bot_worlds.specs.declared.turn.Turn.{Turn}
use Rattle.bot_worlds.specs.Invariant.{BotLog, IsRun, Stands, log_of}
use Rattle.bot_worlds.specs.Turns.{IsSettledFrom, Played, Turned}
use Rattle.bot_worlds.specs.TwoEnds.{IsStart}
use Rattle.bot_worlds.specs.World.{WorldState, asking_after, newest, request_by, sent_after, start_world}
use Rattle.bot_worlds.proofs.Turning.{settled_stands, turned_stands}

-- the command of the newest run was started once at most
newest_of : (l : BotLog) (runs : List ChildRun) → ((run : ChildRun) → Among run runs → IsRun l run) → IfSome (newest runs) (λ run. run.started ≤ 1)
newest_of l [] h = tt
newest_of l (run ∷ runs) h = (h run here).once

pub newest_once : (w : WorldState) → Stands w → IfSome (newest w.runs) (λ run. run.started ≤ 1)
newest_once w s = newest_of (log_of w) w.runs s.runs

-- what stands before a turn stands after it, also where memory was wanted
pub stands_after : {X E : Type 0} (old new : WorldState) (t : Turn) (r : Result X E) → Stands old → OnOk r (Turned old t new) → OnErr r (IsSettledFrom old new) → Stands new
stands_after old new t (Ok x) s turned settled = turned_stands old t new s turned
stands_after old new t (Err e) s turned settled = settled_stands old new s settled

-- one turn more
pub played_then : (old mid new : WorldState) (turns : List Turn) (t : Turn) → Played old turns mid → Turned mid t new → Played old (turns ++ t ∷ []) new
played_then old mid new [] t p d = (new, subst (λ (w : WorldState). Turned w t new) p d, refl)
played_then old mid new (x ∷ turns) t p d = (p.0, p.1, played_then p.0 mid new turns t p.2 d)

-- a machine whose rows have no bot of the name
pub is_start : (kept : MachineState) (name : List ℕ) → IsHistory kept → bot_named kept.pool name ≡ None → IsStart kept.start kept.log name
is_start kept name h unknown = record {
  base = subst (λ (s : PoolSettings). IsBase s kept.start.count kept.start.rows) (sym h.base.own) h.base;
  legal = h.legal;
  unknown = subst (λ (p : PoolState). bot_named p name ≡ None) h.replayed unknown;
}

-- the world of a bot that has begun, by its parts
pub is_begun : (start : Base) (log : List Entry) (name : List ℕ) (dims : BotDims) (bot : BotState) (action : Action) (request : Option Sent) (sent : List Sent) (got : List Got) (runs : List ChildRun) (pending : List ℕ) (asking : Option ℕ) →
    action ≡ action_of bot → request ≡ request_by name dims None [] action → sent ≡ sent_after request None [] → got ≡ [] → runs ≡ [] → pending ≡ [] → asking ≡ asking_after request bot.awaited None [] →
    ◌≡◌ {A = WorldState} (record { bot = bot; start = start; log = log; name = name; dims = dims; sent = sent; got = got; runs = runs; pending = pending; asking = asking }) (start_world start log name dims bot)
is_begun start log name dims bot action request sent got runs pending asking a q s g r p k = cc
