-- What a request does to the pool of a world, to which nobody else writes.
use Rattle.std.specs.Prelude.{◌≡◌, ◌⊎◌, ℕ, Bool, true, false, ◌==◌, ◌&&◌, List, [], length, Some, None}
use Rattle.sha2.specs.Sha256.{sha256}
use Rattle.dimensions.specs.Alike.{same}
use Rattle.bot_worlds.specs.Types.{Entry, PoolState, Reply, Request}
use Rattle.swarm_model.specs.declared.pool_settings.PoolSettings.{PoolSettings}
use Rattle.swarm_model.specs.declared.reply.Reply.TheVariants as reply
use Rattle.swarm_model.specs.declared.request.Request.TheVariants as ask
use Rattle.swarm_model.specs.declared.rule.Rule.TheVariants as rule
use Rattle.swarm_model.specs.Bases.{Base}
use Rattle.swarm_model.specs.Fits.{fits}
use Rattle.swarm_model.specs.History.{replay}
use Rattle.swarm_model.specs.Points.{Call, Growth, IsPoint, IsStopped}
use Rattle.bot_worlds.specs.World.{WorldState}

-- the rows of the world's pool
abbrev pub rows_of : WorldState → PoolState
rows_of w = replay w.start.rows w.log

abbrev pub settings_of : WorldState → PoolSettings
settings_of w = w.start.rows.settings

-- the bytes are those that come with the request
abbrev pub carries : Request → List ℕ → Bool
carries (ask.PutBlob named actual size) bytes = same actual (sha256 bytes) && (size == length bytes)
carries (ask.Update bot task try_no (Some chunk) last) bytes = same chunk.digest (sha256 bytes) && (chunk.size == length bytes)
carries request bytes = true

-- the pool may be asked so
abbrev pub may_ask : WorldState → Request → List ℕ → Bool
may_ask w request bytes = fits (settings_of w) request && carries request bytes

-- a bot of this name asks as a bot
abbrev pub is_of_bot : List ℕ → Request → Bool
is_of_bot name (ask.Handshake bot session dims quarantined) = same bot name
is_of_bot name (ask.Poll bot dims quarantined) = same bot name
is_of_bot name (ask.Claim bot claim) = same bot name
is_of_bot name (ask.Event bot which message) = same bot name
is_of_bot name (ask.Update bot task try_no chunk last) = same bot name
is_of_bot name request = false

-- a call of the only pass, which has number 0 and has seen no other log
abbrev pub call_by : List ℕ → ℕ → Request → Call
call_by who moment request = record { pass = 0; caller = who; moment = moment; after = None; request = request }

-- What was due is settled, and the request is answered; or the log has no room for the entry that comes next, and the
-- answer says so.
pub record IsCalled (start : Base) (call : Call) (old new : List Entry) (answered : Reply) : Type 0 where
  pub growth : Growth
  pub no_others : growth.others ≡ []
  pub done : IsPoint start call old new growth answered
      ⊎ (IsStopped start call old new growth true × (answered ≡ reply.No rule.LogFull))
