-- What stands in a log once a call is answered.
use Rattle.std.specs.Prelude.{◌≡◌, ℕ, Bool, IsTrue, List, Option, Some, None}
use Rattle.log_laws.specs.Types.{Properties, Chunk, Last, Entry, Reply}
use Rattle.swarm_model.specs.declared.entry.EntryKind.TheVariants as kind
use Rattle.swarm_model.specs.declared.request.Request.TheVariants as ask
use Rattle.swarm_model.specs.declared.reply.Reply.TheVariants as reply
use Rattle.swarm_model.specs.Bases.{Base}
use Rattle.swarm_model.specs.BaseRules.{AreBaseRows}
use Rattle.swarm_model.specs.Finding.{bot_named}
use Rattle.swarm_model.specs.Fits.{fits}
use Rattle.swarm_model.specs.History.{replay}
use Rattle.swarm_model.specs.Points.{Call, Growth, added, IsPoint, IsStopped}
use Rattle.swarm_model.specs.Soundness.{IsSound}
use Rattle.log_laws.specs.Names.{name_of}
use Rattle.log_laws.specs.Runs.{HasEntry}
use Rattle.log_laws.specs.Replies.{with_chunk}

-- An update that a call adds is the call's own request. A claim that is answered with a run stands in the log, and
-- so does an update for a chunk that is taken, where the base has no bot of the name.
pub record TellsCall (start : Base) (call : Call) (new : List Entry) (growth : Growth) (answered : Reply) : Type 0 where
  pub own : (b t try_no : ℕ) (chunk : Option Chunk) (last : Option Last) → HasEntry (added growth) (kind.Update b t try_no chunk last)
      → (name : List ℕ) × (call.request ≡ ask.Update name t try_no chunk last) × (name_of (replay start.rows new) b ≡ Some name)
  pub run : (name claim : List ℕ) (t try_no slice tolerance : ℕ) (properties : Properties) → bot_named start.rows name ≡ None
      → call.request ≡ ask.Claim name claim → answered ≡ reply.Run t try_no slice tolerance properties
      → (b : ℕ) × (name_of (replay start.rows new) b ≡ Some name) × HasEntry new (kind.Claim b t claim)
  pub taken : (name : List ℕ) (t try_no : ℕ) (chunk : Chunk) (must_stop : Bool) → bot_named start.rows name ≡ None
      → call.request ≡ with_chunk name t try_no chunk → answered ≡ reply.Updated must_stop
      → (b : ℕ) × (name_of (replay start.rows new) b ≡ Some name) × (last : Option Last) × HasEntry new (kind.Update b t try_no (Some chunk) last)

abbrev pub CallsAreTold : Type 0
CallsAreTold =
    (start : Base) (call : Call) (old new : List Entry) (growth : Growth) (answered : Reply) → IsSound start.rows → AreBaseRows start.rows
    → IsTrue (fits start.rows.settings call.request) → IsPoint start call old new growth answered → TellsCall start call new growth answered

-- a call that stopped adds no update
abbrev pub StopsAddNoUpdate : Type 0
StopsAddNoUpdate =
    (start : Base) (call : Call) (old new : List Entry) (growth : Growth) (is_full : Bool) (b t try_no : ℕ) (chunk : Option Chunk) (last : Option Last)
    → IsStopped start call old new growth is_full → HasEntry (added growth) (kind.Update b t try_no chunk last) → ⊥
