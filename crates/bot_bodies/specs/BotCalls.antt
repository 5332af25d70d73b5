-- The bodies of the calls of bots and on bots: all fields are read before the other rules are tried.
use Rattle.std.specs.Prelude.{[], IsTrue, Result, Ok, codes}
use Rattle.serde_json.specs.Data.{Data}
use Rattle.dimensions.specs.Alike.{same}
use Rattle.dimensions.specs.BotRules.{pool_of_bot}
use Rattle.task_props.specs.declared.prop_fault.PropFault.{PropFault}
use Rattle.swarm_model.specs.declared.pool_settings.PoolSettings.{PoolSettings}
use Rattle.swarm_model.specs.declared.request.Request.TheVariants as ask
use Rattle.swarm_model.specs.Fits.{fits}
use Rattle.swarm_model.specs.Bytes.{Carries}
use Rattle.bot_bodies.specs.declared.pool_request.PoolRequest.{PoolRequest}
use Rattle.json_fields.specs.Readings.{at, ◌>>=◌}
use Rattle.json_fields.specs.Fields.{text_at, required_text_at, number_at}
use Rattle.json_fields.specs.Pages.{limit_of}
use Rattle.bot_bodies.specs.Names.{name_at, optional_name_at}
use Rattle.bot_bodies.specs.BotFields.{bot_info_in, bot_info_by, event_of, message_of}

-- a bot comes to the pool of its dimensions
unfoldable pub handshake_in : Data → Result PoolRequest PropFault
handshake_in d = do
  name ← required_text_at (codes "bot_id") d
  text ← required_text_at (codes "session") d
  raw ← bot_info_in d
  bot ← name_at (codes "bot_id") name
  session ← name_at (codes "session") text
  info ← bot_info_by bot raw
  Ok (record { pool = pool_of_bot info.dims; request = ask.Handshake bot session info.dims info.quarantined })

-- a bot asks the pool of its dimensions what to do
unfoldable pub poll_in : Data → Result PoolRequest PropFault
poll_in d = do
  name ← required_text_at (codes "bot_id") d
  raw ← bot_info_in d
  bot ← name_at (codes "bot_id") name
  info ← bot_info_by bot raw
  Ok (record { pool = pool_of_bot info.dims; request = ask.Poll bot info.dims info.quarantined })

unfoldable pub claim_in : Data → Result PoolRequest PropFault
claim_in d = do
  pool ← required_text_at (codes "pool") d
  name ← required_text_at (codes "bot_id") d
  text ← required_text_at (codes "claim_id") d
  bot ← name_at (codes "bot_id") name
  claim ← name_at (codes "claim_id") text
  Ok (record { pool = pool; request = ask.Claim bot claim })

unfoldable pub event_in : Data → Result PoolRequest PropFault
event_in d = do
  pool ← required_text_at (codes "pool") d
  name ← required_text_at (codes "bot_id") d
  event ← required_text_at (codes "event") d
  text ← text_at (codes "message") d
  bot ← name_at (codes "bot_id") name
  kind ← at (codes "event") (event_of event)
  message ← at (codes "message") (message_of kind text)
  Ok (record { pool = pool; request = ask.Event bot kind message })

unfoldable pub terminate_in : Data → Result PoolRequest PropFault
terminate_in d = do
  pool ← required_text_at (codes "pool") d
  name ← required_text_at (codes "bot_id") d
  bot ← name_at (codes "bot_id") name
  Ok (record { pool = pool; request = ask.Terminate bot })

-- what is known of a bot
unfoldable pub get_bot_in : Data → Result PoolRequest PropFault
get_bot_in d = do
  pool ← required_text_at (codes "pool") d
  name ← required_text_at (codes "bot_id") d
  bot ← name_at (codes "bot_id") name
  Ok (record { pool = pool; request = ask.Bot bot })

-- a page of the bots of a pool, from the name that the last page ended with
unfoldable pub list_bots_in : Data → Result PoolRequest PropFault
list_bots_in d = do
  pool ← required_text_at (codes "pool") d
  number ← number_at (codes "limit") d
  text ← text_at (codes "cursor") d
  limit ← limit_of number
  after ← optional_name_at (codes "cursor") text
  Ok (record { pool = pool; request = ask.Bots limit after })

-- a pool of its name may be asked it
abbrev pub FitsNamed : PoolRequest → Type 0
FitsNamed a = (pool : PoolSettings) → IsTrue (same pool.name a.pool) → IsTrue (fits pool a.request)

-- it comes with no bytes
abbrev pub IsBare : PoolRequest → Type 0
IsBare a = Carries a.request []
