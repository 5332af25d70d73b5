-- What the replies of the calls on bots tell.
use Rattle.std.specs.Prelude.{ℕ, Bool, List, [], ◌∷◌, Option, Result, Ok, codes}
use Rattle.serde_json.specs.Data.{Data}
use Rattle.server_calls.specs.Types.{PropFault, BotView}
use Rattle.swarm_model.specs.declared.reply.Reply.TheVariants as reply
use Rattle.json_fields.specs.Readings.{◌>>=◌}
use Rattle.json_fields.specs.Fields.{required_text_at, object_item, text_item, each_at}
use Rattle.server_calls.specs.declared.told.Told.{Told}
use Rattle.server_calls.specs.declared.ids.RunId.{RunId}
use Rattle.server_calls.specs.Members.{with_keys, flag_in, whole_in}
use Rattle.server_calls.specs.Places.{run_or_none, place_of_run, number_of_run, one_place}
use Rattle.server_calls.specs.Tasks.{good}

-- a key with its values
unfoldable pub bot_pair_in : Data → Result (List ℕ × List (List ℕ)) PropFault
bot_pair_in d = do
  o ← with_keys (codes "key" ∷ codes "value" ∷ []) d
  key ← required_text_at (codes "key") d
  values ← each_at text_item (codes "value") d
  Ok (key, values)

abbrev pub bot_keys : List (List ℕ)
bot_keys =
    codes "bot_id" ∷ codes "dimensions" ∷ codes "is_dead" ∷ codes "last_seen_ts" ∷ codes "quarantined" ∷ codes "task_id"
    ∷ codes "terminating" ∷ []

-- a bot has no members but these
unfoldable pub checked_bot : Data → Result Data PropFault
checked_bot d = with_keys bot_keys d

unfoldable pub bot_id_in : Data → Result (List ℕ) PropFault
bot_id_in d = required_text_at (codes "bot_id") d

-- why it takes no work; empty where it does
unfoldable pub quarantined_in : Data → Result (List ℕ) PropFault
quarantined_in d = required_text_at (codes "quarantined") d

unfoldable pub dimensions_in : Data → Result (List (List ℕ × List (List ℕ))) PropFault
dimensions_in d = each_at (object_item bot_pair_in) (codes "dimensions") d

unfoldable pub last_seen_in : Data → Result ℕ PropFault
last_seen_in d = whole_in (codes "last_seen_ts") 18446744073709551615 d

unfoldable pub bot_run_in : Data → Result (Option RunId) PropFault
bot_run_in d = run_or_none (codes "task_id") d

-- the place that its run names, where it has one
unfoldable pub bot_place_in : Data → Result (Option ℕ) PropFault
bot_place_in d = do
  run ← bot_run_in d
  Ok (place_of_run run)

-- whether it is dead, and whether it is to end
unfoldable pub bot_flags_in : Data → Result (Bool × Bool) PropFault
bot_flags_in d = do
  is_dead ← flag_in (codes "is_dead") d
  terminating ← flag_in (codes "terminating") d
  Ok (is_dead, terminating)

-- a bot as it is shown
unfoldable pub bot_view_in : Data → Result BotView PropFault
bot_view_in d = do
  o ← checked_bot d
  bot ← bot_id_in d
  dimensions ← dimensions_in d
  marks ← bot_flags_in d
  last_seen ← last_seen_in d
  quarantined ← quarantined_in d
  run ← bot_run_in d
  Ok (record {
    bot_id = bot;
    dimensions = dimensions;
    is_dead = marks.0;
    last_seen_ts = last_seen;
    quarantined = quarantined;
    task_id = number_of_run run;
    terminating = marks.1;
  })

-- GetBot
unfoldable pub bot_in : Data → Result Told PropFault
bot_in d = do
  named ← bot_place_in d
  place ← one_place (named ∷ [])
  bot ← bot_view_in d
  Ok (good place (reply.Bot bot))

-- Handshake
unfoldable pub shaken_in : Data → Result Told PropFault
shaken_in d = do
  o ← with_keys (codes "bot_id" ∷ []) d
  bot ← required_text_at (codes "bot_id") d
  Ok (good 0 (reply.Shaken bot))

-- TerminateBot
unfoldable pub terminating_in : Data → Result Told PropFault
terminating_in d = do
  o ← with_keys [] d
  Ok (good 0 reply.Terminating)

-- Event
unfoldable pub noted_in : Data → Result Told PropFault
noted_in d = do
  o ← with_keys [] d
  Ok (good 0 reply.Noted)

-- TaskUpdate
unfoldable pub updated_in : Data → Result Told PropFault
updated_in d = do
  o ← with_keys (codes "must_stop" ∷ []) d
  must_stop ← flag_in (codes "must_stop") d
  Ok (good 0 (reply.Updated must_stop))
