-- What a page of tasks or of bots tells.
use Rattle.std.specs.Prelude.{ℕ, List, [], ◌∷◌, Option, Some, Result, Ok, codes}
use Rattle.serde_json.specs.Data.{Data}
use Rattle.server_calls.specs.Types.{PropFault, TaskView, BotView}
use Rattle.swarm_model.specs.declared.reply.Reply.TheVariants as reply
use Rattle.json_fields.specs.Readings.{◌>>=◌}
use Rattle.json_fields.specs.Fields.{object_item, each_at}
use Rattle.server_calls.specs.declared.told.Told.{Told}
use Rattle.server_calls.specs.Members.{with_keys, text_or_none}
use Rattle.server_calls.specs.Places.{cursor_in, place_of_task, number_of_task, one_place}
use Rattle.server_calls.specs.Tasks.{good, task_place_in, task_view_in}
use Rattle.server_calls.specs.Bots.{bot_place_in, bot_view_in}

abbrev pub page_keys : List (List ℕ)
page_keys = codes "cursor" ∷ codes "items" ∷ []

-- a page has no members but these
unfoldable pub checked_page : Data → Result Data PropFault
checked_page d = with_keys page_keys d

unfoldable pub some_task_place_in : Data → Result (Option ℕ) PropFault
some_task_place_in d = do
  place ← task_place_in d
  Ok (Some place)

unfoldable pub task_places_in : Data → Result (List (Option ℕ)) PropFault
task_places_in d = each_at (object_item some_task_place_in) (codes "items") d

unfoldable pub task_items_in : Data → Result (List TaskView) PropFault
task_items_in d = each_at (object_item task_view_in) (codes "items") d

unfoldable pub bot_places_in : Data → Result (List (Option ℕ)) PropFault
bot_places_in d = each_at (object_item bot_place_in) (codes "items") d

unfoldable pub bot_items_in : Data → Result (List BotView) PropFault
bot_items_in d = each_at (object_item bot_view_in) (codes "items") d

unfoldable pub bot_cursor_in : Data → Result (Option (List ℕ)) PropFault
bot_cursor_in d = text_or_none (codes "cursor") d

-- ListTasks; the cursor and the items name one place
unfoldable pub tasks_in : Data → Result Told PropFault
tasks_in d = do
  o ← checked_page d
  cursor ← cursor_in d
  places ← task_places_in d
  items ← task_items_in d
  place ← one_place (place_of_task cursor ∷ places)
  Ok (good place (reply.Tasks items (number_of_task cursor)))

-- ListBots
unfoldable pub bots_in : Data → Result Told PropFault
bots_in d = do
  o ← checked_page d
  cursor ← bot_cursor_in d
  places ← bot_places_in d
  items ← bot_items_in d
  place ← one_place places
  Ok (good place (reply.Bots items cursor))
