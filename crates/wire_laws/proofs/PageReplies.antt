-- A page is told with its items.
use Rattle.std.proofs.Common.{◌≡◌, ◌||◌, ℕ, suc, Bool, true, List, [], ◌∷◌, map, Option, Some, None, is_some, option_map, Ok, IfSome, refl, ap, ap₂, ◌∙◌, arith, All}
use Rattle.std.specs.Prelude.{codes}
use Rattle.std.specs.List.{list_any}
use Rattle.std.specs.Str.{IsUtf8}
use Rattle.std.proofs.lemmas.Bool.{and_from, eq-eqb}
use Rattle.serde_json.specs.Data.{Data, string, object}
use Rattle.json_values.specs.Values.{or_null, list_data}
use Rattle.wire_laws.specs.Types.{TaskView, BotView}
use Rattle.swarm_model.specs.declared.reply.Reply.TheVariants as reply
use Rattle.routes.specs.declared.route.Route.TheVariants as route
use Rattle.json_fields.specs.Fields.{present, optional_number_in, list_in, unknown_key, object_item}
use Rattle.json_fields.specs.Ids.{shown_number}
use Rattle.reply_bodies.specs.Views.{task_members, task_data, bot_members, bot_data}
use Rattle.reply_bodies.specs.Bodies.{number_data, page_members, body_of}
use Rattle.server_calls.specs.Reading.{told_of, in_value}
use Rattle.server_calls.specs.Members.{with_keys, text_or_none, whole_or_none}
use Rattle.server_calls.specs.Places.{cursor_in, task_numbered, place_of_task, are_at}
use Rattle.server_calls.specs.Tasks.{task_view_in}
use Rattle.server_calls.specs.Bots.{bot_place_in, bot_view_in}
use Rattle.server_calls.specs.Pages.{checked_page, some_task_place_in, task_places_in, task_items_in, bot_places_in, bot_items_in, bot_cursor_in, tasks_in, bots_in}
use Rattle.wire_laws.specs.Fitting.{IsPlace, IsTaskNumber, FitsTask, FitsBot}
use Rattle.wire_laws.specs.Told.{IsTold, has_some, has_run}
use Rattle.wire_laws.proofs.Readable.{IsReadable, are_readable, reading-compact_text}
use Rattle.wire_laws.proofs.ReadIds.{cursor_number, cursor_at, run_is_at}
use Rattle.wire_laws.proofs.MemberLemmas.{within_range, maybe_text, object_item_is, means_list, reads_list, named_place_is}
use Rattle.wire_laws.proofs.TaskReplies.{maybe_readable, task_readable, task_view_is, task_place_is}
use Rattle.wire_laws.proofs.BotReplies.{bot_readable, bot_view_is, place_named, bot_place_is, some_place}

or_same : (a b c d : Bool) → a ≡ c → b ≡ d → (a || b) ≡ (c || d)
or_same a b c d e f = ap₂ (λ x y. x || y) e f

-- ---- tasks

abbrev tasks_page : ℕ → List TaskView → Option ℕ → Data
tasks_page place items cursor = object (page_members (or_null (number_data place) cursor) (list_data (task_data place) items))

number_readable : (place : ℕ) → IsPlace place → (task : ℕ) → IsTaskNumber task → IsReadable 126 (number_data place task)
number_readable place p task t = omega (arith, p, t.1)

tasks_readable : (place : ℕ) (items : List TaskView) (cursor : Option ℕ) → IsPlace place → All FitsTask items → IfSome cursor IsTaskNumber → IsReadable 127 (tasks_page place items cursor)
tasks_readable place items cursor p h c = (
  refl,
  refl,
  (
    maybe_readable 126 (number_data place) IsTaskNumber (number_readable place p) cursor c,
    ((refl, are_readable (task_data place) FitsTask 125 (task_readable 125 refl refl refl place p) items h), tt),
  ),
)

cursor_is : (place : ℕ) (items : List TaskView) (cursor : Option ℕ) → IsPlace place → IfSome cursor IsTaskNumber → cursor_in (tasks_page place items cursor) ≡ Ok (task_numbered (option_map (shown_number place) cursor))
unfolding cursor_in whole_or_none optional_number_in present
cursor_is place items None p h = refl
cursor_is place items (Some task) p h =
    rw (within_range 1 1048576 (shown_number place task) (omega (arith, h.0)) (omega (arith, p, h.1))) refl

one_task_place : (place : ℕ) (task : TaskView) → IsPlace place → FitsTask task → some_task_place_in (task_data place task) ≡ Ok (Some place)
unfolding some_task_place_in
one_task_place place task p h = rw (task_place_is place task p h) refl

task_places_are : (place : ℕ) (items : List TaskView) (cursor : Option ℕ) → IsPlace place → All FitsTask items → task_places_in (tasks_page place items cursor) ≡ Ok (map (λ task. Some place) items)
unfolding task_places_in list_in present
task_places_are place items cursor p h =
    rw (means_list (task_data place) (object_item some_task_place_in) (λ task. Some place) FitsTask
    (λ task fits. object_item_is some_task_place_in (task_members place task) (Some place) (one_task_place place task p fits)) (codes "items") items h) refl

task_items_are : (place : ℕ) (items : List TaskView) (cursor : Option ℕ) → IsPlace place → All FitsTask items → task_items_in (tasks_page place items cursor) ≡ Ok items
unfolding task_items_in list_in present
task_items_are place items cursor p h =
    rw (reads_list (task_data place) (object_item task_view_in) FitsTask
    (λ task fits. object_item_is task_view_in (task_members place task) task (task_view_is place task p fits)) (codes "items") items h) refl

checked_tasks : (place : ℕ) (items : List TaskView) (cursor : Option ℕ) → checked_page (tasks_page place items cursor) ≡ Ok (tasks_page place items cursor)
unfolding checked_page with_keys unknown_key
checked_tasks place items cursor = refl

cursor_some : (place : ℕ) (cursor : Option ℕ) → is_some (place_of_task (task_numbered (option_map (shown_number place) cursor))) ≡ is_some cursor
cursor_some place None = refl
cursor_some place (Some task) = refl

items_at : (place : ℕ) (items : List TaskView) → are_at place (map (λ task. Some place) items) ≡ true
items_at place [] = refl
items_at place (task ∷ items) = and_from _ _ (eq-eqb place place refl) (items_at place items)

items_some : (place : ℕ) (items : List TaskView) → list_any is_some (map (λ task. Some place) items) ≡ has_some items
items_some place [] = refl
items_some place (task ∷ items) = refl

pub tasks_is_told : (place : ℕ) (items : List TaskView) (cursor : Option ℕ) (pieces : List (List ℕ)) → IsPlace place → All FitsTask items → IfSome cursor IsTaskNumber
    → IsTold route.ListTasks place (reply.Tasks items cursor) pieces
unfolding told_of body_of tasks_in
tasks_is_told place items cursor pieces p h c =
    let id = place_of_task (task_numbered (option_map (shown_number place) cursor)) in
    let ids = map (λ (task : TaskView). Some place) items in
    ap (in_value tasks_in) (reading-compact_text (tasks_page place items cursor) (tasks_readable place items cursor p h c))
    ∙ rw (
      checked_tasks place items cursor,
      cursor_is place items cursor p c,
      task_places_are place items cursor p h,
      task_items_are place items cursor p h,
      named_place_is place p (id ∷ ids) (is_some cursor || has_some items)
          (or_same _ _ (is_some cursor) (has_some items) (cursor_some place cursor) (items_some place items)) (and_from _ _ (cursor_at place cursor c) (items_at place items)),
      cursor_number place cursor c,
    ) refl

-- ---- bots

abbrev bots_page : ℕ → List BotView → Option (List ℕ) → Data
bots_page place items cursor = object (page_members (or_null string cursor) (list_data (bot_data place) items))

bots_readable : (place : ℕ) (items : List BotView) (cursor : Option (List ℕ)) → IsPlace place → All FitsBot items → IfSome cursor IsUtf8 → IsReadable 127 (bots_page place items cursor)
bots_readable place items cursor p h c = (
  refl,
  refl,
  (
    maybe_readable 126 string IsUtf8 (λ _ fits. fits) cursor c,
    ((refl, are_readable (bot_data place) FitsBot 125 (bot_readable 125 refl refl refl refl place p) items h), tt),
  ),
)

bot_cursor_is : (place : ℕ) (items : List BotView) (cursor : Option (List ℕ)) → bot_cursor_in (bots_page place items cursor) ≡ Ok cursor
unfolding bot_cursor_in text_or_none present
bot_cursor_is place items cursor = rw (maybe_text cursor) refl

bot_places_are : (place : ℕ) (items : List BotView) (cursor : Option (List ℕ)) → IsPlace place → All FitsBot items → bot_places_in (bots_page place items cursor) ≡ Ok (map (place_named place) items)
unfolding bot_places_in list_in present
bot_places_are place items cursor p h =
    rw (means_list (bot_data place) (object_item bot_place_in) (place_named place) FitsBot
    (λ bot fits. object_item_is bot_place_in (bot_members place bot) (place_named place bot) (bot_place_is place bot p fits)) (codes "items") items h) refl

bot_items_are : (place : ℕ) (items : List BotView) (cursor : Option (List ℕ)) → IsPlace place → All FitsBot items → bot_items_in (bots_page place items cursor) ≡ Ok items
unfolding bot_items_in list_in present
bot_items_are place items cursor p h =
    rw (reads_list (bot_data place) (object_item bot_view_in) FitsBot
    (λ bot fits. object_item_is bot_view_in (bot_members place bot) bot (bot_view_is place bot p fits)) (codes "items") items h) refl

checked_bots : (place : ℕ) (items : List BotView) (cursor : Option (List ℕ)) → checked_page (bots_page place items cursor) ≡ Ok (bots_page place items cursor)
unfolding checked_page with_keys unknown_key
checked_bots place items cursor = refl

bots_at : (place : ℕ) (items : List BotView) → All FitsBot items → are_at place (map (place_named place) items) ≡ true
bots_at place [] h = refl
bots_at place (bot ∷ items) h = and_from _ _ (run_is_at place bot.task_id (h 0 bot (omega arith)).task_id) (bots_at place items (λ k d low. h (suc k) d (omega arith)))

bots_some : (place : ℕ) (items : List BotView) → list_any is_some (map (place_named place) items) ≡ list_any has_run items
bots_some place [] = refl
bots_some place (bot ∷ items) = or_same _ _ (has_run bot) (list_any has_run items) (some_place place bot.task_id) (bots_some place items)

pub bots_is_told : (place : ℕ) (items : List BotView) (cursor : Option (List ℕ)) (pieces : List (List ℕ)) → IsPlace place → All FitsBot items → IfSome cursor IsUtf8
    → IsTold route.ListBots place (reply.Bots items cursor) pieces
unfolding told_of body_of bots_in
bots_is_told place items cursor pieces p h c =
    ap (in_value bots_in) (reading-compact_text (bots_page place items cursor) (bots_readable place items cursor p h c))
    ∙ rw (
      checked_bots place items cursor,
      bot_cursor_is place items cursor,
      bot_places_are place items cursor p h,
      bot_items_are place items cursor p h,
      named_place_is place p (map (place_named place) items) (list_any has_run items) (bots_some place items) (bots_at place items h),
    ) refl
