-- A bot is told as it is shown.
use Rattle.std.proofs.Common.{◌≡◌, ◌||◌, ℕ, ◌-◌, nat_lt, Bool, true, false, List, [], ◌∷◌, Option, Some, None, is_some, option_map, Ok, refl, ap, ◌∙◌}
use Rattle.std.specs.Prelude.{codes}
use Rattle.std.specs.Str.{IsUtf8}
use Rattle.std.proofs.lemmas.Bool.{and_from}
use Rattle.serde_json.specs.Data.{string}
use Rattle.swarm_model.specs.declared.bot_view.BotView.{BotView}
use Rattle.swarm_model.specs.declared.reply.Reply.TheVariants as reply
use Rattle.routes.specs.declared.route.Route.TheVariants as route
use Rattle.json_fields.specs.Fields.{present, required_text_in, optional_number_in, list_in, unknown_key, object_item, text_item}
use Rattle.json_fields.specs.Ids.{run_id}
use Rattle.reply_bodies.specs.Items.{bot_pair_data}
use Rattle.reply_bodies.specs.Views.{bot_members, bot_data}
use Rattle.reply_bodies.specs.Bodies.{body_of}
use Rattle.server_calls.specs.Reading.{told_of, in_value}
use Rattle.server_calls.specs.Members.{with_keys, flag_in, whole_in, text_or_none}
use Rattle.server_calls.specs.Places.{run_at, run_or_none, place_of_run}
use Rattle.server_calls.specs.Bots.{bot_pair_in, checked_bot, bot_id_in, quarantined_in, dimensions_in, last_seen_in, bot_run_in, bot_place_in, bot_flags_in, bot_view_in, bot_in}
use Rattle.wire_laws.specs.Fitting.{IsPlace, FitsPair, FitsBot}
use Rattle.wire_laws.specs.Told.{IsTold, has_run}
use Rattle.wire_laws.proofs.Readable.{IsReadable, are_readable, reading-compact_text}
use Rattle.wire_laws.proofs.ReadIds.{run_number, some_run_is, number_is, run_is_at}
use Rattle.wire_laws.proofs.MemberLemmas.{long_is, maybe_shown, object_item_is, reads_list, named_place_is}
use Rattle.wire_laws.proofs.TaskReplies.{maybe_run_readable}

pair_readable : (n : ℕ) → nat_lt 0 n ≡ true → nat_lt 0 (n - 1) ≡ true → (pair : List ℕ × List (List ℕ)) → FitsPair pair → IsReadable n (bot_pair_data pair)
pair_readable n outer inner pair h = (outer, refl, (h.0, ((inner, are_readable string IsUtf8 (n - 1 - 1) (λ _ fits. fits) pair.1 h.1), tt)))

pub bot_readable : (n : ℕ) → nat_lt 0 n ≡ true → nat_lt 0 (n - 1) ≡ true → nat_lt 0 (n - 1 - 1) ≡ true → nat_lt 0 (n - 1 - 1 - 1) ≡ true → (place : ℕ) → IsPlace place → (bot : BotView) → FitsBot bot → IsReadable n (bot_data place bot)
unfolding bot_members
bot_readable n outer middle inner innermost place p bot h = (
  outer,
  refl,
  (
    h.bot_id,
    (
      (middle, are_readable bot_pair_data FitsPair (n - 1 - 1) (pair_readable (n - 1 - 1) inner innermost) bot.dimensions h.dimensions),
      (
        tt,
        (
          h.last_seen_ts,
          (
            h.quarantined,
            (
              maybe_run_readable (n - 1) place p bot.task_id h.task_id,
              (tt, tt),
            ),
          ),
        ),
      ),
    ),
  ),
)

pair_is : (pair : List ℕ × List (List ℕ)) → FitsPair pair → bot_pair_in (bot_pair_data pair) ≡ Ok pair
unfolding bot_pair_in with_keys unknown_key required_text_in list_in present
pair_is pair h = rw (reads_list string text_item IsUtf8 (λ text fits place. refl) (codes "value") pair.1 h.1) refl

dimensions_are : (place : ℕ) (bot : BotView) → FitsBot bot → dimensions_in (bot_data place bot) ≡ Ok bot.dimensions
unfolding dimensions_in list_in present bot_members
dimensions_are place bot h =
    rw (reads_list bot_pair_data (object_item bot_pair_in) FitsPair (λ pair fits. object_item_is bot_pair_in _ pair (pair_is pair fits)) (codes "dimensions") bot.dimensions h.dimensions) refl

run_is : (place : ℕ) (bot : BotView) → IsPlace place → FitsBot bot → bot_run_in (bot_data place bot) ≡ Ok (option_map (λ run. run_at (run_number place run)) bot.task_id)
unfolding bot_run_in run_or_none text_or_none present bot_members
run_is place bot p h = rw (maybe_shown (run_id place) bot.task_id, some_run_is place bot.task_id p h.task_id) refl

last_seen_is : (place : ℕ) (bot : BotView) → FitsBot bot → last_seen_in (bot_data place bot) ≡ Ok bot.last_seen_ts
unfolding last_seen_in whole_in optional_number_in present bot_members
last_seen_is place bot h = rw (long_is bot.last_seen_ts h.last_seen_ts) refl

texts_are : (place : ℕ) (bot : BotView) → (checked_bot (bot_data place bot) ≡ Ok (bot_data place bot)) × (bot_id_in (bot_data place bot) ≡ Ok bot.bot_id) × (quarantined_in (bot_data place bot) ≡ Ok bot.quarantined) × (bot_flags_in (bot_data place bot) ≡ Ok (bot.is_dead, bot.terminating))
unfolding checked_bot bot_id_in quarantined_in bot_flags_in flag_in with_keys unknown_key required_text_in present bot_members
texts_are place bot = (refl, refl, refl, refl)

pub bot_view_is : (place : ℕ) (bot : BotView) → IsPlace place → FitsBot bot → bot_view_in (bot_data place bot) ≡ Ok bot
unfolding bot_view_in
bot_view_is place bot p h =
    let texts = texts_are place bot in
    rw (texts.0, texts.1, dimensions_are place bot h, texts.3, last_seen_is place bot h, texts.2, run_is place bot p h, number_is place bot.task_id h.task_id) refl

-- the place of the bot's run
abbrev pub place_named : ℕ → BotView → Option ℕ
place_named place bot = place_of_run (option_map (λ run. run_at (run_number place run)) bot.task_id)

pub bot_place_is : (place : ℕ) (bot : BotView) → IsPlace place → FitsBot bot → bot_place_in (bot_data place bot) ≡ Ok (place_named place bot)
unfolding bot_place_in
bot_place_is place bot p h = rw (run_is place bot p h) refl

-- there is one where the bot has a run
pub some_place : (place : ℕ) (o : Option (ℕ × ℕ)) → is_some (place_of_run (option_map (λ run. run_at (run_number place run)) o)) ≡ is_some o
some_place place None = refl
some_place place (Some run) = refl

or_false : (b : Bool) → (b || false) ≡ b
or_false true = refl
or_false false = refl

pub bot_is_told : (place : ℕ) (bot : BotView) (pieces : List (List ℕ)) → IsPlace place → FitsBot bot → IsTold route.GetBot place (reply.Bot bot) pieces
unfolding told_of body_of bot_in
bot_is_told place bot pieces p h =
    ap (in_value bot_in) (reading-compact_text (bot_data place bot) (bot_readable 127 refl refl refl refl place p bot h))
    ∙ rw (
      bot_place_is place bot p h,
      named_place_is place p (place_named place bot ∷ []) (has_run bot) (or_false _ ∙ some_place place bot.task_id) (and_from _ _ (run_is_at place bot.task_id h.task_id) refl),
      bot_view_is place bot p h,
    ) refl
