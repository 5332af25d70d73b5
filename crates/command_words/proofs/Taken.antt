-- Words that the grammar takes ask for a command.
use Rattle.std.proofs.Common.{◌≡◌, ◌∙◌, ◌^◌, ◌&&◌, ◌||◌, ℕ, Bool, cond, true, false, not, true≢false, refl, sym, ap, subst, List, [], ◌∷◌, Option, Some, None, IfSome, is_some, codes}
use Rattle.std.specs.Prelude.{find, option_and_then, option_map}
use Rattle.std.specs.Option.{option_map_or}
use Rattle.std.specs.Str.{bytes_eq}
use Rattle.std.specs.Str.Parse.{digits_value, without_leading_plus}
use Rattle.std.proofs.lemmas.Slice.Eq.{bytes_eq-Decides}
use Rattle.clap.specs.Facts.{parser_of_value}
use Rattle.clap.specs.ValueTests.{accepts, is_unsigned_in}
use Rattle.clap.specs.Walk.{Row, Rule, Text, action_of, answers_to, arg_by_id, finished, first_of, has_row, nothing_held, rows_after, settled, walk, walk_from}
use Rattle.clap.specs.Simple.{App, Shape, built, built_leaf, entered, inherited, label_of, marked_built, names_of, on_top, rows_at, subcommand_of, with_leaf_noted}
use Rattle.clap.specs.Takes.{values_pass}
use Rattle.clap.specs.Faults.{defaults_fault, entered_fault, fault_of, level_fault, settle_fault, walk_fault}
use Rattle.clap.specs.declared.builder.value_parser.ValueParser.TheVariants as vp
use Rattle.command_words.specs.Values.{both_of, client_in, number_at, number_in}
use Rattle.command_words.specs.ClientWork.{WorkValue, bots_app, bots_in, cancel_app, cancel_in, collect_app, collect_batch_app, collect_batch_in, collect_in, spawn_tasks_app, spawn_tasks_in, tasks_app, tasks_in, trigger_app, trigger_in}
use Rattle.command_words.specs.Grammar.{bot_app, checkpoint_app, drill_app, serve_app, swarm_app}
use Rattle.command_words.specs.declared.command.Command.{Command}
use Rattle.command_words.specs.Commands.{value_of, boards_in, bot_in, checkpoint_in, client_with, command_in, drill_in, serve_in}
use Rattle.command_words.proofs.Rows.{Each, Gives, Goods, Own, value_at}
use Rattle.command_words.proofs.Walks.{Leaves, NotHelp, level_leaves, check_parts, no_kinds, walk-stops}

both_some : {X Y : Type 0} (o : Option X) (p : Option Y) → is_some o ≡ true → is_some p ≡ true → is_some (both_of o p) ≡ true
both_some (Some x) (Some y) a b = refl
both_some (Some x) None a b = b
both_some None p a b = absurd (true≢false (sym a))

map_some : {X Y : Type 0} (f : X → Y) (o : Option X) → is_some o ≡ true → is_some (option_map f o) ≡ true
map_some f (Some x) e = refl
map_some f None e = absurd (true≢false (sym e))

own : (c : List Rule) (a : Rule) → arg_by_id c a.id ≡ Some a → Gives (action_of a) a → values_pass a a.defaults ≡ true → Own c a
own c a found gives defaults = record { found = found; gives = gives; defaults = defaults }

-- ---- the values that are there

module _ (c : List Rule) (rows : List Row) (goods : Goods c rows) where
  text_some : (id : Text) (a : Rule) → arg_by_id c id ≡ Some a → has_row id rows ≡ true → is_some (first_of id rows) ≡ true
  text_some id a found row = ap is_some (value_at c id a found rows goods row).1

  number_some : (id : Text) (a : Rule) (least most : ℕ) → arg_by_id c id ≡ Some a → parser_of_value a.parser ≡ vp.Unsigned least most → has_row id rows ≡ true
      → is_some (number_at id least most rows) ≡ true
  number_some id a least most found parser row =
      let v = value_at c id a found rows goods row in
      let passes : is_unsigned_in least most v.0 ≡ true = subst (λ p. accepts a.ignore_case p v.0 ≡ true) parser v.2 in
      subst (λ o. is_some {T = ℕ} (option_and_then (number_in least most) o) ≡ true) (sym v.1) (ap (λ b. is_some {T = ℕ} (cond b (Some (digits_value 10 (without_leading_plus v.0))) None)) passes)

-- ---- the commands

-- a subcommand as it is built
abbrev leaf : App → Shape
leaf a = built_leaf (inherited (on_top with_leaf_noted (on_top marked_built swarm_app)).top a.top)

boards_some : (rows : List Row) → Leaves (leaf serve_app).rules rows → is_some (boards_in rows) ≡ true
boards_some rows l =
    let c = (leaf serve_app).rules in
    map_some _ _ (both_some _ _ (both_some _ _ (number_some c rows l.goods (codes "boards") _ 0 8 refl refl (l.defaults.1.1.1.1.0 refl))
    (text_some c rows l.goods (codes "board-address") _ refl (l.defaults.1.1.1.1.1.0 refl)))
    (both_some _ _ (number_some c rows l.goods (codes "board-connections") _ 1 1000000 refl refl (l.defaults.1.1.1.1.1.1.0 refl))
    (both_some _ _ (number_some c rows l.goods (codes "board-every") _ 1 3600 refl refl (l.defaults.1.1.1.1.1.1.1.0 refl))
    (number_some c rows l.goods (codes "board-rounds") _ 1 1000000 refl refl (l.defaults.1.1.1.1.1.1.1.1.0 refl)))))

serve_some : (rows : List Row) → Leaves (leaf serve_app).rules rows → is_some (serve_in rows) ≡ true
serve_some rows l =
    let c = (leaf serve_app).rules in
    map_some _ _ (both_some _ _ (text_some c rows l.goods (codes "address") _ refl (l.defaults.1.0 refl))
    (both_some _ _ (both_some _ _ (number_some c rows l.goods (codes "workers") _ 1 32 refl refl (l.defaults.1.1.0 refl))
    (number_some c rows l.goods (codes "connections") _ 1 1000000 refl refl (l.defaults.1.1.1.0 refl)))
    (boards_some rows l)))

serve_own : Each (Own (leaf serve_app).rules) (leaf serve_app).rules
serve_own = (
  own _ _ refl refl refl,
  (
    own _ _ refl refl refl,
    (
      own _ _ refl refl refl,
      (
        own _ _ refl refl refl,
        (
          own _ _ refl refl refl,
          (
            own _ _ refl refl refl,
            (own _ _ refl refl refl, (own _ _ refl refl refl, (own _ _ refl refl refl, (own _ _ refl refl refl, tt)))),
          ),
        ),
      ),
    ),
  ),
)

checkpoint_some : (rows : List Row) → Leaves (leaf checkpoint_app).rules rows → is_some (checkpoint_in rows) ≡ true
checkpoint_some rows l =
    let c = (leaf checkpoint_app).rules in
    map_some _ _ (text_some c rows l.goods (codes "settings") _ refl (l.required.0 refl))

checkpoint_own : Each (Own (leaf checkpoint_app).rules) (leaf checkpoint_app).rules
checkpoint_own = (own _ _ refl refl refl, (own _ _ refl refl refl, tt))

client_some : (c : List Rule) (rows : List Row) → Goods c rows → (a b : Rule) → arg_by_id c (codes "server") ≡ Some a → arg_by_id c (codes "caller") ≡ Some b
    → has_row (codes "server") rows ≡ true → has_row (codes "caller") rows ≡ true → is_some (client_in rows) ≡ true
client_some c rows goods a b fa fb ra rb = both_some _ _ (text_some c rows goods (codes "server") a fa ra) (text_some c rows goods (codes "caller") b fb rb)

bot_some : (rows : List Row) → Leaves (leaf bot_app).rules rows → is_some (bot_in rows) ≡ true
bot_some rows l =
    let c = (leaf bot_app).rules in
    map_some _ _ (both_some _ _ (client_some c rows l.goods _ _ refl refl (l.required.0 refl) (l.required.1.0 refl))
    (both_some _ _ (both_some _ _ (both_some _ _ (text_some c rows l.goods (codes "id") _ refl (l.required.1.1.0 refl))
    (text_some c rows l.goods (codes "pool") _ refl (l.required.1.1.1.0 refl)))
    (text_some c rows l.goods (codes "dimensions") _ refl (l.defaults.1.1.1.1.0 refl)))
    (both_some _ _ (both_some _ _ (both_some _ _ (number_some c rows l.goods (codes "tasks") _ 1 1000000 refl refl (l.defaults.1.1.1.1.1.0 refl))
    (number_some c rows l.goods (codes "polls") _ 1 1000000 refl refl (l.defaults.1.1.1.1.1.1.0 refl)))
    (number_some c rows l.goods (codes "steps") _ 1 4000000000 refl refl (l.defaults.1.1.1.1.1.1.1.0 refl)))
    (both_some _ _ (number_some c rows l.goods (codes "caches") _ 0 64 refl refl (l.defaults.1.1.1.1.1.1.1.1.0 refl))
    (number_some c rows l.goods (codes "cache-bytes") _ 0 (2 ^ 40) refl refl (l.defaults.1.1.1.1.1.1.1.1.1.0 refl))))))

bot_own : Each (Own (leaf bot_app).rules) (leaf bot_app).rules
bot_own = (
  own _ _ refl refl refl,
  (
    own _ _ refl refl refl,
    (
      own _ _ refl refl refl,
      (
        own _ _ refl refl refl,
        (
          own _ _ refl refl refl,
          (
            own _ _ refl refl refl,
            (
              own _ _ refl refl refl,
              (own _ _ refl refl refl, (own _ _ refl refl refl, (own _ _ refl refl refl, (own _ _ refl refl refl, tt)))),
            ),
          ),
        ),
      ),
    ),
  ),
)

-- a client's command is there where what it does is
client_command_some : (c : List Rule) (rows : List Row) → Goods c rows → (a b : Rule) → arg_by_id c (codes "server") ≡ Some a → arg_by_id c (codes "caller") ≡ Some b
    → has_row (codes "server") rows ≡ true → has_row (codes "caller") rows ≡ true → (work : Option WorkValue) → is_some work ≡ true → is_some (client_with rows work) ≡ true
client_command_some c rows goods a b fa fb ra rb work some = map_some _ _ (both_some _ _ (client_some c rows goods a b fa fb ra rb) some)

trigger_some : (rows : List Row) → Leaves (leaf trigger_app).rules rows → is_some (client_with rows (trigger_in rows)) ≡ true
trigger_some rows l =
    let c = (leaf trigger_app).rules in
    client_command_some c rows l.goods _ _ refl refl (l.required.0 refl) (l.required.1.0 refl) (trigger_in rows)
    (map_some _ _ (text_some c rows l.goods (codes "FILE") _ refl (l.required.1.1.0 refl)))

trigger_own : Each (Own (leaf trigger_app).rules) (leaf trigger_app).rules
trigger_own = (own _ _ refl refl refl, (own _ _ refl refl refl, (own _ _ refl refl refl, (own _ _ refl refl refl, tt))))

collect_some : (rows : List Row) → Leaves (leaf collect_app).rules rows → is_some (client_with rows (collect_in rows)) ≡ true
collect_some rows l =
    let c = (leaf collect_app).rules in
    client_command_some c rows l.goods _ _ refl refl (l.required.0 refl) (l.required.1.0 refl) (collect_in rows)
    (map_some _ _ (both_some _ _ (both_some _ _ (number_some c rows l.goods (codes "polls") _ 1 100000 refl refl (l.defaults.1.1.0 refl))
    (number_some c rows l.goods (codes "every") _ 0 60 refl refl (l.defaults.1.1.1.0 refl)))
    (text_some c rows l.goods (codes "ID") _ refl (l.required.1.1.1.1.0 refl))))

collect_own : Each (Own (leaf collect_app).rules) (leaf collect_app).rules
collect_own = (own _ _ refl refl refl, (own _ _ refl refl refl, (own _ _ refl refl refl, (own _ _ refl refl refl, (own _ _ refl refl refl, (own _ _ refl refl refl, tt))))))

cancel_some : (rows : List Row) → Leaves (leaf cancel_app).rules rows → is_some (client_with rows (cancel_in rows)) ≡ true
cancel_some rows l =
    let c = (leaf cancel_app).rules in
    client_command_some c rows l.goods _ _ refl refl (l.required.0 refl) (l.required.1.0 refl) (cancel_in rows)
    (map_some _ _ (text_some c rows l.goods (codes "ID") _ refl (l.required.1.1.1.0 refl)))

cancel_own : Each (Own (leaf cancel_app).rules) (leaf cancel_app).rules
cancel_own = (own _ _ refl refl refl, (own _ _ refl refl refl, (own _ _ refl refl refl, (own _ _ refl refl refl, (own _ _ refl refl refl, tt)))))

spawn_tasks_some : (rows : List Row) → Leaves (leaf spawn_tasks_app).rules rows → is_some (client_with rows (spawn_tasks_in rows)) ≡ true
spawn_tasks_some rows l =
    let c = (leaf spawn_tasks_app).rules in
    client_command_some c rows l.goods _ _ refl refl (l.required.0 refl) (l.required.1.0 refl) (spawn_tasks_in rows)
    (map_some _ _ (both_some _ _ (text_some c rows l.goods (codes "name") _ refl (l.required.1.1.0 refl))
    (text_some c rows l.goods (codes "FILE") _ refl (l.required.1.1.1.0 refl))))

spawn_tasks_own : Each (Own (leaf spawn_tasks_app).rules) (leaf spawn_tasks_app).rules
spawn_tasks_own = (own _ _ refl refl refl, (own _ _ refl refl refl, (own _ _ refl refl refl, (own _ _ refl refl refl, (own _ _ refl refl refl, tt)))))

collect_batch_some : (rows : List Row) → Leaves (leaf collect_batch_app).rules rows → is_some (client_with rows (collect_batch_in rows)) ≡ true
collect_batch_some rows l =
    let c = (leaf collect_batch_app).rules in
    client_command_some c rows l.goods _ _ refl refl (l.required.0 refl) (l.required.1.0 refl) (collect_batch_in rows)
    (map_some _ _ (both_some _ _ (both_some _ _ (number_some c rows l.goods (codes "polls") _ 1 100000 refl refl (l.defaults.1.1.0 refl))
    (number_some c rows l.goods (codes "every") _ 0 60 refl refl (l.defaults.1.1.1.0 refl)))
    (text_some c rows l.goods (codes "FILE") _ refl (l.required.1.1.1.1.0 refl))))

collect_batch_own : Each (Own (leaf collect_batch_app).rules) (leaf collect_batch_app).rules
collect_batch_own = (own _ _ refl refl refl, (own _ _ refl refl refl, (own _ _ refl refl refl, (own _ _ refl refl refl, (own _ _ refl refl refl, (own _ _ refl refl refl, tt))))))

tasks_some : (rows : List Row) → Leaves (leaf tasks_app).rules rows → is_some (client_with rows (tasks_in rows)) ≡ true
tasks_some rows l =
    let c = (leaf tasks_app).rules in
    client_command_some c rows l.goods _ _ refl refl (l.required.0 refl) (l.required.1.0 refl) (tasks_in rows)
    (map_some _ _ (both_some _ _ (both_some _ _ (text_some c rows l.goods (codes "pool") _ refl (l.required.1.1.0 refl))
    (text_some c rows l.goods (codes "state") _ refl (l.defaults.1.1.1.0 refl)))
    (number_some c rows l.goods (codes "limit") _ 1 200 refl refl (l.defaults.1.1.1.1.0 refl))))

tasks_own : Each (Own (leaf tasks_app).rules) (leaf tasks_app).rules
tasks_own = (own _ _ refl refl refl, (own _ _ refl refl refl, (own _ _ refl refl refl, (own _ _ refl refl refl, (own _ _ refl refl refl, (own _ _ refl refl refl, tt))))))

bots_some : (rows : List Row) → Leaves (leaf bots_app).rules rows → is_some (client_with rows (bots_in rows)) ≡ true
bots_some rows l =
    let c = (leaf bots_app).rules in
    client_command_some c rows l.goods _ _ refl refl (l.required.0 refl) (l.required.1.0 refl) (bots_in rows)
    (map_some _ _ (both_some _ _ (text_some c rows l.goods (codes "pool") _ refl (l.required.1.1.0 refl))
    (number_some c rows l.goods (codes "limit") _ 1 200 refl refl (l.defaults.1.1.1.0 refl))))

bots_own : Each (Own (leaf bots_app).rules) (leaf bots_app).rules
bots_own = (own _ _ refl refl refl, (own _ _ refl refl refl, (own _ _ refl refl refl, (own _ _ refl refl refl, (own _ _ refl refl refl, tt)))))

drill_some : (rows : List Row) → Leaves (leaf drill_app).rules rows → is_some (drill_in rows) ≡ true
drill_some rows l =
    let c = (leaf drill_app).rules in
    map_some _ _ (both_some _ _ (number_some c rows l.goods (codes "cycles") _ 1 10000 refl refl (l.defaults.0 refl))
    (number_some c rows l.goods (codes "start") _ 0 2147483647 refl refl (l.defaults.1.0 refl)))

drill_own : Each (Own (leaf drill_app).rules) (leaf drill_app).rules
drill_own = (own _ _ refl refl refl, (own _ _ refl refl refl, (own _ _ refl refl refl, tt)))

-- ---- the subcommand that is met

-- a subcommand that a word names, and that is no call for help, gives a command where its words have no fault
abbrev Asks : Shape → Type 0
Asks s = (name : Text) → answers_to name (label_of s) ≡ true → bytes_eq name (codes "help") ≡ false → (words : List Text)
    → level_fault s [] nothing_held words false [] ≡ [] → is_some (command_in s.name (rows_after s.rules [] words)) ≡ true

is_help : (name : Text) (b : Bool) → bytes_eq (codes "help") name || false ≡ true → bytes_eq name (codes "help") ≡ false → ⊥
is_help name b e n = go (bytes_eq (codes "help") name) refl e
  where
    go : (x : Bool) → x ≡ bytes_eq (codes "help") name → (x || false) ≡ true → ⊥
    go true is e =
        let same : codes "help" ≡ name = (bytes_eq-Decides (codes "help") name).0 (sym is) in
        true≢false (sym ((bytes_eq-Decides name (codes "help")).1 (sym same)) ∙ n)
    go false is e = true≢false (sym e)

subs_ask : Each Asks (built swarm_app).subs
subs_ask = (
  (λ name a n words f. refl),
  (
    (λ name a n words f. serve_some _ (level_leaves (leaf serve_app) serve_own refl words f)),
    (
      (λ name a n words f. checkpoint_some _ (level_leaves (leaf checkpoint_app) checkpoint_own refl words f)),
      (
        (λ name a n words f. bot_some _ (level_leaves (leaf bot_app) bot_own refl words f)),
        (
          (λ name a n words f. trigger_some _ (level_leaves (leaf trigger_app) trigger_own refl words f)),
          (
            (λ name a n words f. collect_some _ (level_leaves (leaf collect_app) collect_own refl words f)),
            (
              (λ name a n words f. cancel_some _ (level_leaves (leaf cancel_app) cancel_own refl words f)),
              (
                (λ name a n words f. spawn_tasks_some _ (level_leaves (leaf spawn_tasks_app) spawn_tasks_own refl words f)),
                (
                  (λ name a n words f. collect_batch_some _ (level_leaves (leaf collect_batch_app) collect_batch_own refl words f)),
                  (
                    (λ name a n words f. tasks_some _ (level_leaves (leaf tasks_app) tasks_own refl words f)),
                    (
                      (λ name a n words f. bots_some _ (level_leaves (leaf bots_app) bots_own refl words f)),
                      (
                        (λ name a n words f. drill_some _ (level_leaves (leaf drill_app) drill_own refl words f)),
                        (
                          (λ name a n words f. absurd (is_help name true a n)),
                          tt,
                        ),
                      ),
                    ),
                  ),
                ),
              ),
            ),
          ),
        ),
      ),
    ),
  ),
)

abbrev command_at : Option (Text × List Row) → Bool
command_at o = is_some (option_and_then (λ p. command_in p.0 p.1) o)

one_asks : (p : Text × List Text) → NotHelp p → (subs : List Shape) → Each Asks subs
    → option_map_or (λ s. level_fault s [] nothing_held p.1 false []) (find (λ s. answers_to p.0 (label_of s)) subs) [] ≡ []
    → is_some (option_map (λ s. rows_at s p.1) (find (λ s. answers_to p.0 (label_of s)) subs)) ≡ true
    → command_at (option_map (λ s. rows_at s p.1) (find (λ s. answers_to p.0 (label_of s)) subs)) ≡ true
one_asks p n [] all f some = absurd (true≢false (sym some))
one_asks p n (s ∷ subs) all f some = go (λ g h. one_asks p n subs all.1 g h) (answers_to p.0 (label_of s)) refl f some
  where
    rest : Option Shape
    rest = find (λ s. answers_to p.0 (label_of s)) subs

    go : (option_map_or (λ s. level_fault s [] nothing_held p.1 false []) rest [] ≡ [] → is_some (option_map (λ s. rows_at s p.1) rest) ≡ true
        → command_at (option_map (λ s. rows_at s p.1) rest) ≡ true) → (b : Bool) → b ≡ answers_to p.0 (label_of s) → option_map_or (λ s. level_fault s [] nothing_held p.1 false []) (cond b (Some s) rest) [] ≡ []
        → is_some (option_map (λ s. rows_at s p.1) (cond b (Some s) rest)) ≡ true → command_at (option_map (λ s. rows_at s p.1) (cond b (Some s) rest)) ≡ true
    go later true is f some = all.0 p.0 (sym is) n p.1 f
    go later false is f some = later f some

stop_asks : (b : App) → Each Asks b.subs → (stop : Option (Text × List Text)) → IfSome stop NotHelp → entered_fault b stop ≡ [] → is_some (entered b stop) ≡ true
    → command_at (entered b stop) ≡ true
stop_asks b all None n f some = absurd (true≢false (sym some))
stop_asks b all (Some p) n f some = one_asks p n b.subs all f some

was_met : (h : Bool) → (not h && true) ≡ false → h ≡ true
was_met true e = refl
was_met false e = absurd (true≢false e)

-- words without a fault ask for a command
pub taken_words : (words : List Text) → fault_of swarm_app words ≡ [] → is_some (option_and_then (λ p. command_in p.0 p.1) (subcommand_of swarm_app words)) ≡ true
taken_words words f =
    let b = built swarm_app in
    let stop = (walk b.top.rules (names_of b) nothing_held words).stopped in
    let walked = no_kinds (walk_fault b.top (names_of b) (walk_from nothing_held) words) _ f in
    let below = no_kinds (entered_fault b stop) _ walked.1 in
    let end = (walk b.top.rules (names_of b) nothing_held words).held in
    let settles = no_kinds (settle_fault b.top.rules b.top.args_override_self end) _ below.1 in
    let defaults = no_kinds (defaults_fault (settled b.top.rules end).rows b.top.rules) _ settles.1 in
    let met = was_met (is_some (entered b stop)) (check_parts b.top (finished b.top.rules end) (is_some (entered b stop)) defaults.1).0 in
    stop_asks b subs_ask stop (walk-stops b.top refl (names_of b) words (walk_from nothing_held) walked.0 tt) below.0 met

-- what is found of words without a fault is no want of a command
pub never_none : (words : List Text) (rows : Option (Text × List Row)) (read : Option Command) → rows ≡ subcommand_of swarm_app words → read ≡ None
    → option_map value_of read ≡ option_and_then (λ p. command_in p.0 p.1) rows → fault_of swarm_app words ≡ [] → ⊥
never_none words rows (Some c) same is value f = absurd cc
never_none words rows None same is value f =
    let asks : is_some (option_and_then (λ p. command_in p.0 p.1) rows) ≡ true =
    subst (λ r. is_some (option_and_then (λ p. command_in p.0 p.1) r) ≡ true) (sym same) (taken_words words f) in
    true≢false (sym asks ∙ ap is_some (sym value))
