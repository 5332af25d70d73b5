-- One task more is looked at: what the bots run then.
use Rattle.std.proofs.Common.{◌≡◌, ℕ, ◌+◌, ◌==◌, Bool, true, false, cond, List, [], ◌∷◌, ◌++◌, map, length, take, get_or, ◌<◌, refl, ap, sym, ◌∙◌, Option, Some, None, find, eqb-true}
use Rattle.std.specs.Prelude.{if◌then◌else◌}
use Rattle.std.specs.List.{All}
use Rattle.std.specs.Option.{option_map}
use Rattle.std.proofs.lemmas.Bool.{eq-eqb, eqb-false, ne_eqb}
use Rattle.std.proofs.lemmas.List.{take_more}
use Rattle.std.proofs.lemmas.List.Elements.{All-head, All-tail}
use Rattle.base_lines.specs.Types.{TaskRow, BotRow}
use Rattle.swarm_model.specs.Numbers.{AreNumbered}
use Rattle.swarm_model.specs.Effects.{no_of_bot, bot_at}
use Rattle.swarm_model.specs.Soundness.{runner}
use Rattle.base_lines.specs.Computed.{runs_on, run_among, with_run}
use Rattle.base_lines.specs.Runs.{given_task, note_run}

-- the first of two numbers that is there
abbrev first_of : Option ℕ → Option ℕ → Option ℕ
first_of (Some n) other = Some n
first_of None other = other

abbrev run_of : ℕ → TaskRow → Option ℕ
run_of number task = if runs_on number task then Some task.no else None

run_more : (number : ℕ) (done : List TaskRow) (task : TaskRow) → run_among (done ++ task ∷ []) number ≡ first_of (run_among done number) (run_of number task)
run_more number [] task = by_test (runs_on number task)
  where
    by_test : (b : Bool) → option_map (λ (t : TaskRow). t.no) (cond b (Some task) None) ≡ cond b (Some task.no) None
    by_test true = refl
    by_test false = refl
run_more number (x ∷ xs) task = by_test (runs_on number x) (run_more number xs task)
  where
    by_test : (b : Bool) → run_among (xs ++ task ∷ []) number ≡ first_of (run_among xs number) (run_of number task) →
        option_map (λ (t : TaskRow). t.no) (cond b (Some x) (find (runs_on number) (xs ++ task ∷ [])))
        ≡ first_of (option_map (λ (t : TaskRow). t.no) (cond b (Some x) (find (runs_on number) xs))) (run_of number task)
    by_test true rest = refl
    by_test false rest = rest

-- a task that runs on no bot is none that a bot runs
runs_nowhere : (number : ℕ) (task : TaskRow) → runner task ≡ None → run_of number task ≡ None
runs_nowhere number task e = rw e refl

first_alone : (o : Option ℕ) → first_of o None ≡ o
first_alone None = refl
first_alone (Some n) = refl

with_task : (run : Option ℕ) (bot : BotRow) → run ≡ bot.task → record bot { task = run } ≡ bot
with_task run bot e = λ i. record bot { task = e i }

same_run : (bot : BotRow) (a b : Option ℕ) → a ≡ b → record bot { task = a } ≡ record bot { task = b }
same_run bot a b e = λ i. record bot { task = e i }

-- one that runs on the bot of a number is what that bot runs, where it has no other
noted_one : (done : List TaskRow) (task : TaskRow) (number : ℕ) (bot : BotRow) → runner task ≡ Some number → bot_at number (given_task task.no) (with_run done bot) ≡ with_run (done ++ task ∷ []) bot
noted_one done task number bot runs = by_number (bot.no == number) refl (run_among done bot.no)
  where
    run_is : (b : Bool) → (number == bot.no) ≡ b → run_of bot.no task ≡ cond b (Some task.no) None
    run_is b e = rw (runs, e) refl

    given : (o : Option ℕ) → given_task task.no (record bot { task = o }) ≡ record bot { task = first_of o (Some task.no) }
    given None = refl
    given (Some n) = refl

    turned : (b : Bool) → (bot.no == number) ≡ b → (number == bot.no) ≡ b
    turned true e = eq-eqb number bot.no (sym (eqb-true bot.no number e))
    turned false e = ne_eqb number bot.no (λ same. eqb-false bot.no number e (sym same))

    by_number : (b : Bool) → (bot.no == number) ≡ b → (o : Option ℕ) → bot_at number (given_task task.no) (with_run done bot) ≡ with_run (done ++ task ∷ []) bot
    by_number true e o =
        rw e
        (given (run_among done bot.no)
        ∙ same_run bot _ _ (sym (run_more bot.no done task ∙ ap (λ (r : Option ℕ). first_of (run_among done bot.no) r) (run_is true (turned true e)))))
    by_number false e o =
        rw e
        (same_run bot _ _ (sym (run_more bot.no done task ∙ ap (λ (r : Option ℕ). first_of (run_among done bot.no) r) (run_is false (turned false e)) ∙ first_alone (run_among done bot.no))))

-- so all bots
pub noted_more : (r : Option ℕ) (done : List TaskRow) (task : TaskRow) (bots : List BotRow) → runner task ≡ r → note_run r task.no (map (with_run done) bots) ≡ map (with_run (done ++ task ∷ [])) bots
noted_more None done task [] runs = refl
noted_more None done task (bot ∷ bots) runs =
    let rest = noted_more None done task bots runs in
    let first = same_run bot _ _ (sym (run_more bot.no done task ∙ ap (λ (r : Option ℕ). first_of (run_among done bot.no) r) (runs_nowhere bot.no task runs) ∙ first_alone (run_among done bot.no))) in
    cc (first, rest)
noted_more (Some number) done task [] runs = refl
noted_more (Some number) done task (bot ∷ bots) runs =
    let rest = noted_more (Some number) done task bots runs in
    let first = noted_one done task number bot runs in
    cc (first, rest)

-- before the first task no bot runs one
pub none_noted : (bots : List BotRow) → All (λ bot. bot.task ≡ None) bots → map (with_run []) bots ≡ bots
none_noted [] idle = refl
none_noted (bot ∷ bots) idle =
    let first = with_task None bot (sym (All-head (λ (b : BotRow). b.task ≡ None) bot bots idle)) in
    let rest = none_noted bots (All-tail (λ (b : BotRow). b.task ≡ None) bot bots idle) in
    cc (first, rest)

-- what a bot runs changes no number
pub runs_numbered : (tasks : List TaskRow) (n : ℕ) (bots : List BotRow) → AreNumbered no_of_bot n bots → AreNumbered no_of_bot n (map (with_run tasks) bots)
runs_numbered tasks n [] numbered = tt
runs_numbered tasks n (bot ∷ bots) numbered = (numbered.0, runs_numbered tasks (n + 1) bots numbered.1)

-- the tasks up to a place, and the one at it
pub noted_next : (tasks : List TaskRow) (i : ℕ) (task : TaskRow) (bots now : List BotRow) → i < length tasks → task ≡ get_or tasks i task → now ≡ map (with_run (take i tasks)) bots →
    note_run (runner task) task.no now ≡ map (with_run (take (i + 1) tasks)) bots
noted_next tasks i task bots now low is done =
    let more : take (i + 1) tasks ≡ take i tasks ++ task ∷ [] = take_more tasks i task low ∙ ap (λ (t : TaskRow). take i tasks ++ t ∷ []) (sym is) in
    ap (λ (l : List BotRow). note_run (runner task) task.no l) done ∙ noted_more (runner task) (take i tasks) task bots refl ∙ ap (λ (l : List TaskRow). map (with_run l) bots) (sym more)
