-- Bots and tasks agree exactly where each that names another is named by it.
use Rattle.std.proofs.Common.{◌≡◌, ℕ, Bool, true, false, MatchBool, List, All, refl, sym, ap, ◌∙◌, Option, Some, None, eqb-true}
use Rattle.std.specs.List.{AllPass}
use Rattle.std.specs.Option.{option_map_or, option_and_then}
use Rattle.std.proofs.lemmas.Bool.{eq-eqb}
use Rattle.std.proofs.lemmas.Option.{same_Some}
use Rattle.base_checks.specs.Types.{TaskRow, BotRow}
use Rattle.swarm_model.specs.Numbers.{AreNumbered}
use Rattle.swarm_model.specs.Finding.{is_task, is_bot}
use Rattle.swarm_model.specs.Effects.{no_of_task, no_of_bot}
use Rattle.swarm_model.specs.Soundness.{runner, Agree}
use Rattle.pool_laws.proofs.Lists.{Among, Found, each, all, find_is, number_finds}
use Rattle.base_checks.specs.Agreeing.{names, numbered_task, numbered_bot, bot_agrees, task_agrees, NameEachOther}

names_is : (named : Option ℕ) (number : ℕ) → names named number ≡ true → named ≡ Some number
names_is None number e = absurd (cc (e))
names_is (Some its) number e = ap (λ (n : ℕ). Some n) (eqb-true its number e)

is_names : (named : Option ℕ) (number : ℕ) → named ≡ Some number → names named number ≡ true
is_names None number e = absurd (cc (e))
is_names (Some its) number e = eq-eqb its number (same_Some _ _ e)

module _ (bots : List BotRow) (tasks : List TaskRow) (numbered_bots : AreNumbered no_of_bot 1 bots) (numbered_tasks : AreNumbered no_of_task 1 tasks) where
  -- where each names what names it, they agree
  each_agrees : AllPass (bot_agrees tasks) bots → AllPass (task_agrees bots) tasks → NameEachOther bots tasks
  each_agrees of_bots of_tasks = all (λ (bot : BotRow). All (Agree bot) tasks) bots (λ bot b. all (Agree bot) tasks (λ task a. (there bot b task a, back bot b task a)))
    where
      there : (bot : BotRow) → Among bot bots → (task : TaskRow) → Among task tasks → bot.task ≡ Some task.no → runner task ≡ Some bot.no
      there bot b task a e =
          let told : bot_agrees tasks bot ≡ true = each (λ (x : BotRow). bot_agrees tasks x ≡ true) bots of_bots bot b in
          let found : option_and_then (numbered_task tasks) bot.task ≡ Some task = ap (option_and_then (numbered_task tasks)) e ∙ number_finds no_of_task 1 tasks numbered_tasks task a in
          names_is (runner task) bot.no (ap (λ (r : Option TaskRow). option_map_or (λ (x : TaskRow). names (runner x) bot.no) r true) (sym found) ∙ told)

      back : (bot : BotRow) → Among bot bots → (task : TaskRow) → Among task tasks → runner task ≡ Some bot.no → bot.task ≡ Some task.no
      back bot b task a e =
          let told : task_agrees bots task ≡ true = each (λ (x : TaskRow). task_agrees bots x ≡ true) tasks of_tasks task a in
          let found : option_and_then (numbered_bot bots) (runner task) ≡ Some bot = ap (option_and_then (numbered_bot bots)) e ∙ number_finds no_of_bot 1 bots numbered_bots bot b in
          names_is bot.task task.no (ap (λ (r : Option BotRow). option_map_or (λ (x : BotRow). names x.task task.no) r true) (sym found) ∙ told)

  module _ (agree : NameEachOther bots tasks) where
    agreed : (bot : BotRow) → Among bot bots → (task : TaskRow) → Among task tasks → Agree bot task
    agreed bot b = each (Agree bot) tasks (each (λ (x : BotRow). All (Agree x) tasks) bots agree bot b)

    bot_told : (bot : BotRow) → Among bot bots → bot_agrees tasks bot ≡ true
    bot_told bot b = by_task bot.task refl
      where
        by_row : (n : ℕ) → bot.task ≡ Some n → (r : Option TaskRow) → numbered_task tasks n ≡ r → option_map_or (λ (x : TaskRow). names (runner x) bot.no) r true ≡ true
        by_row n e None f = refl
        by_row n e (Some x) f =
            (let row : Found (is_task n) tasks x = find_is (is_task n) tasks x f in
            is_names (runner x) bot.no ((agreed bot b x row.among).0 (e ∙ ap (λ (k : ℕ). Some k) (sym (eqb-true x.no n row.passes)))))

        by_task : (o : Option ℕ) → bot.task ≡ o → option_map_or (λ (x : TaskRow). names (runner x) bot.no) (option_and_then (numbered_task tasks) o) true ≡ true
        by_task None e = refl
        by_task (Some n) e = by_row n e (numbered_task tasks n) refl

    task_told : (task : TaskRow) → Among task tasks → task_agrees bots task ≡ true
    task_told task a = by_bot (runner task) refl
      where
        by_row : (n : ℕ) → runner task ≡ Some n → (r : Option BotRow) → numbered_bot bots n ≡ r → option_map_or (λ (x : BotRow). names x.task task.no) r true ≡ true
        by_row n e None f = refl
        by_row n e (Some x) f =
            (let row : Found (is_bot n) bots x = find_is (is_bot n) bots x f in
            is_names x.task task.no ((agreed x row.among task a).1 (e ∙ ap (λ (k : ℕ). Some k) (sym (eqb-true x.no n row.passes)))))

        by_bot : (o : Option ℕ) → runner task ≡ o → option_map_or (λ (x : BotRow). names x.task task.no) (option_and_then (numbered_bot bots) o) true ≡ true
        by_bot None e = refl
        by_bot (Some n) e = by_row n e (numbered_bot bots n) refl

    -- and where they agree, each names what names it
    pub bots_told : AllPass (bot_agrees tasks) bots
    bots_told = all (λ (x : BotRow). bot_agrees tasks x ≡ true) bots bot_told

    tasks_told : AllPass (task_agrees bots) tasks
    tasks_told = all (λ (x : TaskRow). task_agrees bots x ≡ true) tasks task_told

  pub told_of_both : AllPass (bot_agrees tasks) bots → (agree : Bool) → MatchBool agree (AllPass (task_agrees bots) tasks) (AllPass (task_agrees bots) tasks → ⊥) →
      MatchBool agree (NameEachOther bots tasks) (NameEachOther bots tasks → ⊥)
  told_of_both of_bots true h = each_agrees of_bots h
  told_of_both of_bots false h = λ agree. h (tasks_told agree)
