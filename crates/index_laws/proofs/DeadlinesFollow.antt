-- After an entry only the deadlines of the touched rows differ.
use Rattle.std.proofs.Common.{◌≡◌, ℕ, ◌+◌, ◌≤◌, ◌==◌, Bool, true, false, cond, map, length, refl, sym, ap, ◌∙◌, subst, Option, Some, None, IfSome, eqb-true, arith}
use Rattle.std.specs.Option.{option_map, option_and_then}
use Rattle.std.proofs.lemmas.Bool.{eq-eqb}
use Rattle.index_laws.specs.Types.{Attempt, TaskRow, BotRow, PoolState, Deadline, Entry}
use Rattle.swarm_model.specs.declared.pool_settings.PoolSettings.{PoolSettings}
use Rattle.swarm_model.specs.declared.deadline.Cause.TheVariants as cause
use Rattle.swarm_model.specs.Finding.{is_bot, bot_of}
use Rattle.swarm_model.specs.Deadlines.{slice_end, silence_limit, silence_end, bot_end}
use Rattle.swarm_model.specs.Effects.{no_of_task, no_of_bot, task_after, added_tasks, bot_after, added_bots, after}
use Rattle.swarm_model.specs.History.{MayFollow}
use Rattle.swarm_model.specs.Soundness.{IsSound, runner}
use Rattle.pool_laws.proofs.Lists.{Among, Found, find_is, find_none, each_append, each_map}
use Rattle.pool_laws.proofs.Preconditions.{runs, waits}
use Rattle.pool_laws.proofs.EntryPreconditions.{finds, fitting}
use Rattle.pool_laws.proofs.Rows.{agree, task_is}
use Rattle.pool_laws.proofs.Bots.{settings_same}
use Rattle.pool_laws.proofs.Numbers.{task_no, bot_no, tasks_numbered, bots_numbered}
use Rattle.index_laws.specs.Touched.{touched_task, touched_bot}
use Rattle.index_laws.specs.RowDeadlines.{task_deadline, task_deadline_of, bot_deadline_of, TaskDeadlinesFollow, BotDeadlinesFollow}
use Rattle.index_laws.proofs.Untouched.{same_task, same_bot, same_contact, added_touched, added_bot_touched, added_bot_next}
use Rattle.index_laws.proofs.NumberedRows.{changed_found, read_same, none_past, deadlines_follow}

module _ (s : PoolState) (e : Entry) (o : IsSound s) (follows : MayFollow s e) where
  abbrev new : PoolState
  new = after s e

  -- a bot is found after the entry as it is changed
  bot_found : (x : BotRow) → Among x s.bots → bot_of new x.no ≡ Some (bot_after e.moment e.kind x)
  bot_found = changed_found no_of_bot (bot_after e.moment e.kind) s.bots (added_bots s e.moment e.kind) o.bots_numbered (bots_numbered s e o follows) (bot_no s e.moment e.kind o (finds s e follows) (fitting s e follows))

  module _ (x : TaskRow) (a : Among x s.tasks) (u : touched_task s e.kind ≡ Some x.no → ⊥) where
    -- the silence deadline by the row of a number, which no new bot has
    same_limit : (n : ℕ) → runner x ≡ Some n → option_map (silence_limit x) (bot_of new n) ≡ option_map (silence_limit x) (bot_of s n)
    same_limit n r = by_bot (bot_of s n) refl
      where
        low : n ≤ length s.bots
        low = subst (λ (k : Option ℕ). IfSome k (λ bot. bot ≤ length s.bots)) r (task_is s o x a).has_bot

        no_new : bot_of s n ≡ None → (y : BotRow) → Among y new.bots → y.no ≡ n → ⊥
        no_new g =
            each_append (λ (y : BotRow). y.no ≡ n → ⊥) (map (bot_after e.moment e.kind) s.bots) (added_bots s e.moment e.kind)
            (each_map (λ (y : BotRow). y.no ≡ n → ⊥) (bot_after e.moment e.kind) s.bots (λ z c p.
            let is : z.no ≡ n = sym (bot_no s e.moment e.kind o (finds s e follows) (fitting s e follows) z c) ∙ p in
            (let none : (z.no == n) ≡ false = find_none (is_bot n) s.bots g z c in let some : (z.no == n) ≡ true = eq-eqb z.no n is in cc (none, some))))
            (λ z c p. let next : z.no ≡ length s.bots + 1 = added_bot_next s o e.moment e.kind (finds s e follows) z c in omega (arith, next, p, low))

        by_new : bot_of s n ≡ None → (q : Option BotRow) → bot_of new n ≡ q → option_map (silence_limit x) q ≡ None
        by_new g None h = refl
        by_new g (Some y) h = (let found : Found (is_bot n) new.bots y = find_is (is_bot n) new.bots y h in absurd (no_new g y found.among (eqb-true y.no n found.passes)))

        by_bot : (q : Option BotRow) → bot_of s n ≡ q → option_map (silence_limit x) (bot_of new n) ≡ option_map (silence_limit x) q
        by_bot None g = by_new g (bot_of new n) refl
        by_bot (Some b) g =
            (let found : Found (is_bot n) s.bots b = find_is (is_bot n) s.bots b g in
            let named : b.no ≡ n = eqb-true b.no n found.passes in
            let run : b.task ≡ Some x.no = (agree s o b found.among x a).1 (r ∙ ap (λ (k : ℕ). Some k) (sym named)) in
            let there : bot_of new n ≡ Some (bot_after e.moment e.kind b) = subst (λ (k : ℕ). bot_of new k ≡ Some (bot_after e.moment e.kind b)) named (bot_found b found.among) in
            ap (option_map (silence_limit x)) there
            ∙ ap (λ (c : ℕ). Some (record { moment = c + x.request.bot_ping_tolerance_secs; cause = cause.Silence; number = x.no })) (same_contact s o b found.among x a run e.moment e.kind (finds s e follows) u))

    -- so the silence deadline of the task stays
    same_silence : silence_end new x ≡ silence_end s x
    same_silence = by_test (runs x) refl x.attempt refl
      where
        by_test : (c : Bool) → runs x ≡ c → (q : Option Attempt) → x.attempt ≡ q →
            cond c (option_map (silence_limit x) (option_and_then (λ (t : Attempt). bot_of new t.bot) q)) None ≡ cond c (option_map (silence_limit x) (option_and_then (λ (t : Attempt). bot_of s t.bot) q)) None
        by_test false p q h = refl
        by_test true p None h = refl
        by_test true p (Some t) h = same_limit t.bot (rw (p, h) refl)

    same_end : task_deadline new (task_after s e.moment e.kind x) ≡ task_deadline s x
    same_end = ap (task_deadline new) (same_task s o e.moment e.kind (finds s e follows) x a u) ∙ ap (λ (d : Option Deadline). cond (waits x) (slice_end x) d) same_silence

  -- what is read of a task that is not touched
  task_deadline_same : (n : ℕ) → (touched_task s e.kind ≡ Some n → ⊥) → task_deadline_of new n ≡ task_deadline_of s n
  task_deadline_same n u =
      read_same no_of_task (task_after s e.moment e.kind) s.tasks (added_tasks e.moment e.kind) o.tasks_numbered (tasks_numbered s e o follows) (task_no s e.moment e.kind o (finds s e follows))
      (task_deadline s) (task_deadline new) n
      (λ x a is. same_end x a (λ t. u (t ∙ ap (λ (k : ℕ). Some k) is)))
      (λ y a is. u (added_touched s e.moment e.kind y a ∙ ap (λ (k : ℕ). Some k) is))

  -- and of a bot
  bot_deadline_same : (n : ℕ) → (touched_bot s e.kind ≡ Some n → ⊥) → bot_deadline_of new n ≡ bot_deadline_of s n
  bot_deadline_same n u =
      read_same no_of_bot (bot_after e.moment e.kind) s.bots (added_bots s e.moment e.kind) o.bots_numbered (bots_numbered s e o follows)
      (bot_no s e.moment e.kind o (finds s e follows) (fitting s e follows)) (bot_end s) (bot_end new) n
      (λ x a is. ap (bot_end new) (same_bot s o e.moment e.kind (finds s e follows) x a (λ t. u (t ∙ ap (λ (k : ℕ). Some k) is)))
      ∙ ap (λ (p : PoolSettings). cond x.dead None (Some (record { moment = x.contact + p.death_timeout_secs; cause = cause.Bot; number = x.no }))) (settings_same s e.moment e.kind))
      (λ y a is. u (added_bot_touched s e.moment e.kind y a ∙ ap (λ (k : ℕ). Some k) is))

pub task_deadlines_follow : TaskDeadlinesFollow
task_deadlines_follow s e o follows ends are covered =
    deadlines_follow (task_deadline_of s) (task_deadline_of (after s e)) (touched_task s e.kind) ends are (task_deadline_same s e o follows)
    (λ n far. none_past no_of_task (task_deadline (after s e)) (after s e).tasks (tasks_numbered s e o follows) n (omega (arith, far, covered)))

pub bot_deadlines_follow : BotDeadlinesFollow
bot_deadlines_follow s e o follows ends are covered =
    deadlines_follow (bot_deadline_of s) (bot_deadline_of (after s e)) (touched_bot s e.kind) ends are (bot_deadline_same s e o follows)
    (λ n far. none_past no_of_bot (bot_end (after s e)) (after s e).bots (bots_numbered s e o follows) n (omega (arith, far, covered)))
