-- What is shown of a task has the state that the base and the log tell of it.
use Rattle.std.proofs.Common.{◌≡◌, ℕ, zero, suc, List, Option, Some, subst, sym}
use Rattle.std.specs.List.{All}
use Rattle.std.proofs.lemmas.List.Elements.{All-map, All-take, All-filter}
use Rattle.pool_laws.specs.Types.{TaskState, TaskRow, PoolState, Request, Reply, Decision}
use Rattle.swarm_model.specs.declared.request.Request.TheVariants as ask
use Rattle.swarm_model.specs.declared.reply.Reply.TheVariants as reply
use Rattle.swarm_model.specs.Answers.{decide, named_task, list_tasks}
use Rattle.swarm_model.specs.Before.{verdict_since}
use Rattle.swarm_model.specs.MachineState.{MachineState, HasVerdict, ShowsResult, ShowsVerdict}
use Rattle.swarm_model.specs.Pages.{is_listed, listed_tasks}
use Rattle.swarm_model.specs.Views.{view_of}
use Rattle.pool_laws.proofs.Decisions.{ShowsNone, of_each}
use Rattle.pool_laws.proofs.Lists.{All-reverse}

-- where the base and the log tell the state of each task
module _ (kept : MachineState)
    (tells : (number : ℕ) (task : TaskRow) → named_task kept.pool number 0 ≡ Some task → verdict_since kept.start.rows kept.log task.no ≡ task.state)
    (tells_each : All (λ task. verdict_since kept.start.rows kept.log task.no ≡ task.state) kept.pool.tasks) where
  abbrev s : PoolState
  s = kept.pool

  abbrev Shows : Request → Decision → Type 0
  Shows request told = ShowsVerdict kept request told.reply

  -- each task of a page is one of the rows
  list_shows : (request : Request) (wanted : Option TaskState) (limit : ℕ) (below : Option ℕ) → Shows request (list_tasks s limit (listed_tasks s wanted below))
  list_shows request wanted limit below =
      All-map (HasVerdict kept) (view_of s) _
      (All-take IsTold limit _ (All-reverse IsTold _ (All-filter (is_listed wanted below) IsTold s.tasks tells_each)))
    where
      IsTold : TaskRow → Type 0
      IsTold task = verdict_since kept.start.rows kept.log task.no ≡ task.state

  -- other replies show none
  none_shown : (request : Request) (answered : Reply) → ShowsNone answered → ShowsVerdict kept request answered
  none_shown request (reply.Result view) none = absurd none
  none_shown request (reply.Tasks items cursor) none = absurd none
  none_shown request answered none = tt

  -- a result by the id of the task itself; of a try no more is said
  result_shows : (number try_no : ℕ) (task : TaskRow) → named_task s number try_no ≡ Some task → ShowsResult kept (ask.Result number try_no) (view_of s task)
  result_shows number zero task e = tells number task e
  result_shows number (suc k) task e = tt

  -- so each answer shows what they tell
  pub tell_shows : (who : List ℕ) (m : ℕ) (request : Request) → Shows request (decide s who m request)
  tell_shows who m request =
      of_each s (Shows request) (λ decision plain. none_shown request decision.reply plain.0) who m request (record {
        result = λ number try_no task is e. subst (λ (q : Request). ShowsResult kept q (view_of s task)) (sym is) (result_shows number try_no task e);
        tasks = list_shows request;
        stdout = λ from to state chunks has. tt;
        blob = λ digest blob is. tt;
        update = λ name number tried b t try_no chunk last attempt is. tt;
        put = λ named actual size is same. tt;
      })
