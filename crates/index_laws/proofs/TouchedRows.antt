-- A task that an entry touches has not ended before it.
use Rattle.std.proofs.Common.{◌≡◌, ℕ, true, false, sym, refl, arith, Some}
use Rattle.std.proofs.lemmas.Bool.{eq-eqb}
use Rattle.std.proofs.lemmas.Option.{same_Some}
use Rattle.index_laws.specs.Types.{TaskState, Pending, Running, TaskRow, PoolState, EntryKind}
use Rattle.swarm_model.specs.declared.entry.EntryKind.TheVariants as kind
use Rattle.swarm_model.specs.Finding.{is_state, is_final}
use Rattle.swarm_model.specs.Effects.{no_of_task, run_of_bot}
use Rattle.swarm_model.specs.Soundness.{IsSound}
use Rattle.pool_laws.proofs.Lists.{Among, number_within}
use Rattle.pool_laws.proofs.Preconditions.{Finds, HasTask, waits, runs}
use Rattle.pool_laws.proofs.Rows.{HasRun, agree, row_is, run_is, has_runner, claim_waits, update_runs}
use Rattle.index_laws.specs.Touched.{touched_task}

waits_on : (state : TaskState) → is_state state Pending ≡ true → is_final state ≡ false
waits_on Pending e = refl
waits_on state e = absurd (cc (e))

runs_on : (state : TaskState) → is_state state Running ≡ true → is_final state ≡ false
runs_on Running e = refl
runs_on state e = absurd (cc (e))

module _ (s : PoolState) (o : IsSound s) (x : TaskRow) (a : Among x s.tasks) where
  -- the task that a bot runs does
  pub run_of_bot_runs : (b : ℕ) → run_of_bot s b ≡ Some x.no → runs x ≡ true
  run_of_bot_runs b e = let h : HasRun s b x.no = run_is s b x.no e in has_runner x h.bot.no ((agree s o h.bot h.among x a).0 h.task)

  -- the row of a number that waits
  of_waiting : (t : ℕ) → HasTask s t waits → Some t ≡ Some x.no → is_final x.state ≡ false
  of_waiting t h u = waits_on x.state (row_is s o t waits h x a (eq-eqb x.no t (sym (same_Some _ _ u))))

  -- or runs
  of_running : (t : ℕ) → HasTask s t runs → Some t ≡ Some x.no → is_final x.state ≡ false
  of_running t h u = runs_on x.state (row_is s o t runs h x a (eq-eqb x.no t (sym (same_Some _ _ u))))

  of_bot : (b : ℕ) → run_of_bot s b ≡ Some x.no → is_final x.state ≡ false
  of_bot b e = runs_on x.state (run_of_bot_runs b e)

  pub touched_goes_on : (k : EntryKind) → Finds s k → touched_task s k ≡ Some x.no → is_final x.state ≡ false
  touched_goes_on (kind.Slice t to) f u = of_waiting t f.waiting u
  touched_goes_on (kind.Silence t) f u = of_running t f u
  touched_goes_on (kind.New t who request state slice from) f u =
      absurd (let low = (number_within no_of_task 1 s.tasks o.tasks_numbered x a).1 in let next = f.next in let is : t ≡ x.no = same_Some _ _ u in omega (arith, low, next, is))
  touched_goes_on (kind.Cancel t) f u = of_waiting t f u
  touched_goes_on (kind.Kill t) f u = of_running t f u
  touched_goes_on (kind.Handshake b id session dims q) f u = of_bot b u
  touched_goes_on (kind.Poll b dims q hint) f u = of_bot b u
  touched_goes_on (kind.Claim b t id) f u = of_waiting t (claim_waits s b t id f) u
  touched_goes_on (kind.Contact b) f u = of_bot b u
  touched_goes_on (kind.Event b w text) f u = of_bot b u
  touched_goes_on (kind.Update b t try_no chunk last) f u = of_running t (update_runs s o b t chunk last f) u
  touched_goes_on k f u = absurd (cc (u))
