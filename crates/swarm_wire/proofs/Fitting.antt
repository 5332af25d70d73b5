-- Which requests fit their pools.
use Rattle.std.proofs.Common.{◌≡◌, ℕ, true, List, ◌∙◌, sym}
use Rattle.std.specs.Prelude.{IsTrue, IsSomeAnd, Option, Some, None, slice_get}
use Rattle.std.proofs.lemmas.Bool.{and_from}
use Rattle.dimensions.specs.Alike.{same, same_laws}
use Rattle.task_props.specs.declared.new_task.NewTask.{NewTask}
use Rattle.task_props.specs.Checked.{is_checked, pool_of_task}
use Rattle.swarm_model.specs.declared.pool_settings.PoolSettings.{PoolSettings}
use Rattle.swarm_model.specs.declared.request.Request.TheVariants as ask
use Rattle.swarm_model.specs.Fits.{fits}

task_fits : (pool : PoolSettings) (task : NewTask) → is_checked task ≡ true → IsTrue (same pool.name (pool_of_task task)) → IsTrue (fits pool (ask.New task))
task_fits pool task checked named = and_from _ _ checked (sym (same_laws.symm pool.name (pool_of_task task)) ∙ named)

fits_where : (found : Option PoolSettings) (task : NewTask) → is_checked task ≡ true → IsSomeAnd found (λ pool. IsTrue (same pool.name (pool_of_task task))) → IsSomeAnd found (λ pool. IsTrue (fits pool (ask.New task)))
fits_where None task checked named = named
fits_where (Some pool) task checked named = task_fits pool task checked named

-- a checked task fits the pool of its name
pub new_fits : (pools : List PoolSettings) (place : ℕ) (task : NewTask) → is_checked task ≡ true
    → IsSomeAnd (slice_get pools place) (λ pool. IsTrue (same pool.name (pool_of_task task))) → IsSomeAnd (slice_get pools place) (λ pool. IsTrue (fits pool (ask.New task)))
new_fits pools place task = fits_where (slice_get pools place) task
