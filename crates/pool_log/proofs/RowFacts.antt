-- What is known of each row of a sound pool.
use Rattle.std.proofs.Common.{get_or, arith}
use Rattle.std.specs.List.{All}
use Rattle.task_props.proofs.Checked.{slices_counted}
use Rattle.swarm_model.specs.declared.pool_state.PoolState.{PoolState}
use Rattle.swarm_model.specs.Soundness.{IsSound}
use Rattle.row_changes.specs.Rows.{HasFewSlices, IsEarly, IsHeard}

pub all_early : (s : PoolState) → IsSound s → All IsEarly s.tasks
all_early s sound = λ k d low. let last = sound.last in let since = (sound.tasks k d low).since in omega (arith, last, since)

pub all_few : (s : PoolState) → IsSound s → All HasFewSlices s.tasks
all_few s sound = λ k d low. (slices_counted (get_or s.tasks k d).request (sound.tasks k d low).checked).1

pub all_heard : (s : PoolState) → IsSound s → All IsHeard s.bots
all_heard s sound = λ k d low. let last = sound.last in let contact = (sound.bots k d low).contact in omega (arith, last, contact)
