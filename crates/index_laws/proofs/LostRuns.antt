-- A run that is lost and tried again is the only one of its task.
use Rattle.std.proofs.Common.{◌≡◌, ◌==◌, not, true, refl, arith, Option, Some, None, IfSome, eqb-true}
use Rattle.std.proofs.lemmas.Bool.{and_parts}
use Rattle.index_laws.specs.Types.{Attempt, Retried, TaskRow, PoolState}
use Rattle.swarm_model.specs.Effects.{is_first_run, is_idempotent, is_tried_again}
use Rattle.swarm_model.specs.Soundness.{IsSound, IsRightTry}
use Rattle.pool_laws.proofs.Lists.{Among}
use Rattle.pool_laws.proofs.Rows.{task_is}

-- the first run of a task has none before it
first_alone : (o : Option Retried) (r : Option Attempt) → is_first_run r ≡ true → IfSome r (IsRightTry o) → o ≡ None
first_alone o None first h = absurd (cc (first))
first_alone None (Some a) first h = refl
first_alone (Some lost) (Some a) first h =
    let one : a.try_no ≡ 1 = eqb-true a.try_no 1 (and_parts (a.try_no == 1) (not a.kill) first).0 in
    let two : a.try_no ≡ 2 = h.0 in
    absurd (omega (arith, one, two))

pub none_before : (s : PoolState) → IsSound s → (x : TaskRow) → Among x s.tasks → is_tried_again s.settings.retries x ≡ true → x.retried ≡ None
none_before s o x a t =
    first_alone x.retried x.attempt (and_parts (is_first_run x.attempt) (is_idempotent x) (and_parts (s.settings.retries == 1) _ t).1).0 (task_is s o x a).tries
