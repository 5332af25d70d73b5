-- What no entry changes of a task.
use Rattle.std.proofs.Common.{◌≡◌, ℕ, List, Option, refl}
use Rattle.pool_laws.specs.Types.{NewTask, TaskRow, PoolState, EntryKind, Outcome}
use Rattle.swarm_model.specs.declared.entry.Outcome.TheVariants as outcome
use Rattle.swarm_model.specs.Deadlines.{next_of}
use Rattle.swarm_model.specs.Effects.{task_after, expired_slice}
use Rattle.swarm_model.specs.Soundness.{IsSound}
use Rattle.pool_laws.proofs.Lists.{Among}
use Rattle.pool_laws.proofs.Preconditions.{Finds}
use Rattle.pool_laws.proofs.Rows.{task_by, lost_is}

-- what a task has from the entry that adds it
pub record Origin : Type 0 where
  pub no : ℕ
  pub created : ℕ
  pub creator : List ℕ
  pub request : NewTask
  pub source : Option ℕ

abbrev pub origin_of : TaskRow → Origin
origin_of x = record { no = x.no; created = x.created; creator = x.creator; request = x.request; source = x.source }

pub origin_same : (s : PoolState) (m : ℕ) (k : EntryKind) → IsSound s → Finds s k → (x : TaskRow) → Among x s.tasks → origin_of (task_after s m k x) ≡ origin_of x
origin_same s m k o f x a =
    task_by (λ (y : TaskRow). origin_of y ≡ origin_of x) s m o x a k f (record {
      same = refl;
      moves = λ w. by_outcome (next_of s x);
      loses = λ w. lost_is (λ (y : TaskRow). origin_of y ≡ origin_of x) s.settings.retries m x (λ t. refl) (λ t. refl);
      begins = λ b t id is found w own. refl;
      cancels = λ w. refl;
      marks = λ w. refl;
      grows = λ chunk fresh g w. refl;
      finishes = λ chunk last report y w e. e;
    })
  where
    by_outcome : (to : Outcome) → origin_of (expired_slice m to x) ≡ origin_of x
    by_outcome (outcome.Slice place) = refl
    by_outcome (outcome.Ended state) = refl
