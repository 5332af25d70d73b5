-- The worked log of a base, entry by entry.
use Rattle.std.proofs.Common.{refl, lit≤}
use Rattle.pool_laws.specs.WorkedBase.{TaskMoves}

-- each entry may follow those before it
pub task_moves : TaskMoves
task_moves = (
  record { not_before = lit≤ tt; not_late = lit≤ tt; has_cause = record { nothing_due = refl; may_ask = refl; gives = refl } },
  (
    record { not_before = lit≤ tt; not_late = lit≤ tt; has_cause = record { nothing_due = refl; may_ask = refl; gives = refl } },
    (
      record { not_before = lit≤ tt; not_late = lit≤ tt; has_cause = record { nothing_due = refl; may_ask = refl; gives = refl } },
      (
        record { not_before = lit≤ tt; not_late = lit≤ tt; has_cause = record { nothing_due = refl; may_ask = refl; gives = refl } },
        (
          record { not_before = lit≤ tt; not_late = lit≤ tt; has_cause = record { nothing_due = refl; may_ask = refl; gives = refl } },
          (
            record { not_before = lit≤ tt; not_late = lit≤ tt; has_cause = refl },
            (
              record { not_before = lit≤ tt; not_late = lit≤ tt; has_cause = record { nothing_due = refl; may_ask = refl; gives = refl } },
              (record { not_before = lit≤ tt; not_late = lit≤ tt; has_cause = record { nothing_due = refl; may_ask = refl; gives = refl } }, tt),
            ),
          ),
        ),
      ),
    ),
  ),
)
