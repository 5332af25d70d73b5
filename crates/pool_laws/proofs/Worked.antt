-- The worked logs, entry by entry.
use Rattle.std.proofs.Common.{refl, lit≤}
use Rattle.task_props.specs.Canonical.{hash}
use Rattle.pool_laws.specs.Worked.{ItHappens, RunsEnd, OutcomeIsTaken, OutputIsReported, BlobIsKept, RunIsRetried, repeatable}
use Rattle.pool_laws.proofs.Alike.{same_self}

-- each entry may follow those before it
pub it_happens : ItHappens
it_happens = (
  record { not_before = lit≤ tt; not_late = lit≤ tt; has_cause = record { nothing_due = refl; may_ask = refl; gives = refl } },
  (
    record { not_before = lit≤ tt; not_late = lit≤ tt; has_cause = record { nothing_due = refl; may_ask = refl; gives = refl } },
    (
      record { not_before = lit≤ tt; not_late = lit≤ tt; has_cause = record { nothing_due = refl; may_ask = refl; gives = refl } },
      (
        record { not_before = lit≤ tt; not_late = lit≤ tt; has_cause = record { nothing_due = refl; may_ask = refl; gives = refl } },
        (
          record { not_before = lit≤ tt; not_late = lit≤ tt; has_cause = refl },
          (record { not_before = lit≤ tt; not_late = lit≤ tt; has_cause = refl }, tt),
        ),
      ),
    ),
  ),
)

pub runs_end : RunsEnd
runs_end = (
  record { not_before = lit≤ tt; not_late = lit≤ tt; has_cause = record { nothing_due = refl; may_ask = refl; gives = refl } },
  (
    record { not_before = lit≤ tt; not_late = lit≤ tt; has_cause = record { nothing_due = refl; may_ask = refl; gives = refl } },
    (
      record { not_before = lit≤ tt; not_late = lit≤ tt; has_cause = record { nothing_due = refl; may_ask = refl; gives = refl } },
      (
        record { not_before = lit≤ tt; not_late = lit≤ tt; has_cause = record { nothing_due = refl; may_ask = refl; gives = refl } },
        (
          record { not_before = lit≤ tt; not_late = lit≤ tt; has_cause = record { nothing_due = refl; may_ask = refl; gives = refl } },
          (
            record { not_before = lit≤ tt; not_late = lit≤ tt; has_cause = record { nothing_due = refl; may_ask = refl; gives = refl } },
            (
              record { not_before = lit≤ tt; not_late = lit≤ tt; has_cause = record { nothing_due = refl; may_ask = refl; gives = refl } },
              (record { not_before = lit≤ tt; not_late = lit≤ tt; has_cause = record { nothing_due = refl; may_ask = refl; gives = refl } }, tt),
            ),
          ),
        ),
      ),
    ),
  ),
)

-- the last one takes the outcome, since its slice has the hash of the first one's
pub outcome_is_taken : OutcomeIsTaken
outcome_is_taken = (
  record { not_before = lit≤ tt; not_late = lit≤ tt; has_cause = record { nothing_due = refl; may_ask = refl; gives = refl } },
  (
    record { not_before = lit≤ tt; not_late = lit≤ tt; has_cause = record { nothing_due = refl; may_ask = refl; gives = refl } },
    (
      record { not_before = lit≤ tt; not_late = lit≤ tt; has_cause = record { nothing_due = refl; may_ask = refl; gives = refl } },
      (
        record { not_before = lit≤ tt; not_late = lit≤ tt; has_cause = record { nothing_due = refl; may_ask = refl; gives = refl } },
        (record { not_before = lit≤ tt; not_late = lit≤ tt; has_cause = record { nothing_due = refl; may_ask = refl; gives = rw (same_self (hash repeatable)) refl } }, tt),
      ),
    ),
  ),
)

pub output_is_reported : OutputIsReported
output_is_reported = (
  record { not_before = lit≤ tt; not_late = lit≤ tt; has_cause = record { nothing_due = refl; may_ask = refl; gives = refl } },
  (
    record { not_before = lit≤ tt; not_late = lit≤ tt; has_cause = record { nothing_due = refl; may_ask = refl; gives = refl } },
    (
      record { not_before = lit≤ tt; not_late = lit≤ tt; has_cause = record { nothing_due = refl; may_ask = refl; gives = refl } },
      (
        record { not_before = lit≤ tt; not_late = lit≤ tt; has_cause = record { nothing_due = refl; may_ask = refl; gives = refl } },
        (
          record { not_before = lit≤ tt; not_late = lit≤ tt; has_cause = record { nothing_due = refl; may_ask = refl; gives = refl } },
          (record { not_before = lit≤ tt; not_late = lit≤ tt; has_cause = record { nothing_due = refl; may_ask = refl; gives = refl } }, tt),
        ),
      ),
    ),
  ),
)

pub blob_is_kept : BlobIsKept
blob_is_kept = (
  record { not_before = lit≤ tt; not_late = lit≤ tt; has_cause = record { nothing_due = refl; may_ask = refl; gives = refl } },
  (
    record { not_before = lit≤ tt; not_late = lit≤ tt; has_cause = record { nothing_due = refl; may_ask = refl; gives = refl } },
    (
      record { not_before = lit≤ tt; not_late = lit≤ tt; has_cause = refl },
      (
        record { not_before = lit≤ tt; not_late = lit≤ tt; has_cause = refl },
        (record { not_before = lit≤ tt; not_late = lit≤ tt; has_cause = refl }, tt),
      ),
    ),
  ),
)

-- the lost run is tried again, so the second claim finds the task
pub run_is_retried : RunIsRetried
run_is_retried = (
  record { not_before = lit≤ tt; not_late = lit≤ tt; has_cause = record { nothing_due = refl; may_ask = refl; gives = refl } },
  (
    record { not_before = lit≤ tt; not_late = lit≤ tt; has_cause = record { nothing_due = refl; may_ask = refl; gives = refl } },
    (
      record { not_before = lit≤ tt; not_late = lit≤ tt; has_cause = record { nothing_due = refl; may_ask = refl; gives = refl } },
      (
        record { not_before = lit≤ tt; not_late = lit≤ tt; has_cause = record { nothing_due = refl; may_ask = refl; gives = refl } },
        (
          record { not_before = lit≤ tt; not_late = lit≤ tt; has_cause = record { nothing_due = refl; may_ask = refl; gives = refl } },
          (
            record { not_before = lit≤ tt; not_late = lit≤ tt; has_cause = record { nothing_due = refl; may_ask = refl; gives = refl } },
            (record { not_before = lit≤ tt; not_late = lit≤ tt; has_cause = record { nothing_due = refl; may_ask = refl; gives = refl } }, tt),
          ),
        ),
      ),
    ),
  ),
)
