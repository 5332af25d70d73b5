-- The worked log, entry by entry, and the rows to which it leads.
use Rattle.std.proofs.Common.{◌≡◌, ◌≤◌, refl, subst, lit≤, arith}
use Rattle.swarm_model.specs.declared.pool_state.PoolState.{PoolState}
use Rattle.swarm_model.specs.Effects.{opening}
use Rattle.swarm_model.specs.History.{replay}
use Rattle.swarm_model.specs.BaseRules.{IsBase}
use Rattle.pool_laws.specs.Worked.{retrying, first_chunk}
use Rattle.pool_laws.specs.WorkedRules.{BaseIsReached, NeedsItsOutput, IsTooHeavy, lost_log, lost_rows}
use Rattle.pool_laws.proofs.BaseLaws.{leads_to_base, opening_base}

-- the run is tried again, so the second claim finds the task
pub base_is_reached : BaseIsReached
base_is_reached = (
  record { not_before = lit≤ tt; not_late = lit≤ tt; has_cause = record { nothing_due = refl; may_ask = refl; gives = refl } },
  (
    record { not_before = lit≤ tt; not_late = lit≤ tt; has_cause = record { nothing_due = refl; may_ask = refl; gives = refl } },
    (
      record { not_before = lit≤ tt; not_late = lit≤ tt; has_cause = record { nothing_due = refl; may_ask = refl; gives = refl } },
      (
        record { not_before = lit≤ tt; not_late = lit≤ tt; has_cause = record { nothing_due = refl; may_ask = refl; gives = refl } },
        (
          record { not_before = lit≤ tt; not_late = lit≤ tt; has_cause = record { nothing_due = refl; may_ask = refl; gives = refl } },
          (
            record { not_before = lit≤ tt; not_late = lit≤ tt; has_cause = record { nothing_due = refl; may_ask = refl; gives = refl } },
            (record { not_before = lit≤ tt; not_late = lit≤ tt; has_cause = record { nothing_due = refl; may_ask = refl; gives = refl } }, tt),
          ),
        ),
      ),
    ),
  ),
)

pub rows_are : replay (opening retrying) lost_log ≡ lost_rows
rows_are = refl

-- the empty rows are a base, so these are
pub rows_are_base : IsBase retrying 7 lost_rows
rows_are_base =
    subst (λ (s : PoolState). IsBase retrying 7 s) rows_are
    (leads_to_base retrying 0 (opening retrying) lost_log (opening_base retrying 0 (lit≤ tt)) base_is_reached (lit≤ tt) (lit≤ tt))

-- the digest of the chunk is used and has no row
pub needs_output : NeedsItsOutput
needs_output b = let there = b.rows.used first_chunk.digest refl in cc (there)

pub too_heavy : IsTooHeavy
too_heavy b = let low : 132 ≤ 131 = b.light in omega (arith, low)
