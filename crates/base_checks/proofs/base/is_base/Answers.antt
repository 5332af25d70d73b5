-- The rows are a base where each group of rules is kept, and none where one is not.
use Rattle.std.proofs.Common.{◌≡◌, ℕ, true}
use Rattle.swarm_model.specs.declared.pool_state.PoolState.{PoolState}
use Rattle.swarm_model.specs.BaseRules.{HasWhatIsUsed, IsBase}
use Rattle.base_checks.specs.RowRules.{is_within_limits, have_right_rows}
use Rattle.base_checks.specs.Bases.{IsWithinLimits, HaveRightRows, HaveOwnKeys}
use Rattle.base_checks.proofs.Tests.{met, missed, told_as_ok, kept, broken}
use Rattle.base_checks.proofs.RightRows.{limits_decide, rows_decide}
use Rattle.base_checks.proofs.Whole.{limits_of, numbers_of, rows_of, agreement_of, keys_of, used_of, base_of}
use Rattle.base_checks.proofs.base.is_base.Goals as goal

within : (count : ℕ) (s : PoolState) → true ≡ is_within_limits count s → IsWithinLimits count s
within count s e = met (IsWithinLimits count s) (is_within_limits count s) (limits_decide count s) e

right : (s : PoolState) → true ≡ have_right_rows s → HaveRightRows s
right s e = met (HaveRightRows s) (have_right_rows s) (rows_decide s) e

pub are_in_agreement-requires : goal.are_in_agreement-requires
are_in_agreement-requires c =
    let s = c.args.base.now in
    let limits : IsWithinLimits c.args.count s = within c.args.count s c.if-not-is_within_limits.ensures in
    record { last = limits.last; numbers = c.if-not-have_numbers.ensures; rows = right s c.if-not-have_right_rows.ensures }

pub have_own_keys-requires : goal.have_own_keys-requires
have_own_keys-requires c = record { numbers = c.if-not-have_numbers.ensures; rows = right c.args.base.now c.if-not-have_right_rows.ensures }

pub returns-then-not-is_within_limits : goal.returns-then-not-is_within_limits
returns-then-not-is_within_limits c = λ base.
    let s = c.args.base.now in
    missed (IsWithinLimits c.args.count s) (is_within_limits c.args.count s) (limits_decide c.args.count s) c.if-not-is_within_limits.ensures (limits_of s c.args.count base)

pub returns-then-not-have_numbers : goal.returns-then-not-have_numbers
returns-then-not-have_numbers c = λ base. c.if-not-have_numbers.ensures (numbers_of c.args.base.now c.args.count base)

pub returns-then-not-have_right_rows : goal.returns-then-not-have_right_rows
returns-then-not-have_right_rows c = λ base.
    let s = c.args.base.now in missed (HaveRightRows s) (have_right_rows s) (rows_decide s) c.if-not-have_right_rows.ensures (rows_of s c.args.count base)

pub returns-then-not-are_in_agreement : goal.returns-then-not-are_in_agreement
returns-then-not-are_in_agreement c = λ base. c.if-not-are_in_agreement.ensures (agreement_of c.args.base.now c.args.count base)

pub returns-then-not-own : goal.returns-then-not-own
returns-then-not-own c = λ base.
    let s = c.args.base.now in broken (HaveOwnKeys s) c.in_ok-own.own c.in_ok-own.ensures c.if-not-own.true (keys_of s c.args.count base)

pub returns : goal.returns
returns c =
    let s = c.args.base.now in
    told_as_ok (HasWhatIsUsed s) (IsBase s.settings c.args.count s) c.are_served.result
    (base_of s c.args.count (within c.args.count s c.if-not-is_within_limits.ensures) c.if-not-have_numbers.ensures (right s c.if-not-have_right_rows.ensures) c.if-not-are_in_agreement.ensures
    (kept (HaveOwnKeys s) c.in_ok-own.own c.in_ok-own.ensures c.if-not-own.false))
    (used_of s c.args.count)
    (rw (c.as_slice.ensures, c.as_slice-2.ensures) at c.are_served.ensures)
