-- The rules on rows that name each other are all kept, or one is not.
use Rattle.std.proofs.Common.{AllPairs}
use Rattle.base_checks.specs.Rows.{HasLowerNumber}
use Rattle.base_checks.specs.Bases.{AreInAgreement}
use Rattle.base_checks.proofs.Tests.{told_as}
use Rattle.base_checks.proofs.Taken.{outcomes_of, passed_outcomes}
use Rattle.base_checks.proofs.Whole.{are_early, are_heard}
use Rattle.base_checks.proofs.base.are_in_agreement.Goals as goal

pub are_ahead-requires : goal.are_ahead-requires
are_ahead-requires c =
    let s = c.args.base.now in
    record { numbered = c.requires.numbers.bots; early = are_early s c.requires.rows c.requires.last; heard = are_heard s c.requires.rows c.requires.last }

pub returns-then-not-are_ahead : goal.returns-then-not-are_ahead
returns-then-not-are_ahead c = λ h. c.if-not-are_ahead.ensures h.ahead

pub returns-then-not-name_each_other : goal.returns-then-not-name_each_other
returns-then-not-name_each_other c = λ h. c.if-not-name_each_other.ensures (rw (c.as_slice.ensures, c.as_slice-tasks.ensures) h.runs)

pub returns-then-not-have_outcomes : goal.returns-then-not-have_outcomes
returns-then-not-have_outcomes c = λ h. c.if-not-have_outcomes.ensures (rw c.as_slice-tasks.ensures (passed_outcomes c.args.base.now h.outcomes))

pub returns-then-not-are_in_order : goal.returns-then-not-are_in_order
returns-then-not-are_in_order c = λ h. c.if-not-are_in_order.ensures (rw c.as_slice-tasks.ensures h.order)

pub returns : goal.returns
returns c =
    let s = c.args.base.now in
    told_as (AllPairs HasLowerNumber s.blobs) (AreInAgreement s) c.have_rising_numbers.result
    (λ h. record {
      ahead = c.if-not-are_ahead.ensures;
      runs = rw (c.as_slice.ensures, c.as_slice-tasks.ensures) at c.if-not-name_each_other.ensures;
      outcomes = outcomes_of s (rw c.as_slice-tasks.ensures at c.if-not-have_outcomes.ensures);
      order = rw c.as_slice-tasks.ensures at c.if-not-are_in_order.ensures;
      rising = h;
    })
    (λ h. h.rising)
    (rw c.as_slice-blobs.ensures at c.have_rising_numbers.ensures)
