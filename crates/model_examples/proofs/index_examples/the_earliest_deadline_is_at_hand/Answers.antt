use Rattle.std.proofs.Common.{◌≡◌, true, false, refl, arith}
use Rattle.swarm_model.specs.declared.deadline.Cause.TheVariants as cause
use Rattle.model_examples.specs.IndexExamples.{ends}
use Rattle.model_examples.proofs.index_examples.the_earliest_deadline_is_at_hand.Goals as goal

-- the deadline of the slice, which stands at place 1, is earlier
pub returns-clause-queued : goal.returns-clause-queued
returns-clause-queued c = λ first. let earlier : true ≡ false = first.least (ends 10 cause.Slice 9) (1, omega arith, refl) in cc
