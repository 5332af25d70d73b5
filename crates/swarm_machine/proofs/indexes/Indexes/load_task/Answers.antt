-- The row has what no row before it has, and brings what it has itself.
use Rattle.std.proofs.Common.{List, Option, IfSome, refl, sym, subst}
use Rattle.swarm_machine.specs.Types.{Deadline, ClaimLink}
use Rattle.pool_index.specs.Claims as claims
use Rattle.index_laws.specs.Loads.{lost_claim_link}
use Rattle.swarm_machine.specs.Loading.{IsEndSet}
use Rattle.swarm_machine.proofs.Loading.{waits_nowhere, task_early, new_claims, new_uuid, room_for_row, few_counts, task_gained}
use Rattle.swarm_machine.proofs.indexes.Indexes.load_task.Goals as goal

pub load_queue-requires : goal.load_queue-requires
load_queue-requires c =
    waits_nowhere c.args.base.now c.requires.may c.args.place c.requires.low c.index-as_slice-place.result (rw c.as_slice.ensures at c.index-as_slice-place.is) c.args.self.now.queues.queues c.requires.before.queues

pub task_end-requires-clause-early : goal.task_end-requires-clause-early
task_end-requires-clause-early c =
    task_early c.args.base.now c.requires.may c.args.place c.requires.low c.index-as_slice-place.result (rw c.as_slice.ensures at c.index-as_slice-place.is)

pub load_claim-requires : goal.load_claim-requires
load_claim-requires c =
    (new_claims c.args.base.now c.requires.may c.args.place c.requires.low c.index-as_slice-place.result (rw c.as_slice.ensures at c.index-as_slice-place.is) c.args.self.now.claims.links c.requires.before.claims).last

pub load_lost_claim-requires : goal.load_lost_claim-requires
load_lost_claim-requires c =
    subst (λ (links : List ClaimLink). IfSome (lost_claim_link c.index-as_slice-place.result) (λ link. claims.HasNone links (claims.key_of link))) (sym c.in_ok-load_claim.ensures)
    (new_claims c.args.base.now c.requires.may c.args.place c.requires.low c.index-as_slice-place.result (rw c.as_slice.ensures at c.index-as_slice-place.is) c.args.self.now.claims.links c.requires.before.claims).lost

pub load_uuid-requires : goal.load_uuid-requires
load_uuid-requires c =
    new_uuid c.args.base.now c.requires.may c.args.place c.requires.low c.index-as_slice-place.result (rw c.as_slice.ensures at c.index-as_slice-place.is) c.args.self.now.uuids.links c.requires.before.uuids

pub load_uses-requires : goal.load_uses-requires
load_uses-requires c =
    room_for_row c.args.base.now c.requires.may c.args.place c.requires.low c.index-as_slice-place.result (rw c.as_slice.ensures at c.index-as_slice-place.is) c.args.self.now.uses c.requires.before.uses

pub shift_counts-self-requires : goal.shift_counts-self-requires
shift_counts-self-requires c =
    few_counts c.args.base.now c.requires.may c.args.place c.requires.low c.index-as_slice-place.result (rw c.as_slice.ensures at c.index-as_slice-place.is) c.args.self.now.counts c.requires.before.counts

pub returns : goal.returns
returns c =
    let base = c.args.base.now in
    let row = c.index-as_slice-place.result in
    task_gained base c.requires.may c.args.place c.requires.low row (rw c.as_slice.ensures at c.index-as_slice-place.is) c.args.self.now _ c.load_claim.new.index.links c.requires.before
    c.in_ok-load_queue.ensures (subst (λ (end : Option Deadline). IsEndSet row.no end c.args.self.now.task_ends c.load_end.new.ends) c.task_end.ensures c.in_ok-load_end.ensures)
    c.in_ok-load_claim.ensures c.in_ok-load_lost_claim.ensures c.in_ok-load_uuid.ensures c.in_ok-load_source.ensures c.in_ok-load_uses.ensures c.shift_counts-self.ensures refl refl
