use Rattle.std.proofs.Common.{map, subst, nat_eq}
use Rattle.std.specs.HashMap.{get}
use Rattle.dim_queue.specs.Plain.{QueuesState, SameWaits}
use Rattle.dim_queue.specs.QueueList.{state_of}
use Rattle.dim_queue.proofs.Following.{same_tasks, same_placed, same_known, same_order, same_waits}
use Rattle.dim_queue.proofs.queues.Queues.reserve.Goals as goal

pub invariant_of-self : goal.invariant_of-self
invariant_of-self c =
    let i = c.self.inside in
    let states = map state_of i.queues.items in
    record {
      apart = c.self.invariant.apart;
      order = c.self.invariant.order;
      placed = same_placed states states (same_tasks states) (get nat_eq i.places) (get nat_eq c.reserve_place.new.places) c.reserve_place.ensures.same c.self.invariant.placed;
      known = same_known states states (same_tasks states) (get nat_eq i.places) (get nat_eq c.reserve_place.new.places) c.reserve_place.ensures.same c.self.invariant.known;
      prepared = tt;
    }

pub invariant_of-self-in_err-at : goal.invariant_of-self-in_err-at
invariant_of-self-in_err-at c =
    let i = c.self.inside in
    let old = map state_of i.queues.items in
    let new = map state_of c.reserve_for.new.queues.items in
    record {
      apart = c.reserve_for.ensures.apart;
      order = same_order old new c.reserve_for.ensures.same c.self.invariant.order;
      placed = same_placed old new c.reserve_for.ensures.same (get nat_eq i.places) (get nat_eq c.reserve_place.new.places) c.reserve_place.ensures.same c.self.invariant.placed;
      known = same_known old new c.reserve_for.ensures.same (get nat_eq i.places) (get nat_eq c.reserve_place.new.places) c.reserve_place.ensures.same c.self.invariant.known;
      prepared = tt;
    }

pub returns-in_err-at-clause-same : goal.returns-in_err-at-clause-same
returns-in_err-at-clause-same c =
    let new = map state_of c.reserve_for.new.queues.items in
    subst (λ (k : QueuesState). SameWaits k.queues new) c.self.view_is (same_waits (map state_of c.self.inside.queues.items) new c.reserve_for.ensures.same)

pub invariant_of-self-2 : goal.invariant_of-self-2
invariant_of-self-2 c =
    let i = c.self.inside in
    let old = map state_of i.queues.items in
    let new = map state_of c.reserve_for.new.queues.items in
    record {
      apart = c.reserve_for.ensures.apart;
      order = same_order old new c.reserve_for.ensures.same c.self.invariant.order;
      placed = same_placed old new c.reserve_for.ensures.same (get nat_eq i.places) (get nat_eq c.reserve_place.new.places) c.reserve_place.ensures.same c.self.invariant.placed;
      known = same_known old new c.reserve_for.ensures.same (get nat_eq i.places) (get nat_eq c.reserve_place.new.places) c.reserve_place.ensures.same c.self.invariant.known;
      prepared = (c.in_ok-at.ensures.room, c.in_ok-reserve_place.ensures.room);
    }

pub returns-clause-same : goal.returns-clause-same
returns-clause-same c =
    let new = map state_of c.reserve_for.new.queues.items in
    subst (λ (k : QueuesState). SameWaits k.queues new) c.self.view_is (same_waits (map state_of c.self.inside.queues.items) new c.reserve_for.ensures.same)
