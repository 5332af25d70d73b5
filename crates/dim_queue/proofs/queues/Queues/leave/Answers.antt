use Rattle.std.proofs.Common.{◌≡◌, ◌<◌, ◌≤◌, ℕ, List, length, map, get_or, sym, ap, ◌∙◌, subst, arith, Option, Some, None, IfSome, nat_eq, inl, inr}
use Rattle.std.proofs.lemmas.List.{length-map}
use Rattle.std.proofs.lemmas.Bool.{cases_eq}
use Rattle.std.specs.HashMap.{get, spare}
use Rattle.dim_queue.specs.Plain.{QueuesState, Leaves}
use Rattle.dim_queue.specs.QueueList.{state_of, room_of}
use Rattle.dim_queue.proofs.Apart.{apart_others}
use Rattle.dim_queue.proofs.Following.{leave_placed, leave_known, leave_waits, leaves_nothing, same_tasks, same_placed, same_known}
use Rattle.dim_queue.proofs.queues.Queues.leave.Goals as goal

-- what was ready stays ready
still_ready : (o : Option ℕ) (old new : List ℕ) (less more : ℕ) → ((k : ℕ) → get_or old k 0 ≤ get_or new k 0) → less ≤ more →
    IfSome o (λ at. (0 < get_or old at 0) × (0 < less)) → IfSome o (λ at. (0 < get_or new at 0) × (0 < more))
still_ready None old new less more rooms le h = tt
still_ready (Some at) old new less more rooms le h = (let r = rooms at in let q = h.0 in omega (arith, r, q), let q = h.1 in omega arith)

pub invariant_of-self : goal.invariant_of-self
invariant_of-self c =
    let i = c.self.inside in
    let old = map state_of i.queues.items in
    let new = map state_of c.remove_in.new.queues.items in
    let before = get nat_eq i.places in
    let after = get nat_eq c.remove_place.new.places in
    let found = sym c.in-Some.ensures.value in
    let size : length new ≡ length old = length-map c.remove_in.new.queues.items state_of ∙ c.remove_in.ensures.count ∙ sym (length-map i.queues.items state_of) in
    record {
      apart = apart_others old new c.in-Some.place.queue size c.remove_in.ensures.others c.self.invariant.apart;
      order = c.remove_in.ensures.order;
      placed = leave_placed old new before after c.in-Some.place c.args.no c.self.invariant.placed c.self.invariant.known found c.remove_place.ensures.own c.remove_place.ensures.others c.remove_in.ensures.others c.remove_in.ensures.removes;
      known = leave_known old new before after c.in-Some.place c.args.no c.self.invariant.placed c.self.invariant.known found c.remove_place.ensures.own c.remove_place.ensures.others c.remove_in.ensures.others c.remove_in.ensures.removes;
      prepared = still_ready i.ready (map room_of i.queues.items) (map room_of c.remove_in.new.queues.items) (spare i.places) (spare c.remove_place.new.places) c.remove_in.ensures.rooms c.remove_place.ensures.spare c.self.invariant.prepared;
    }

pub invariant_of-self-in_default : goal.invariant_of-self-in_default
invariant_of-self-in_default c =
    let i = c.self.inside in
    let states = map state_of i.queues.items in
    let before = get nat_eq i.places in
    let after = get nat_eq c.remove_place.new.places in
    let none : before c.args.no ≡ None = sym c.remove_place.ensures.value ∙ c.in_default.is in
    let alike : (q : ℕ) → after q ≡ before q = λ q. elim (cases_eq q c.args.no) [
      | inl e ↦ ap after e ∙ c.remove_place.ensures.own ∙ sym (ap before e ∙ none)
      | inr ne ↦ c.remove_place.ensures.others q ne
    ] in
    let rooms = map room_of i.queues.items in
    record {
      apart = c.self.invariant.apart;
      order = c.self.invariant.order;
      placed = same_placed states states (same_tasks states) before after alike c.self.invariant.placed;
      known = same_known states states (same_tasks states) before after alike c.self.invariant.known;
      prepared = still_ready i.ready rooms rooms (spare i.places) (spare c.remove_place.new.places) (λ k. omega arith) c.remove_place.ensures.spare c.self.invariant.prepared;
    }

pub returns-in-Some-clause-leaves : goal.returns-in-Some-clause-leaves
returns-in-Some-clause-leaves c =
    let i = c.self.inside in
    let old = map state_of i.queues.items in
    let new = map state_of c.remove_in.new.queues.items in
    let found = sym c.in-Some.ensures.value in
    subst (λ (k : QueuesState). Leaves c.args.no k.queues new) c.self.view_is
    (leave_waits old new (get nat_eq i.places) (get nat_eq c.remove_place.new.places) c.in-Some.place c.args.no c.self.invariant.placed c.self.invariant.known found c.remove_place.ensures.own c.remove_place.ensures.others c.remove_in.ensures.others c.remove_in.ensures.removes)

pub returns-in_default-clause-leaves : goal.returns-in_default-clause-leaves
returns-in_default-clause-leaves c =
    let i = c.self.inside in
    let states = map state_of i.queues.items in
    let none : get nat_eq i.places c.args.no ≡ None = sym c.remove_place.ensures.value ∙ c.in_default.is in
    subst (λ (k : QueuesState). Leaves c.args.no k.queues states) c.self.view_is (leaves_nothing states (get nat_eq i.places) c.args.no c.self.invariant.placed none)

pub returns-in-Some-clause-count : goal.returns-in-Some-clause-count
returns-in-Some-clause-count c =
    let old = c.self.inside.queues.items in
    let new = c.remove_in.new.queues.items in
    length-map new state_of ∙ c.remove_in.ensures.count ∙ sym (length-map old state_of) ∙ ap (λ (k : QueuesState). length k.queues) c.self.view_is
