use Rattle.std.proofs.Common.{◌≡◌, ℕ, length, map, sym, ap, ◌∙◌, subst, Option, Some, nat_eq}
use Rattle.std.proofs.lemmas.List.{length-map}
use Rattle.std.specs.Option.{option_map}
use Rattle.std.specs.HashMap.{get}
use Rattle.dim_queue.specs.Taking.{set_with}
use Rattle.dim_queue.specs.declared.queue_set.QueueSet.{QueueSet}
use Rattle.dim_queue.specs.declared.waiting.Waiting.{Waiting}
use Rattle.dim_queue.specs.Plain.{QueuesState, queue_at, Enters, IsAbsent}
use Rattle.dim_queue.specs.QueueList.{state_of}
use Rattle.dim_queue.proofs.Apart.{apart_others}
use Rattle.dim_queue.proofs.Following.{waits_at, one_at, enter_placed, enter_known, enter_waits}
use Rattle.dim_queue.proofs.queues.Queues.enter.Goals as goal

pub push_waiting-requires-clause-new : goal.push_waiting-requires-clause-new
push_waiting-requires-clause-new c =
    let states = map state_of c.self.inside.queues.items in
    let absent = subst (λ (k : QueuesState). IsAbsent c.args.no k.queues) (sym c.self.view_is) c.requires.absent in
    λ w there e. absent w (queue_at states c.in-Some.at).set (waits_at c.in-Some.at w there) (ap (λ (v : Waiting). v.number) e)

pub invariant_of-self : goal.invariant_of-self
invariant_of-self c =
    let i = c.self.inside in
    let old = map state_of i.queues.items in
    let new = map state_of c.push_waiting.new.queues.items in
    let before = get nat_eq i.places in
    let after = get nat_eq c.insert_reserved.new.places in
    let absent = subst (λ (k : QueuesState). IsAbsent c.args.no k.queues) (sym c.self.view_is) c.requires.absent in
    let size : length new ≡ length old = length-map c.push_waiting.new.queues.items state_of ∙ c.push_waiting.ensures.count ∙ sym (length-map i.queues.items state_of) in
    record {
      apart = apart_others old new c.in-Some.at size c.push_waiting.ensures.others c.self.invariant.apart;
      order = c.push_waiting.ensures.order;
      placed = enter_placed old new before after c.in-Some.at c.args.priority c.args.no c.self.invariant.placed c.self.invariant.known c.insert_reserved.ensures.own c.insert_reserved.ensures.others c.push_waiting.ensures.others c.push_waiting.ensures.adds absent;
      known = enter_known old new before after c.in-Some.at c.args.priority c.args.no c.self.invariant.placed c.self.invariant.known c.insert_reserved.ensures.own c.insert_reserved.ensures.others c.push_waiting.ensures.others c.push_waiting.ensures.adds absent;
      prepared = (let after = c.take.ensures.after in rw after tt);
    }

pub returns-clause-enters : goal.returns-clause-enters
returns-clause-enters c =
    let i = c.self.inside in
    let old = map state_of i.queues.items in
    let new = map state_of c.push_waiting.new.queues.items in
    let absent = subst (λ (k : QueuesState). IsAbsent c.args.no k.queues) (sym c.self.view_is) c.requires.absent in
    let sets : Option ℕ → Option QueueSet = option_map (λ (k : ℕ). (queue_at old k).set) in
    let made : sets i.ready ≡ Some (set_with c.args.dims.now c.args.but) = ap (λ (k : QueuesState). k.ready) c.self.view_is ∙ c.requires.ready in
    let both : Some (queue_at old c.in-Some.at).set ≡ Some (set_with c.args.dims.now c.args.but) = ap sets c.in-Some.ensures.value ∙ made in
    let its : (queue_at old c.in-Some.at).set ≡ set_with c.args.dims.now c.args.but = cc (both) in
    subst (λ (k : QueuesState). Enters (one_at c.args.priority c.args.no) (set_with c.args.dims.now c.args.but) k.queues new) c.self.view_is
    (enter_waits old new (get nat_eq i.places) (get nat_eq c.insert_reserved.new.places) c.in-Some.at c.args.priority c.args.no c.self.invariant.placed c.self.invariant.known c.insert_reserved.ensures.own c.insert_reserved.ensures.others c.push_waiting.ensures.others c.push_waiting.ensures.adds absent (set_with c.args.dims.now c.args.but) its)

pub returns-clause-count : goal.returns-clause-count
returns-clause-count c =
    let old = c.self.inside.queues.items in
    let new = c.push_waiting.new.queues.items in
    length-map new state_of ∙ c.push_waiting.ensures.count ∙ sym (length-map old state_of) ∙ ap (λ (k : QueuesState). length k.queues) c.self.view_is
