-- The log goes on by an entry that may follow it, and the rows by what it does.
use Rattle.std.proofs.Common.{ℕ, List, Bor, ◌∷◌, [], ◌++◌, None, arith, refl, sym, ap, ◌∙◌, subst}
use Rattle.std.specs.List.{sum_by}
use Rattle.std.specs.Option.{option_map}
use Rattle.std.proofs.lemmas.List.Sums.{sum_by-append}
use Rattle.content_store.specs.Contents.{bytes_of}
use Rattle.swarm_model.specs.Bytes.{held_after}
use Rattle.swarm_model.specs.Effects.{after}
use Rattle.swarm_model.specs.Entries.{weight}
use Rattle.swarm_model.specs.MachineState.{MachineState, KeepsFinals}
use Rattle.pool_laws.proofs.MachineLaws.{is_right, keeps_finals}
use Rattle.pool_log.specs.Plain.{KeptPool, machine_of}
use Rattle.pool_log.specs.Invariant.{start_of}
use Rattle.pool_log.proofs.Logs.{history_of, ready_for, same_machine}
use Rattle.pool_log.proofs.Reached.{replay_of_more}
use Rattle.pool_log.proofs.logged_pool.LoggedPoolMachine.commit.Goals as goal

pub apply-requires-clause-ready : goal.apply-requires-clause-ready
apply-requires-clause-ready g c = ap (λ (kept : KeptPool). kept.ready) c.self.view_is ∙ c.requires.ready

pub apply-requires-clause-next : goal.apply-requires-clause-next
apply-requires-clause-next g c =
    record {
      start = start_of c.self.inside;
      log = c.self.inside.log.items;
      replay_of = c.self.invariant.replay_of;
      follows = rw (← c.self.view_is) at c.requires.follows;
      room = rw (← c.self.view_is) at c.requires.room;
    }

pub push_reserved-requires : goal.push_reserved-requires
push_reserved-requires g c = (ready_for _ _ c.self.inside c.args.entry c.self.invariant (ap (λ (kept : KeptPool). kept.ready) c.self.view_is ∙ c.requires.ready)).room

pub invariant_of-self : goal.invariant_of-self
invariant_of-self g c =
    let follows = rw (← c.self.view_is) at c.requires.follows in
    let room = rw (← c.self.view_is) at c.requires.room in
    let made = ready_for _ _ c.self.inside c.args.entry c.self.invariant (ap (λ (kept : KeptPool). kept.ready) c.self.view_is ∙ c.requires.ready) in
    record {
      replay_of = replay_of_more (start_of c.self.inside) _ _ c.self.inside.log.items c.push_reserved.new.self.items c.args.entry c.self.invariant.replay_of follows room c.push_reserved.ensures.items c.apply.ensures.state;
      weighs = omega (arith, sum_by-append weight c.self.inside.log.items (c.args.entry ∷ []), ap (sum_by weight) c.push_reserved.ensures.items, made.weighs, c.self.invariant.weighs);
      prepared = rw c.apply.ensures.ready tt;
    }

pub returns : goal.returns
returns g c =
    let own = c.args.self.now in
    let old = machine_of own in
    let entry = c.args.entry in
    let bytes = option_map (λ (b : Bor (List ℕ)). b.now) c.args.bytes in
    let history = history_of _ own c.self.view_is c.self.invariant.replay_of in
    let state = c.apply.ensures.state ∙ ap (λ (kept : KeptPool). after kept.pool entry) c.self.view_is in
    let start = ap (λ (kept : KeptPool). kept.start) c.self.view_is in
    let log = c.push_reserved.ensures.items ∙ ap (λ (kept : KeptPool). kept.log ++ entry ∷ []) c.self.view_is in
    let ready = c.apply.ensures.ready in
    let held = c.apply.ensures.held ∙ ap (λ (kept : KeptPool). held_after kept.pool entry.kind bytes (bytes_of kept.held)) c.self.view_is in
    let new : MachineState = record { start = old.start; pool = after old.pool entry; log = old.log ++ entry ∷ []; ready = None; held = held_after old.pool entry.kind bytes old.held } in
    let added = same_machine start state log ready held in
    record {
      right = is_right old history entry c.requires.follows;
      finals = subst (KeepsFinals old) (sym added) (keeps_finals old history entry c.requires.follows new refl);
      added = added;
    }
