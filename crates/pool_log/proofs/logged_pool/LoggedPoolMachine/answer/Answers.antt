-- A result shows the state that the log tells, and what is added is what the laws say.
use Rattle.std.proofs.Common.{Option, IfSome, sym, ap, subst, ◌∙◌}
use Rattle.std.specs.Option.{option_map}
use Rattle.swarm_model.specs.declared.entry.Entry.{Entry}
use Rattle.swarm_model.specs.declared.reply.Reply.{Reply}
use Rattle.swarm_model.specs.declared.answer.Answer.{Answer}
use Rattle.swarm_model.specs.declared.answer.Decision.{Decision}
use Rattle.swarm_model.specs.Answers.{entry_at, decide}
use Rattle.swarm_model.specs.MachineState.{ShowsVerdict, ShowsOutput, ActsOnce, TakesOutcome}
use Rattle.pool_laws.proofs.MachineLaws.{shows_verdict, shows_output, repeats_once, takes_outcome}
use Rattle.pool_log.specs.Plain.{KeptPool, machine_of}
use Rattle.pool_log.proofs.Logs.{history_of}
use Rattle.pool_log.proofs.logged_pool.LoggedPoolMachine.answer.Goals as goal

pub decide-requires : goal.decide-requires
decide-requires g c = rw (← c.self.view_is) at c.requires.fits

pub returns-clause-exact : goal.returns-clause-exact
returns-clause-exact g c =
    let decided = c.in_ok-reply.ensures.value ∙ ap (λ (kept : KeptPool). decide kept.pool c.args.who.now c.args.moment c.args.request.now) c.self.view_is in
    let entry = c.entry_of.ensures ∙ ap (λ (d : Decision). option_map (entry_at c.args.moment c.args.pass) d.entry) decided in
    λ i. let x : Answer = record { reply = (decided i).reply; entry = entry i } in x

pub returns-clause-verdict : goal.returns-clause-verdict
returns-clause-verdict g c =
    let own = c.args.self.now in
    let kept = machine_of own in
    let decided = c.in_ok-reply.ensures.value ∙ ap (λ (kept : KeptPool). decide kept.pool c.args.who.now c.args.moment c.args.request.now) c.self.view_is in
    subst (λ (r : Reply). ShowsVerdict kept c.args.request.now r) (sym (ap (λ (t : Decision). t.reply) decided))
    (shows_verdict kept (history_of _ own c.self.view_is c.self.invariant.replay_of) c.args.who.now c.args.moment c.args.pass c.args.request.now)

pub returns-clause-repeats : goal.returns-clause-repeats
returns-clause-repeats g c =
    let own = c.args.self.now in
    let kept = machine_of own in
    let decided = c.in_ok-reply.ensures.value ∙ ap (λ (kept : KeptPool). decide kept.pool c.args.who.now c.args.moment c.args.request.now) c.self.view_is in
    subst (λ (r : Option Entry). ActsOnce kept c.args.who.now c.args.request.now r)
    (sym (c.entry_of.ensures ∙ ap (λ (d : Decision). option_map (entry_at c.args.moment c.args.pass) d.entry) decided))
    (repeats_once kept (history_of _ own c.self.view_is c.self.invariant.replay_of) c.args.who.now c.args.moment c.args.pass c.args.request.now)

pub returns-clause-output : goal.returns-clause-output
returns-clause-output g c =
    let own = c.args.self.now in
    let kept = machine_of own in
    let decided = c.in_ok-reply.ensures.value ∙ ap (λ (kept : KeptPool). decide kept.pool c.args.who.now c.args.moment c.args.request.now) c.self.view_is in
    subst (λ (r : Reply). ShowsOutput kept c.args.request.now r) (sym (ap (λ (t : Decision). t.reply) decided))
    (shows_output kept (history_of _ own c.self.view_is c.self.invariant.replay_of) c.args.who.now c.args.moment c.args.pass c.args.request.now)

pub returns-clause-outcome : goal.returns-clause-outcome
returns-clause-outcome g c =
    let own = c.args.self.now in
    let kept = machine_of own in
    let decided = c.in_ok-reply.ensures.value ∙ ap (λ (kept : KeptPool). decide kept.pool c.args.who.now c.args.moment c.args.request.now) c.self.view_is in
    subst (λ (r : Option Entry). IfSome r (TakesOutcome kept))
    (sym (c.entry_of.ensures ∙ ap (λ (d : Decision). option_map (entry_at c.args.moment c.args.pass) d.entry) decided))
    (takes_outcome kept (history_of _ own c.self.view_is c.self.invariant.replay_of) c.args.who.now c.args.moment c.args.pass c.args.request.now c.requires.not_before c.requires.not_late c.requires.nothing_due c.requires.fits)
