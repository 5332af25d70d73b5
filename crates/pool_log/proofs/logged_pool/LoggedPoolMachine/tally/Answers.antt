-- What is counted is what the log tells.
use Rattle.std.proofs.Common.{ℕ, ap, ◌∙◌, sum_by}
use Rattle.swarm_model.specs.History.{tally}
use Rattle.pool_laws.proofs.MachineLaws.{tally_told, tally_total}
use Rattle.pool_log.specs.Plain.{KeptPool, machine_of}
use Rattle.pool_log.proofs.Logs.{history_of}
use Rattle.pool_log.proofs.logged_pool.LoggedPoolMachine.tally.Goals as goal

pub returns-clause-verdicts : goal.returns-clause-verdicts
returns-clause-verdicts g c =
    let own = c.args.self.now in
    let kept = machine_of own in
    c.tally.ensures
    ∙ ap (λ (kept : KeptPool). tally kept.pool) c.self.view_is
    ∙ tally_told kept (history_of _ own c.self.view_is c.self.invariant.replay_of)

pub returns-clause-total : goal.returns-clause-total
returns-clause-total g c =
    let own = c.args.self.now in
    let kept = machine_of own in
    ap (sum_by (λ (count : ℕ). count)) (c.tally.ensures ∙ ap (λ (kept : KeptPool). tally kept.pool) c.self.view_is)
    ∙ tally_total kept (history_of _ own c.self.view_is c.self.invariant.replay_of)
