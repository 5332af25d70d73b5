-- The empty log leads to the rows of the base.
use Rattle.swarm_model.specs.Bases.{Base}
use Rattle.swarm_model.specs.MachineState.{MachineState}
use Rattle.pool_log.proofs.Logs.{weight_of_base}
use Rattle.pool_log.proofs.Reached.{base_by_then, replay_of_base}
use Rattle.pool_log.proofs.logged_pool.opened.Goals as goal

pub of_rows-requires-clause-base : goal.of_rows-requires-clause-base
of_rows-requires-clause-base g c = base_by_then c.args.count c.args.base c.requires.base

pub invariant_of-result : goal.invariant_of-result
invariant_of-result g c =
    record {
      replay_of = rw c.new.ensures.items (replay_of_base c.args.count c.args.base _ c.requires.rules c.requires.base c.in_ok-rows.ensures.state);
      weighs = weight_of_base c.args.base c.args.count c.rows_weight-weight.result c.new.result.items c.requires.rules c.requires.base c.rows_weight-weight.ensures c.new.ensures.items;
      prepared = rw c.in_ok-rows.ensures.ready tt;
    }

pub returns : goal.returns
returns g c =
    let start : Base = record { rows = c.args.base; count = c.args.count } in
    let state = c.in_ok-rows.ensures.state in
    let log = c.new.ensures.items in
    let ready = c.in_ok-rows.ensures.ready in
    let held = c.in_ok-rows.ensures.held in
    λ i. let x : MachineState = record { start = start; pool = state i; log = log i; ready = ready i; held = held i } in x
