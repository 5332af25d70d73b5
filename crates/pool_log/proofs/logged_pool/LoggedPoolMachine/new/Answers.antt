-- A pool without rows is a base.
use Rattle.std.proofs.Common.{◌≡◌, [], None, IfOk, sym, subst, arith}
use Rattle.swarm_model.specs.declared.pool_state.PoolState.{PoolState}
use Rattle.swarm_model.specs.BaseRules.{IsBase}
use Rattle.swarm_model.specs.Bytes.{nothing_held}
use Rattle.pool_laws.proofs.BaseLaws.{opening_base}
use Rattle.pool_log.specs.Plain.{machine_of}
use Rattle.pool_log.proofs.logged_pool.LoggedPoolMachine.new.Goals as goal

pub opened-requires-clause-rules : goal.opened-requires-clause-rules
opened-requires-clause-rules g c = rw c.opening.ensures c.requires

pub opened-requires-clause-base : goal.opened-requires-clause-base
opened-requires-clause-base g c = subst (λ (s : PoolState). IsBase s.settings 0 s) (sym c.opening.ensures) (opening_base c.args.settings 0 (omega arith))

pub returns : goal.returns
returns g c =
    subst (λ (s : PoolState). IfOk c.opened.result (λ pool. machine_of pool ≡ record { start = record { rows = s; count = 0 }; pool = s; log = []; ready = None; held = nothing_held }))
    c.opening.ensures c.opened.ensures
