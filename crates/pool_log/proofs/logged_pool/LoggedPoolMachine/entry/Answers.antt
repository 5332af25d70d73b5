-- A log that begins after some entries is looked up behind them.
use Rattle.std.proofs.Common.{◌-◌, List, None, ap, ◌∙◌, if◌then◌else◌}
use Rattle.std.specs.Prelude.{slice_get, nat_le}
use Rattle.swarm_model.specs.declared.entry.Entry.{Entry}
use Rattle.pool_log.proofs.logged_pool.LoggedPoolMachine.entry.Goals as goal

pub returns : goal.returns
returns g c =
    let count = c.self.inside.count in
    let at = c.args.at in
    rw (← c.self.view_is)
    (c.entry_in.ensures ∙ ap (λ (log : List Entry). if nat_le count at then slice_get log (at - count) else None) c.as_slice.ensures.value)
