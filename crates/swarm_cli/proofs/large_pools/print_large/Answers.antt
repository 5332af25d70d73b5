-- The line for a pool that is too large.
use Rattle.std.proofs.Common.{◌∙◌, codes}
use Rattle.swarm_cli.specs.LargePools.{key_path}
use Rattle.swarm_cli.proofs.Refusals.{refused_at}
use Rattle.swarm_cli.proofs.large_pools.print_large.Goals as goal

pub returns-in-Ok : goal.returns-in-Ok
returns-in-Ok g c = λ clock listener store.
    refused_at (key_path c.args.place c.args.key.now) c.as_str.result.now (codes "boards") store store
    (record { console = g.L.Link.state c.args.console.now; clock = clock; listener = listener })
    (record { console = g.L.Link.state c.print_refusal.new.console; clock = clock; listener = listener })
    c.print_refusal.result (c.as_str.ensures.value ∙ c.in-Ok.ensures) (c.print_refusal.ensures clock listener store)
