use Rattle.std.proofs.Common.{arith, ◌∙◌}
use Rattle.shared_doors.specs.Machines.{lasting_in}
use Rattle.swarm_workers.specs.Crews.{HasWorked}
use Rattle.swarm_workers.proofs.Crewing.{same_settings, new_settings, new_calls, as_many, some_of, out_enough, above_map, below_map, doors_after, alone_after, served_all}
use Rattle.swarm_workers.proofs.Slices.{written, count_written}
use Rattle.swarm_workers.proofs.Closing.{kept_at, none_past, closed_begin, settings_closed}
use Rattle.swarm_workers.proofs.shared.serve_shared.Goals as goal

pub run_workers-requires-clause-settings : goal.run_workers-requires-clause-settings
run_workers-requires-clause-settings g c κs within =
    new_settings _ _ c.args.settings.now _ 0 c.make_workers-crew.result.items c.deref_mut.result.now c.deref_mut.ensures.value c.make_workers-crew.ensures.doors (same_settings _ _ c.args.settings.now c.in_ok-server.ensures.store c.in_ok-server.ensures.settings)

pub run_workers-requires-clause-calls : goal.run_workers-requires-clause-calls
run_workers-requires-clause-calls g c κs within =
    new_calls _ _ _ 0 c.make_workers-crew.result.items c.deref_mut.result.now c.deref_mut.ensures.value c.make_workers-crew.ensures.doors

pub run_workers-requires-clause-some : goal.run_workers-requires-clause-some
run_workers-requires-clause-some g c κs within =
    some_of c.make_workers-crew.result.items c.deref_mut.result.now c.args.workers c.deref_mut.ensures.value
    (as_many _ _ c.make_workers-crew.result.items c.in_ok-acceptors.acceptors.items c.args.workers c.make_workers-crew.ensures.acceptors c.in_ok-acceptors.ensures.number) c.requires.workers.0

pub end_workers-stop-requires-clause-some : goal.end_workers-stop-requires-clause-some
end_workers-stop-requires-clause-some g c κs within =
    let count = as_many _ _ c.make_workers-crew.result.items c.in_ok-acceptors.acceptors.items c.args.workers c.make_workers-crew.ensures.acceptors c.in_ok-acceptors.ensures.number in
    let is = written _ (HasWorked c.args.connections) c.deref_mut.result.now c.run_workers.new.workers c.make_workers-crew.result.items c.make_workers-crew.result.len c.deref_mut.ensures.len c.run_workers.ensures in
    let all = count_written _ (HasWorked c.args.connections) c.make_workers-crew.result.items c.deref_mut.result.now c.run_workers.new.workers _ c.args.workers c.deref_mut.ensures.value count c.run_workers.ensures is in
    omega (arith, all, c.requires.workers.0)

pub end_workers-stop-requires-clause-doors : goal.end_workers-stop-requires-clause-doors
end_workers-stop-requires-clause-doors g c κs within =
    doors_after _ _ _ c.args.connections c.make_workers-crew.result.items c.deref_mut.result.now c.run_workers.new.workers _ c.deref_mut.ensures.value
    (written _ (HasWorked c.args.connections) c.deref_mut.result.now c.run_workers.new.workers c.make_workers-crew.result.items c.make_workers-crew.result.len c.deref_mut.ensures.len c.run_workers.ensures)
    c.make_workers-crew.ensures.doors c.run_workers.ensures

pub end_workers-stop-requires-clause-out : goal.end_workers-stop-requires-clause-out
end_workers-stop-requires-clause-out g c κs within =
    let count = as_many _ _ c.make_workers-crew.result.items c.in_ok-acceptors.acceptors.items c.args.workers c.make_workers-crew.ensures.acceptors c.in_ok-acceptors.ensures.number in
    let is = written _ (HasWorked c.args.connections) c.deref_mut.result.now c.run_workers.new.workers c.make_workers-crew.result.items c.make_workers-crew.result.len c.deref_mut.ensures.len c.run_workers.ensures in
    let all = count_written _ (HasWorked c.args.connections) c.make_workers-crew.result.items c.deref_mut.result.now c.run_workers.new.workers _ c.args.workers c.deref_mut.ensures.value count c.run_workers.ensures is in
    out_enough _ _ c.args.workers _ c.in_ok-acceptors.ensures.out (omega (arith, all))

pub unreachable-requires : goal.unreachable-requires
unreachable-requires g c =
    let out = c.in-Err.ensures.refused.2 in
    let count = as_many _ _ c.make_workers-crew.result.items c.in_ok-acceptors.acceptors.items c.args.workers c.make_workers-crew.ensures.acceptors c.in_ok-acceptors.ensures.number in
    out.2 (alone_after _ _ _ c.args.connections c.args.workers out.0 c.make_workers-crew.result.items c.deref_mut.result.now c.run_workers.new.workers _ _ c.deref_mut.ensures.value
    (written _ (HasWorked c.args.connections) c.deref_mut.result.now c.run_workers.new.workers c.make_workers-crew.result.items c.make_workers-crew.result.len c.deref_mut.ensures.len c.run_workers.ensures)
    count c.requires.workers.0 c.make_workers-crew.ensures.doors (c.make_workers-crew.ensures.made c.args.workers c.in_ok-first.ensures.made)
    c.run_workers.ensures (below_map _ _ out.0 out.1) (c.end_workers-stop.ensures.joined out.0 out.1) (c.end_workers-stop.ensures.first out.0 out.1))

pub returns-clause-serves : goal.returns-clause-serves
returns-clause-serves g c =
    served_all _ _ c.in_ok-acceptors.acceptors.items _ c.args.settings.now _ _ c.args.address.now c.args.workers c.args.connections _ _ _
    c.make_workers-crew.result.items c.deref_mut.result.now c.run_workers.new.workers _ _ _ _ (same_settings _ _ c.args.settings.now c.in_ok-server.ensures.store c.in_ok-server.ensures.settings) c.deref_mut.ensures.value
    (written _ (HasWorked c.args.connections) c.deref_mut.result.now c.run_workers.new.workers c.make_workers-crew.result.items c.make_workers-crew.result.len c.deref_mut.ensures.len c.run_workers.ensures)
    c.in_ok-acceptors.ensures c.make_workers-crew.ensures.acceptors c.make_workers-crew.ensures.doors c.make_workers-crew.ensures.clocks c.run_workers.ensures
    (λ p lt. c.end_workers-stop.ensures.joined p (above_map _ _ p lt))
    (kept_at (lasting_in g.M.Machine.kept) _ _ _ _ c.in-Ok.ensures.closed c.in_ok-server.ensures.opening)
    (none_past (lasting_in g.M.Machine.kept) _ _ _ _ c.in-Ok.ensures.closed)
    c.end_workers-stop.ensures.shuts c.end_workers-stop.ensures.stop

pub returns-clause-pools : goal.returns-clause-pools
returns-clause-pools g c = settings_closed (lasting_in g.M.Machine.kept) _ _ _ _ c.in-Ok.ensures.closed ∙ c.in_ok-server.ensures.settings

pub returns-clause-starts : goal.returns-clause-starts
returns-clause-starts g c =
    closed_begin (lasting_in g.M.Machine.kept) _ _ _ _ _ c.in-Ok.ensures.closed c.in_ok-server.ensures.settings
