-- A door of a pass that took no turn was not called.
use Rattle.shared_doors.specs.Machines.{lasting_in}
use Rattle.swarm_workers.proofs.NewDoors.{new_door}
use Rattle.test_rows.proofs.boards.playing.open_door.Goals as goal

pub returns-clause-calls : goal.returns-clause-calls
returns-clause-calls g c =
    (new_door (lasting_in g.M.Machine.kept) c.args.server.now.turnstiles.items c.args.server.now.store 0 c.args.passes.passes.items _ c.new.ensures.state c.requires.share).calls
