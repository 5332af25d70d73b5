-- The server has the turnstiles and the settings of the door's.
use Rattle.std.proofs.Common.{ap}
use Rattle.swarm_model.specs.declared.pool_settings.Settings.{Settings}
use Rattle.shared_doors.specs.Machines.{lasting_in}
use Rattle.shared_doors.specs.SharedDoors.{identities_of, pools_of}
use Rattle.shared_doors.specs.Views.{views}
use Rattle.shared_doors.proofs.SameServer.{are_of_same, door_same}
use Rattle.shared_doors.proofs.shared_door.SharedDoor.end.Goals as goal

pub returns-clause-own : goal.returns-clause-own
returns-clause-own g c =
    let door = c.args.self in
    are_of_same (lasting_in g.M.Machine.kept) door.server.now.turnstiles.items c.args.server.now.turnstiles.items c.requires.logs
    (ap (λ (s : Settings). s.pools) c.requires.settings) door.passes.items door.server.now.standing c.args.server.now.standing door.own

pub returns-clause-state : goal.returns-clause-state
returns-clause-state g c =
    let door = c.args.self in
    door_same door.server.now.store c.args.server.now.store (pools_of (lasting_in g.M.Machine.kept) door.server.now.turnstiles.items)
    (pools_of (lasting_in g.M.Machine.kept) c.args.server.now.turnstiles.items) (identities_of door.server.now.turnstiles.items)
    (identities_of c.args.server.now.turnstiles.items) (views door.passes.items) c.requires.settings c.requires.logs
