use Rattle.swarm_http.proofs.DoorServing.{counted_by_door, door_kept}
use Rattle.swarm_http.proofs.door_session.counted_session.Goals as goal

pub returns-clause-counted : goal.returns-clause-counted
returns-clause-counted g c = counted_by_door (λ x. g.C.Clock.ahead x.1) (λ x. g.D.Door.state x.0) c.converse.ensures

pub returns-clause-door : goal.returns-clause-door
returns-clause-door g c = door_kept (λ x. g.C.Clock.ahead x.1) (λ x. g.D.Door.state x.0) c.converse.ensures
