-- The bytes of each blob are held.
use Rattle.swarm_history.proofs.Filled.{filled_held}
use Rattle.swarm_history.proofs.plain_desk.PlainDeskDesk.pieces.Goals as goal

pub pieces_of-requires-clause-held : goal.pieces_of-requires-clause-held
pieces_of-requires-clause-held g c = filled_held (g.M.Machine.kept c.args.self.now.machine.now) c.requires.ready.0
