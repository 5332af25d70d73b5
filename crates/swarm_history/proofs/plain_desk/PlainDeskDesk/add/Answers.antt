-- The bytes of each blob are held.
use Rattle.swarm_history.proofs.Filled.{filled_held}
use Rattle.swarm_history.proofs.plain_desk.PlainDeskDesk.add.Goals as goal

pub add_entry-requires-clause-held : goal.add_entry-requires-clause-held
add_entry-requires-clause-held g c = filled_held (g.M.Machine.kept c.args.self.now.machine.now) c.requires.ready.0
