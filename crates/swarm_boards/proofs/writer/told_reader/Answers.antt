-- The reader takes in what the writer knows.
use Rattle.left_right.specs.Sides.{view}
use Rattle.swarm_boards.proofs.Rises.{admits, forks}
use Rattle.swarm_boards.proofs.writer.told_reader.Goals as goal

pub reader-requires : goal.reader-requires
reader-requires c = admits

pub tell-requires : goal.tell-requires
tell-requires c = forks c.args.writer.now.desk.place.id (view c.args.writer.now.desk.place)
