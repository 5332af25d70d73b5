use Rattle.routes.proofs.Table.{table_answers}
use Rattle.routes.proofs.routes.build.Goals as goal

pub returns : goal.returns
returns c target = rw (c.in_ok-insert_all.ensures, c.new-router.ensures) (table_answers target)
