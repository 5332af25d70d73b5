use Rattle.swarm_cli.proofs.NextStarts.{next_starts_go_on}
use Rattle.swarm_cli.proofs.kept_records.the_next_start_goes_on.Goals as goal

pub returns : goal.returns
returns c = next_starts_go_on
