use Rattle.swarm_cli.proofs.Checkpoints.{all_begin_anew}
use Rattle.swarm_cli.proofs.checkpoint.all_records_begin_anew.Goals as goal

pub returns : goal.returns
returns c = all_begin_anew
