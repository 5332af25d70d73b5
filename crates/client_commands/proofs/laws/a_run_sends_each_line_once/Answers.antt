use Rattle.client_commands.specs.Batches.{lines_left}
use Rattle.client_commands.proofs.Running.{run_of}
use Rattle.client_commands.proofs.laws.a_run_sends_each_line_once.Goals as goal
use Rattle.std.proofs.Common.{refl}

pub returns : goal.returns
returns c = λ server done b w v status f. run_of (lines_left b) b refl f
