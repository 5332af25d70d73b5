use Rattle.std.proofs.Common.{option_map}
use Rattle.swarm_batch.proofs.Heads.{no_digest, name_of}
use Rattle.swarm_batch.proofs.names.progress_name.Goals as goal

pub returns-in_default : goal.returns-in_default
returns-in_default c = no_digest c.args.text.now c.in_default.ensures

pub returns : goal.returns
returns c = name_of c.args.text.now c.in-Some.rest.now (option_map (λ x. x.now) c.name_line.result) c.in-Some.ensures c.name_line.ensures
