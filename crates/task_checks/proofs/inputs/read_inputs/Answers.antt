use Rattle.task_checks.proofs.InputFiles.{digests_unbroken, sizes_unbroken}
use Rattle.task_checks.proofs.inputs.read_inputs.Goals as goal

pub read_files-requires-clause-digests : goal.read_files-requires-clause-digests
read_files-requires-clause-digests c = digests_unbroken c.args.raw c.requires

pub read_files-requires-clause-sizes : goal.read_files-requires-clause-sizes
read_files-requires-clause-sizes c = sizes_unbroken c.args.raw c.requires
