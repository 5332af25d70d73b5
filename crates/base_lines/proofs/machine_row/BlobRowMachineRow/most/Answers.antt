-- A sound pool has few blobs.
use Rattle.base_lines.proofs.MachineRows.{few_blobs}
use Rattle.base_lines.proofs.machine_row.BlobRowMachineRow.most.Goals as goal

pub returns : goal.returns
returns g c = few_blobs (g.M.Machine.kept c.args.machine.now) c.length-length.ensures.history
