-- No row has a deadline yet.
use Rattle.std.proofs.Common.{List, [], sym, subst, rules}
use Rattle.swarm_model.specs.declared.deadline.Deadline.{Deadline}
use Rattle.index_laws.specs.BlobDeadlines.{AreBlobDeadlines}
use Rattle.swarm_machine.specs.Loading.{with_bots}
use Rattle.swarm_machine.proofs.Moving.{no_blob_ends}
use Rattle.swarm_machine.proofs.indexes.Indexes.new.Goals as goal

pub returns : goal.returns
returns c = λ s. record {
  queues = search rules;
  task_ends = search rules;
  bot_ends = search rules;
  blob_ends = subst (λ (ends : List Deadline). AreBlobDeadlines ends (with_bots s [])) (sym c.new-4.ensures) (no_blob_ends s);
  claims = search rules;
  uuids = search rules;
  sources = search rules;
  uses = search rules;
  counts = search rules;
}
