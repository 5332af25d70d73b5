use Rattle.index_laws.proofs.ToCome.{place_ready}
use Rattle.index_laws.proofs.queues.place_is_ready.Goals as goal

pub returns : goal.returns
returns c = place_ready
