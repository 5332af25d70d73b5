-- Each by its own lemma.
use Rattle.index_laws.proofs.Loading.{queue_gains, queue_is_free, claims_gain, claims_are_new, uuids_gain, uuid_is_new, sources_gain, uses_gain, counts_gain, task_deadlines_gain, bot_deadlines_gain, blob_deadlines_gain}
use Rattle.index_laws.proofs.loads.indexes_gain.Goals as goal

pub returns : goal.returns
returns c =
    record {
      queues = queue_gains;
      queue_free = queue_is_free;
      claims = claims_gain;
      claims_new = claims_are_new;
      uuids = uuids_gain;
      uuid_new = uuid_is_new;
      sources = sources_gain;
      uses = uses_gain;
      counts = counts_gain;
      task_ends = task_deadlines_gain;
      bot_ends = bot_deadlines_gain;
      blob_ends = blob_deadlines_gain;
    }
