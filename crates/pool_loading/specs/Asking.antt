-- The request for which a kept entry stands.
use Rattle.swarm_model.specs.Entries.{Asked}
use Rattle.pool_loading.specs.declared.asking.EntryRequest.{EntryRequest}

-- the caller and the request, as the definitions see them
abbrev pub as_asked : EntryRequest → Asked
as_asked asked = record { who = asked.caller; request = asked.request }
