use Rattle.wire_laws.proofs.BotMeanings.{handshake_is_meant, poll_is_meant, claim_is_meant}
use Rattle.wire_laws.proofs.PoolNames.{pools_named}
use Rattle.wire_laws.proofs.laws.requests_for_work_are_meant.Goals as goal

pub returns : goal.returns
returns c = record { handshake = handshake_is_meant; poll = poll_is_meant; claim = claim_is_meant; pool = pools_named }
