-- What the server reads in a bot's requests for blobs.
use Rattle.std.proofs.Common.{refl}
use Rattle.swarm_wire.specs.Asking.{asked_of, get_of, put_of, named_of}
use Rattle.wire_laws.specs.Meant.{BlobGetsAreMeant, BlobPutsAreMeant, CallsAreFound, BlobsAreFound}
use Rattle.wire_laws.proofs.DigestTexts.{digest_is}
use Rattle.wire_laws.proofs.Targets.{handshake_found, poll_found, claim_found, update_found, blob_found, pool_is, digest_part_is}

pub get_is_meant : BlobGetsAreMeant
unfolding asked_of get_of named_of
get_is_meant settings pool digest h = rw (digest_is digest h) refl

pub put_is_meant : BlobPutsAreMeant
unfolding asked_of put_of
put_is_meant settings place pool digest bytes h there = rw (digest_is digest h, there) refl

pub calls_found : CallsAreFound
calls_found = record { handshake = handshake_found; poll = poll_found; claim = claim_found; update = update_found }

pub blobs_found : BlobsAreFound
blobs_found pool digest named plain h = record {
  resource = blob_found pool digest named plain h;
  pool_ = pool_is pool digest named plain h;
  digest_ = digest_part_is pool digest named plain h;
}
