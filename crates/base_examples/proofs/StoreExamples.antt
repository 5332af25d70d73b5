-- Digests, computed.
use Rattle.std.proofs.Common.{◌≡◌, refl}
use Rattle.sha2.specs.Sha256.{compress, digest_bytes, first_words, hash_after, rounds, schedule, sha256}
use Rattle.blob_rows.specs.declared.filled.Filled.TheVariants.{Done, Differs, Unknown}
use Rattle.content_store.specs.Plain.{fill_result}
use Rattle.base_examples.specs.StoreExamples.{short, short_digest, long, long_digest, awaited}

pub sha256_short : sha256 short ≡ short_digest
unfolding first_words schedule rounds compress hash_after digest_bytes sha256
sha256_short = refl

pub sha256_long : sha256 long ≡ long_digest
unfolding first_words schedule rounds compress hash_after digest_bytes sha256
sha256_long = refl

pub fill_done : fill_result awaited short_digest short ≡ Done
unfolding first_words schedule rounds compress hash_after digest_bytes sha256
fill_done = refl

pub fill_other : fill_result awaited short_digest long ≡ Differs long_digest
unfolding first_words schedule rounds compress hash_after digest_bytes sha256
fill_other = refl

pub fill_unknown : fill_result awaited long_digest long ≡ Unknown
unfolding first_words schedule rounds compress hash_after digest_bytes sha256
fill_unknown = refl
