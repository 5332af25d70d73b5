-- The canonical text and its hash, computed.
use Rattle.std.proofs.Common.{◌≡◌, refl, ap, ◌∙◌}
use Rattle.std.specs.Fmt.{digits}
use Rattle.hex.specs.Hex.{encode_with}
use Rattle.sha2.specs.Sha256.{compress, digest_bytes, first_words, hash_after, rounds, schedule, sha256}
use Rattle.serde_json.proofs.OnLiterals.{serde_json_on_literals}
use Rattle.task_props.specs.Canonical.{canonical, hash}
use Rattle.task_props.specs.Shown.{later_members, properties_with}
use Rattle.base_examples.specs.CanonicalExamples.{full, full_text, full_hash}

pub canonical_full : canonical full ≡ full_text
unfolding serde_json_on_literals digits encode_with canonical properties_with later_members
canonical_full = refl

sha256_full : sha256 full_text ≡ full_hash
unfolding first_words schedule rounds compress hash_after digest_bytes sha256
sha256_full = refl

pub hash_full : hash full ≡ full_hash
unfolding hash
hash_full = ap sha256 canonical_full ∙ sha256_full
