-- The text and the hash of a small task, computed.
use Rattle.std.proofs.Common.{◌≡◌, length, refl, ap, ◌∙◌}
use Rattle.std.specs.Fmt.{digits}
use Rattle.sha2.specs.Sha256.{compress, digest_bytes, first_words, hash_after, rounds, schedule, sha256}
use Rattle.serde_json.proofs.OnLiterals.{serde_json_on_literals}
use Rattle.task_props.specs.Canonical.{canonical, hash}
use Rattle.task_props.specs.Shown.{later_members, properties_with}
use Rattle.task_props.specs.Examples.{small, small_text, small_hash}

pub canonical_small : canonical small ≡ small_text
unfolding serde_json_on_literals digits canonical properties_with later_members
canonical_small = refl

pub length-small : length (canonical small) ≡ 189
length-small = ap length canonical_small

sha256_small : sha256 small_text ≡ small_hash
unfolding first_words schedule rounds compress hash_after digest_bytes sha256
sha256_small = refl

pub hash_small : hash small ≡ small_hash
unfolding hash
hash_small = ap sha256 canonical_small ∙ sha256_small
