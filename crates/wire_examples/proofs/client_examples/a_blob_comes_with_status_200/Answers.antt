use Rattle.std.proofs.Common.{refl}
use Rattle.std.specs.Str.{chars, is_utf8}
use Rattle.serde_json.proofs.OnLiterals.{serde_json_on_literals}
use Rattle.server_calls.specs.Blobs.{blob_of}
use Rattle.server_calls.specs.Reading.{told_of}
use Rattle.wire_examples.proofs.client_examples.a_blob_comes_with_status_200.Goals as goal

pub returns-clause-good : goal.returns-clause-good
unfolding told_of blob_of
returns-clause-good c = refl

pub returns-clause-other : goal.returns-clause-other
unfolding told_of serde_json_on_literals chars is_utf8
returns-clause-other c = refl
