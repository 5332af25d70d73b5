use Rattle.std.proofs.Common.{refl}
use Rattle.hex.specs.Hex.{encode_with}
use Rattle.bot_requests.specs.Requests.{blob_path}
use Rattle.wire_examples.proofs.bot_request_examples.a_blob_is_found_below_its_pool.Goals as goal

pub returns : goal.returns
unfolding blob_path encode_with
returns c = refl
