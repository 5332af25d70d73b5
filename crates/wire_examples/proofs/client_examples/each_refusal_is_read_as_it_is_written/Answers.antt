use Rattle.std.proofs.Common.{refl}
use Rattle.std.specs.Prelude.{codes}
use Rattle.serde_json.specs.Data.{string}
use Rattle.serde_json.proofs.Views.{get_member-put}
use Rattle.refusal_codes.specs.Codes.{code_name}
use Rattle.refusal_codes.proofs.CodeLemmas.{name_is_read}
use Rattle.json_fields.specs.Fields.{present, required_text_in}
use Rattle.reply_bodies.specs.Refusals.{code_of, told_members}
use Rattle.server_calls.specs.Refusals.{refusal_in}
use Rattle.wire_examples.proofs.client_examples.each_refusal_is_read_as_it_is_written.Goals as goal

pub returns : goal.returns
unfolding refusal_in required_text_in present
returns c = λ body place why.
    rw (get_member-put (codes "code") (string (code_name (code_of why))) (told_members place why), name_is_read (code_of why)) refl
