use Rattle.std.proofs.Common.{refl}
use Rattle.std.specs.Fmt.{digits}
use Rattle.json.specs.Print.{escape_byte}
use Rattle.reply_bodies.specs.Bodies.{body_of}
use Rattle.swarm_http.specs.Replies.{head_with, reply_with, shown, refusal}
use Rattle.wire_examples.proofs.reply_examples.the_reply_to_head_has_no_body.Goals as goal

pub returns-clause-head : goal.returns-clause-head
unfolding refusal shown reply_with head_with body_of digits escape_byte
returns-clause-head c = refl

pub returns-clause-get : goal.returns-clause-get
unfolding refusal shown reply_with head_with body_of digits escape_byte
returns-clause-get c = refl

pub returns-clause-no_head : goal.returns-clause-no_head
unfolding refusal shown reply_with head_with body_of digits escape_byte
returns-clause-no_head c = refl
