use Rattle.std.proofs.Common.{refl}
use Rattle.std.specs.Fmt.{digits}
use Rattle.bot_requests.specs.Bodies.{session_name, claim_name}
use Rattle.wire_examples.proofs.bot_request_examples.a_claim_is_named_behind_its_session.Goals as goal

pub returns-clause-session : goal.returns-clause-session
unfolding session_name digits
returns-clause-session c = refl

pub returns-clause-claim : goal.returns-clause-claim
unfolding claim_name digits
returns-clause-claim c = refl
