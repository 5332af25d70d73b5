-- By the replies, one after the other.
use Rattle.wire_laws.proofs.Replies.{replies_told}
use Rattle.wire_laws.proofs.laws.replies_are_told.Goals as goal

pub returns : goal.returns
returns c = replies_told
