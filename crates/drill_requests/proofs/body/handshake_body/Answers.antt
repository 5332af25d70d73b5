use Rattle.std.proofs.Common.{rules}
use mathlib.Core.List.{append_assoc}
use Rattle.drill_requests.specs.Texts.{handshake_text}
use Rattle.drill_requests.proofs.body.handshake_body.Goals as goal

pub returns : goal.returns
unfolding handshake_text
returns c = simp append_assoc (search rules)
