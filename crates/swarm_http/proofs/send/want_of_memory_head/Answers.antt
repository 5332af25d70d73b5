use Rattle.swarm_http.proofs.Texts.{want_of_memory_head_is}
use Rattle.swarm_http.proofs.send.want_of_memory_head.Goals as goal

pub returns-clause-head : goal.returns-clause-head
returns-clause-head c = want_of_memory_head_is c.args.front c.new-text.ensures c.push_str.ensures.bytes c.format.ensures.text c.push_str-2.ensures.bytes c.push_str-3.ensures.bytes
