use Rattle.std.proofs.Common.{ℕ, List, ◌∙◌, subst}
use Rattle.link_writer.specs.Sends.{Sends}
use Rattle.swarm_http.proofs.Texts.{want_of_memory_sent}
use Rattle.swarm_http.proofs.send.send_shown.Goals as goal

pub returns-in-WantOfMemoryAt-clause-sends : goal.returns-in-WantOfMemoryAt-clause-sends
returns-in-WantOfMemoryAt-clause-sends g c =
    subst (λ (text : List ℕ). Sends (g.L.Link.state c.args.link.now) (g.L.Link.state c.send_short-in-WantOfMemoryAt.new.link) text c.send_short-in-WantOfMemoryAt.result)
    (want_of_memory_sent c.args.method c.in-WantOfMemoryAt.is (c.as_str.ensures.value ∙ c.want_of_memory_head-head.ensures.head) c.takes_body-whole.ensures)
    c.send_short-in-WantOfMemoryAt.ensures.sends
