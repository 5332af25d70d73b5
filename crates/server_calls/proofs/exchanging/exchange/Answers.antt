use Rattle.server_calls.proofs.ExchangeLemmas.{exchanged_so}
use Rattle.server_calls.proofs.exchanging.exchange.Goals as goal

pub returns-in-Ok : goal.returns-in-Ok
returns-in-Ok g c =
    exchanged_so c.args.route (g.W.Link.Link.state c.in-Ok.link) (g.W.Link.Link.state c.exchange_over-exchanged.new.link) (g.W.Dialer.state c.args.dialer.now) (g.W.Dialer.state c.dial.new.self) (g.W.Dialer.state c.end.new.self)
    c.args.address.now c.args.request.now c.exchange_over-exchanged.result c.in-Ok.ensures c.exchange_over-exchanged.ensures c.end.ensures
