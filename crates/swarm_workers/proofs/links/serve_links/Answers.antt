-- One link more.
use Rattle.std.proofs.Common.{◌≡◌, ℕ, ◌+◌, ◌-◌, subst, arith, rules}
use Rattle.swarm_workers.proofs.Visiting.{begun, one_more, no_memory, no_more, failed}
use Rattle.swarm_workers.proofs.links.serve_links.Goals as goal

pub links-init : goal.links-init
links-init g c = record {
  may = λ n e. let m : c.args.connections ≡ n = omega (arith, e) in subst (λ (k : ℕ). g.S.LinkSessions.may c.args.settings.now k (c.args.desk.now, c.args.clock.now)) m c.requires.may;
  so_far = begun g.S.LinkSessions.does (g.A.Acceptor.state c.args.acceptor.now) (c.args.desk.now, c.args.clock.now);
}

pub serve_next-requires-clause-may : goal.serve_next-requires-clause-may
serve_next-requires-clause-may g c =
    let left = c.args.connections - c.links.served - 1 in
    let may : (n : ℕ) × g.S.LinkSessions.may c.args.settings.now (n + 1) (c.links.desk, c.links.clock) = (left, c.links.invariant.may (left + 1) (omega arith)) in
    search (rules, may)

pub links-preserved : goal.links-preserved
links-preserved g c = record {
  may = λ n e. c.serve_next.ensures.may c.in-Served.is n (c.links.invariant.may (n + 1) (omega (arith, e)));
  so_far = one_more g.S.LinkSessions.does c.links.invariant.so_far c.in-Served.ensures.turn;
}

pub returns-in_default : goal.returns-in_default
returns-in_default g c = no_memory g.S.LinkSessions.does c.args.connections (g.A.Acceptor.state c.args.acceptor.now) (c.args.desk.now, c.args.clock.now)

pub returns-in-NoMore : goal.returns-in-NoMore
returns-in-NoMore g c =
    no_more g.S.LinkSessions.does c.links.invariant.so_far (omega arith) c.in-NoMore.ensures.turn.0 c.in-NoMore.ensures.turn.1 c.in-NoMore.ensures.turn.2

pub returns-in-Failed : goal.returns-in-Failed
returns-in-Failed g c = failed g.S.LinkSessions.does c.links.invariant.so_far (omega arith) c.in-Failed.ensures.turn.0 c.in-Failed.ensures.turn.1
