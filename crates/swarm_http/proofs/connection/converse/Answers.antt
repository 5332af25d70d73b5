use Rattle.std.proofs.Common.{◌≡◌, ℕ, ◌+◌, ◌-◌, List, refl, arith, subst, sym}
use Rattle.swarm_http.proofs.Serving.{SoFar, begun, one_on, ended_counted, retired_counted}
use Rattle.swarm_http.proofs.connection.converse.Goals as goal

pub requests-init : goal.requests-init
requests-init g c =
    let s = g.L.Link.state c.args.link.now in
    record {
      so_far = subst (λ (p : List ℕ). SoFar g.R.Replies.does 0 0 p (c.args.desk.now, c.args.clock.now) (c.args.desk.now, c.args.clock.now) s s) (sym c.clear.ensures)
          (begun g.R.Replies.does (c.args.desk.now, c.args.clock.now) s c.requires.clean);
      may = λ n e. let all : 65536 ≡ n = omega (arith, e) in subst (λ (k : ℕ). g.R.Replies.may c.args.settings.now k (c.args.desk.now, c.args.clock.now)) all c.requires.may;
    }

pub serve_one-requires-clause-may : goal.serve_one-requires-clause-may
serve_one-requires-clause-may g c = (65535 - c.requests.turn, c.requests.invariant.may (65535 - c.requests.turn + 1) (omega arith))

pub requests-preserved : goal.requests-preserved
requests-preserved g c = record {
  so_far = rw c.count_of-good.ensures.one (one_on g.R.Replies.does c.requests.invariant.so_far c.in-Next.ensures.step.0 c.in-Next.ensures.step.1);
  may = λ n e. c.in-Next.ensures.may c.in-Next.accepted refl n (c.requests.invariant.may (n + 1) (omega (arith, e)));
}

pub returns-in-End : goal.returns-in-End
returns-in-End g c =
    rw (c.count_of.ensures.one, c.count_of-in-End.ensures.one) (ended_counted g.R.Replies.does c.requests.invariant.so_far (omega arith) c.in-End.ensures.step.0 c.in-End.ensures.step.1)

pub returns : goal.returns
returns g c = retired_counted g.R.Replies.does c.requests.invariant.so_far (omega arith)
