use Rattle.std.proofs.Common.{◌+◌, ◌-◌, drop, take, arith, ap, ◌∙◌, subst}
use Rattle.std.proofs.lemmas.Grind.{common_steps}
use Rattle.link_reader.proofs.PieceLemmas.{SoFar, begun, one_more, ended}
use Rattle.link_reader.proofs.body_end.read_body.Goals as goal

pub pieces-init : goal.pieces-init
pieces-init g c = begun (g.L.Link.state c.args.link.now) c.args.pending.now c.remove_front.new.self _ c.args.head c.args.size c.min-got.result c.new-body.result
    (grind (arith, common_steps)) (ap (λ l. take (c.args.head + c.min-got.result - c.args.head) (drop c.args.head l)) c.as_slice.ensures ∙ ap (λ k. take k (drop c.args.head c.args.pending.now)) (omega arith)) c.new-body.ensures (omega arith) (omega arith) (λ less. omega arith)

pub pieces-preserved : goal.pieces-preserved
pieces-preserved g c =
    let p = c.in-Ok.ensures in
    let step = one_more c.pieces.invariant c.pieces-test.true p (omega (arith, p.outcome.0, p.outcome.1)) p.faults in
    subst (λ k. SoFar (g.L.Link.state c.args.link.now) (g.L.Link.state c.read.new.link) c.args.pending.now c.remove_front.new.self c.args.head c.args.size (c.pieces.got + k) c.read.new.self) p.outcome.0 step

pub returns-in-Ok-eq0 : goal.returns-in-Ok-eq0
returns-in-Ok-eq0 g c = ended c.pieces.invariant c.pieces-test.true c.in-Ok-eq0.ensures c.in-Ok-eq0.field-0-test
