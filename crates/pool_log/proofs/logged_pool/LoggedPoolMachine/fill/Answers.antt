-- The rows bring the bytes, and the log stays.
use Rattle.std.proofs.Common.{sym, ap, ◌∙◌, subst}
use Rattle.content_store.specs.Contents.{bytes_of}
use Rattle.swarm_model.specs.Bytes.{filled, held_after_fill}
use Rattle.pool_log.specs.Plain.{KeptPool}
use Rattle.pool_log.specs.Reached.{IsReplayOf}
use Rattle.pool_log.specs.Invariant.{start_of}
use Rattle.pool_log.proofs.Logs.{same_machine}
use Rattle.pool_log.proofs.logged_pool.LoggedPoolMachine.fill.Goals as goal

pub invariant_of-self : goal.invariant_of-self
invariant_of-self g c =
    record {
      replay_of = subst (IsReplayOf (start_of c.self.inside) c.self.inside.log.items) (sym c.fill.ensures.state) c.self.invariant.replay_of;
      weighs = c.self.invariant.weighs;
      prepared = rw c.fill.ensures.ready tt;
    }

pub returns : goal.returns
returns g c =
    let digest = c.args.digest.now in
    let bytes = c.args.bytes.now in
    let start = ap (λ (kept : KeptPool). kept.start) c.self.view_is in
    let state = c.fill.ensures.state ∙ ap (λ (kept : KeptPool). kept.pool) c.self.view_is in
    let log = ap (λ (kept : KeptPool). kept.log) c.self.view_is in
    let ready = c.fill.ensures.ready in
    let held = c.fill.ensures.held ∙ ap (λ (kept : KeptPool). held_after_fill c.fill.result digest bytes (bytes_of kept.held)) c.self.view_is in
    record {
      fills = record {
        told = c.fill.ensures.told ∙ ap (λ (kept : KeptPool). filled kept.pool digest bytes) c.self.view_is;
        holds = same_machine start state log ready held;
      };
    }
