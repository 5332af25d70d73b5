use Rattle.std.proofs.Common.{◌+◌, take, sym, subst, arith}
use Rattle.bot_turns.specs.Outputs.{UploadsOutput, UploadsAll}
use Rattle.bot_turns.proofs.UploadLemmas.{uploaded_at, ended_at}
use Rattle.bot_turns.proofs.outputs.upload_all.Goals as goal

pub loop-path-preserved : goal.loop-path-preserved
loop-path-preserved g c = (
  subst (λ l. UploadsAll c.args.hands.now (take (c.loop-path.path-index + 1) c.args.paths.now) l (g.W.Dialer.state c.args.dialer.now) (g.W.Dialer.state c.upload_output.new.dialer) (g.R.Runner.state c.args.runner.now) (g.R.Runner.state c.upload_output.new.runner)) (sym c.in_ok-push_file-in-Ok.ensures)
      (uploaded_at c.args.hands.now c.args.paths.now c.loop-path.path-index c.path-item.result c.in-Ok.file c.loop-path.files
      (g.W.Dialer.state c.args.dialer.now) (g.W.Dialer.state c.loop-path.dialer) (g.W.Dialer.state c.upload_output.new.dialer)
      (g.R.Runner.state c.args.runner.now) (g.R.Runner.state c.loop-path.runner) (g.R.Runner.state c.upload_output.new.runner)
      c.loop-path-test.true c.path-item.is c.loop-path.invariant.0
      (subst (λ r. UploadsOutput c.args.hands.now c.path-item.result r (g.W.Dialer.state c.loop-path.dialer) (g.W.Dialer.state c.upload_output.new.dialer) (g.R.Runner.state c.loop-path.runner) (g.R.Runner.state c.upload_output.new.runner)) c.in-Ok.is c.in_ok-file.ensures.puts)),
  λ i. c.upload_output.ensures.tells (c.loop-path.invariant.1 i),
)

pub returns-in-Err-clause-puts : goal.returns-in-Err-clause-puts
returns-in-Err-clause-puts g c = grind (arith, uploaded_at, ended_at)
