use Rattle.std.proofs.Common.{length}
use Rattle.runners.specs.declared.call.RunnerCall.TheVariants as call
use Rattle.bot_turns.proofs.TellLemmas.{cleans_tells, tells_on}
use Rattle.bot_turns.proofs.caches.clean_up.Goals as goal

pub returns-in-Err-Failed-clause-tells : goal.returns-in-Err-Failed-clause-tells
returns-in-Err-Failed-clause-tells g c = cleans_tells c.clean.result (length c.as_slice.result.now) (g.R.Runner.state c.args.runner.now) (g.R.Runner.state c.clean.new.self) (call.Clean c.as_slice.result.now) c.clean.ensures

pub returns-in_err-return_caches-in-Ok-clause-tells : goal.returns-in_err-return_caches-in-Ok-clause-tells
returns-in_err-return_caches-in-Ok-clause-tells g c = cleans_tells c.clean.result (length c.as_slice.result.now) (g.R.Runner.state c.args.runner.now) (g.R.Runner.state c.clean.new.self) (call.Clean c.as_slice.result.now) c.clean.ensures

pub returns-in_err-drop_trimmed-in-Ok-clause-tells : goal.returns-in_err-drop_trimmed-in-Ok-clause-tells
returns-in_err-drop_trimmed-in-Ok-clause-tells g c =
    tells_on (g.R.Runner.state c.args.runner.now) (g.R.Runner.state c.clean.new.self) (g.R.Runner.state c.drop_trimmed.new.runner)
    (cleans_tells c.clean.result (length c.as_slice.result.now) (g.R.Runner.state c.args.runner.now) (g.R.Runner.state c.clean.new.self) (call.Clean c.as_slice.result.now) c.clean.ensures)
    c.drop_trimmed.ensures.tells

pub returns-in-Ok-clause-tells : goal.returns-in-Ok-clause-tells
returns-in-Ok-clause-tells g c =
    tells_on (g.R.Runner.state c.args.runner.now) (g.R.Runner.state c.clean.new.self) (g.R.Runner.state c.drop_trimmed.new.runner)
    (cleans_tells c.clean.result (length c.as_slice.result.now) (g.R.Runner.state c.args.runner.now) (g.R.Runner.state c.clean.new.self) (call.Clean c.as_slice.result.now) c.clean.ensures)
    c.drop_trimmed.ensures.tells
