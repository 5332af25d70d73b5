use Rattle.std.proofs.Common.{string_bytes}
use Rattle.swarm_model.specs.History.{states}
use Rattle.pool_summaries.specs.Summaries.{count_at, count_line}
use Rattle.pool_summaries.proofs.Lines.{lines_more}
use Rattle.pool_summaries.proofs.summaries.write_count_lines.Goals as goal

pub loop-state-preserved : goal.loop-state-preserved
loop-state-preserved c =
    lines_more count_line (count_at c.args.counts.now) states c.loop-state.state-index _ c.count_of.result (string_bytes c.args.text.now) (string_bytes c.loop-state.text)
    (string_bytes c.write_count_line.new.text) c.loop-state-test.true c.count_of.ensures c.loop-state.invariant c.in_ok-write_count_line.ensures
