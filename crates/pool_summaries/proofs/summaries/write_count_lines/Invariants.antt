use Rattle.std.proofs.Common.{◌≡◌, ◌++◌, take, string_bytes}
use Rattle.std.specs.List.{flat_map}
use Rattle.pool_summaries.specs.Summaries.{count_at, count_line}
use Rattle.pool_summaries.proofs.summaries.write_count_lines.Given as goal

abbrev pub invariant-loop-state : goal.invariant-loop-state
invariant-loop-state l =
    string_bytes l.text ≡ string_bytes l.fn.text ++ flat_map (λ state. count_line state (count_at l.counts state)) (take l.state-index l.state-items)
