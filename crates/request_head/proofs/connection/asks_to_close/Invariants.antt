use Rattle.std.proofs.Common.{take, map, ◌≡◌}
use Rattle.std.specs.List.{list_any}
use Rattle.httparse.specs.Spans.{header_bytes}
use Rattle.request_head.specs.HeadFields.{is_closing}
use Rattle.request_head.proofs.connection.asks_to_close.Given as goal

abbrev pub invariant-loop-header : goal.invariant-loop-header
invariant-loop-header l = l.closes ≡ list_any is_closing (map (header_bytes l.text) (take l.header-index l.headers))
