use Rattle.std.proofs.Common.{take, map}
use Rattle.httparse.specs.Spans.{header_bytes}
use Rattle.head_fields.specs.Fields.{named}
use Rattle.head_fields.specs.Finding.{IsFound}
use Rattle.head_fields.proofs.fields.find_field.Given as goal

abbrev pub invariant-loop-header : goal.invariant-loop-header
invariant-loop-header l = IsFound l.text (named l.name (map (header_bytes l.text) (take l.header-index l.headers))) l.found
