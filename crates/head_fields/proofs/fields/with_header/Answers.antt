use Rattle.std.proofs.Common.{◌≡◌, true, sym, ◌∙◌}
use Rattle.httparse.specs.Spans.{span_bytes}
use Rattle.head_fields.specs.Fields.{same_name}
use Rattle.head_fields.proofs.fields.with_header.Goals as goal

pub returns-then-is_named : goal.returns-then-is_named
returns-then-is_named c = λ values found.
    let t : same_name (span_bytes c.args.text.now c.args.header.now.name) c.args.name.now ≡ true = sym c.is_named.ensures ∙ c.if-is_named.true in
    rw t (c.once_more.ensures c.args.text.now values found c.requires.1)
