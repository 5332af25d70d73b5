use Rattle.std.proofs.Common.{take, map, sym, subst}
use Rattle.httparse.specs.Spans.{header_bytes}
use Rattle.head_fields.specs.Fields.{named}
use Rattle.head_fields.specs.Finding.{IsFound}
use Rattle.head_fields.proofs.FieldLemmas.{named_more, no_header}
use Rattle.head_fields.proofs.fields.find_field.Goals as goal

pub loop-header-preserved : goal.loop-header-preserved
loop-header-preserved c =
    subst (λ vs. IsFound c.args.text.now vs c.with_header-found.result)
    (sym (named_more c.args.text.now c.args.name.now c.args.headers.now c.loop-header.header-index no_header c.loop-header-test.true))
    (c.with_header-found.ensures (named c.args.name.now (map (header_bytes c.args.text.now) (take c.loop-header.header-index c.args.headers.now))) c.loop-header.invariant)
