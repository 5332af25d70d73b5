use Rattle.head_fields.proofs.FieldLemmas.{no_header}
use Rattle.request_head.proofs.HeadLemmas.{closing_more}
use Rattle.request_head.proofs.connection.asks_to_close.Goals as goal

pub loop-header-preserved : goal.loop-header-preserved
loop-header-preserved c = closing_more c.args.text.now c.args.headers.now c.loop-header.header-index no_header _ _ c.loop-header-test.true c.loop-header.invariant c.is_closing-closes.ensures
