use Rattle.std.proofs.Common.{◌+◌, take, sym, subst}
use Rattle.bot_turns.specs.Inputs.{FetchesFile, FetchesAll}
use Rattle.bot_turns.proofs.FetchLemmas.{fetched_at}
use Rattle.bot_turns.proofs.inputs.fetch_all.Goals as goal

pub loop-file-preserved : goal.loop-file-preserved
loop-file-preserved g c =
    subst (λ l. FetchesAll c.args.hands.now (take (c.loop-file.file-index + 1) c.args.files.now) l (g.W.Dialer.state c.args.dialer.now) (g.W.Dialer.state c.fetch_file.new.dialer)) (sym c.in_ok-push_input-in-Ok.ensures)
    (fetched_at c.args.hands.now c.args.files.now c.loop-file.file-index c.file-item.result c.in-Ok.bytes c.loop-file.inputs
    (g.W.Dialer.state c.args.dialer.now) (g.W.Dialer.state c.loop-file.dialer) (g.W.Dialer.state c.fetch_file.new.dialer)
    c.loop-file-test.true c.file-item.is c.loop-file.invariant
    (subst (λ r. FetchesFile c.args.hands.now c.file-item.result r (g.W.Dialer.state c.loop-file.dialer) (g.W.Dialer.state c.fetch_file.new.dialer)) c.in-Ok.is c.in_ok-bytes.ensures))
