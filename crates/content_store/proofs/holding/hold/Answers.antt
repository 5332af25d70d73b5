-- What is found among the slots tells the answer.
use Rattle.std.proofs.Common.{◌≤◌, length, arith}
use Rattle.content_store.proofs.Telling.{told_present, told_full}
use Rattle.content_store.proofs.holding.hold.Goals as goal

pub returns-in-Ok-clause-told : goal.returns-in-Ok-clause-told
returns-in-Ok-clause-told c = λ bytes.
    told_present c.args.region.now c.args.names bytes c.args.slots.now.items c.args.digest.now c.args.size c.requires.laid_out c.in-Ok.field-0 c.in-Ok.ensures

pub returns-then-len-names-clause-told : goal.returns-then-len-names-clause-told
returns-then-len-names-clause-told c = λ bytes.
    let full : c.args.names ≤ length c.args.slots.now.items = omega (arith, c.if-len-names.true) in
    told_full c.args.region.now c.args.names bytes c.args.slots.now.items c.args.digest.now c.args.size c.requires.laid_out c.in-Err.index c.in-Err.ensures full
