-- What is found among the slots is lent.
use Rattle.std.proofs.Common.{◌∙◌, sym, ap, Option, length, get_or, false, nat_eq}
use Rattle.std.specs.Option.{option_and_then, option_map_or}
use Rattle.std.proofs.lemmas.Option.{IfSome_then}
use Rattle.std.proofs.lemmas.Bool.{eq-eqb}
use Rattle.content_store.specs.Contents.{Content}
use Rattle.content_store.specs.Slots.{content_in}
use Rattle.content_store.specs.declared.slot.Slot.{Slot}
use Rattle.content_store.proofs.Laying.{held_at, not_held}
use Rattle.content_store.proofs.filling.get.Goals as goal

pub returns-in-Err-clause-lends : goal.returns-in-Err-clause-lends
returns-in-Err-clause-lends c =
    sym (ap (λ (o : Option Content). option_and_then (λ content. content.bytes) o) (not_held c.args.bytes.now c.args.slots.now.items c.args.digest.now c.in-Err.field-0 c.in-Err.ensures))

pub returns-in-Ok-clause-lends : goal.returns-in-Ok-clause-lends
returns-in-Ok-clause-lends c =
    let slot = c.index.result.now in
    c.lend.ensures.lends
    ∙ ap (λ (s : Slot). (content_in c.args.bytes.now s).bytes) c.index.ensures
    ∙ sym (ap (λ (o : Option Content). option_and_then (λ content. content.bytes) o)
    (held_at c.args.bytes.now c.args.slots.now.items c.args.digest.now c.in-Ok.index slot c.requires.sorted c.in-Ok.ensures))

pub returns-in-Ok-clause-sized : goal.returns-in-Ok-clause-sized
returns-in-Ok-clause-sized c =
    let slot = c.index.result.now in
    IfSome_then c.lend.result c.lend.ensures.sized (λ b is.
    ap (λ (o : Option Content). option_map_or (λ content. nat_eq content.size (length b.now)) o false)
    (held_at c.args.bytes.now c.args.slots.now.items c.args.digest.now c.in-Ok.index slot c.requires.sorted c.in-Ok.ensures)
    ∙ eq-eqb (get_or c.args.slots.now.items c.in-Ok.index slot).size (length b.now) (sym (ap (λ (s : Slot). s.size) c.index.ensures) ∙ sym is))
