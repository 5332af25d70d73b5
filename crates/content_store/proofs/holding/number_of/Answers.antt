-- What is found among the slots tells the number.
use Rattle.std.proofs.Common.{◌∙◌, sym, ap, Option, Some}
use Rattle.std.specs.Option.{option_map}
use Rattle.content_store.specs.declared.slot.Slot.{Slot}
use Rattle.content_store.specs.Contents.{Content}
use Rattle.content_store.proofs.Laying.{held_at, not_held}
use Rattle.content_store.proofs.holding.number_of.Goals as goal

pub returns-in-Err : goal.returns-in-Err
returns-in-Err c = λ bytes.
    sym (ap (λ (o : Option Content). option_map (λ content. content.number) o) (not_held bytes c.args.slots.now.items c.args.digest.now c.in-Err.field-0 c.in-Err.ensures))

pub returns-in-Ok : goal.returns-in-Ok
returns-in-Ok c = λ bytes.
    ap (λ (s : Slot). option_map (λ t. t.number) (Some s)) c.index.ensures
    ∙ sym (ap (λ (o : Option Content). option_map (λ content. content.number) o)
    (held_at bytes c.args.slots.now.items c.args.digest.now c.in-Ok.index c.index.result.now c.requires c.in-Ok.ensures))
