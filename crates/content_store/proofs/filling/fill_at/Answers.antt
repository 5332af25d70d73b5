-- The slot's content is written, and its slot marked.
use Rattle.std.proofs.Common.{◌∙◌, sym, ap, subst, List, length, get_or, map, arith, ◌<◌, ◌*◌}
use Rattle.std.proofs.lemmas.List.{length-map}
use Rattle.content_store.specs.declared.slot.Slot.{Slot}
use Rattle.content_store.specs.Slots.{digest_of, content_in, AreLaidOut, AreThere, IsWritten}
use Rattle.content_store.proofs.Found.{key_at}
use Rattle.content_store.proofs.Marking.{filled-holds, filled-there, marked-laid}
use Rattle.content_store.proofs.filling.fill_at.Goals as goal

pub returns-clause-holds : goal.returns-clause-holds
returns-clause-holds c =
    let slots = c.args.slots.now.items in
    let d = c.index-slot.result.now in
    let old = c.args.bytes.now.items in
    let new = c.write_at.new.bytes.items in
    let low : c.args.index < length slots = omega (arith, c.requires.at.within, length-map slots digest_of) in
    let written : IsWritten old new ((get_or slots c.args.index d).at * 64) c.args.content.now =
    subst (λ (s : Slot). IsWritten old new (s.at * 64) c.args.content.now) c.index-slot.ensures c.write_at.ensures.written in
    ap (λ (l : List Slot). map (content_in new) l) (c.mark.ensures.items d)
    ∙ filled-holds c.args.region.now slots c.args.index d old new c.args.content.now c.requires.laid_out low (c.requires.sized d) written c.requires.there c.requires.laid_out.sorted c.args.digest.now c.requires.at

pub returns-clause-laid_out : goal.returns-clause-laid_out
returns-clause-laid_out c =
    let slots = c.args.slots.now.items in
    let d = c.index-slot.result.now in
    let low : c.args.index < length slots = omega (arith, c.requires.at.within, length-map slots digest_of) in
    subst (λ (l : List Slot). AreLaidOut c.args.region.now l) (sym (c.mark.ensures.items d)) (marked-laid c.args.region.now slots c.args.index d low c.requires.laid_out)

pub returns-clause-there : goal.returns-clause-there
returns-clause-there c =
    let slots = c.args.slots.now.items in
    let d = c.index-slot.result.now in
    let old = c.args.bytes.now.items in
    let new = c.write_at.new.bytes.items in
    let low : c.args.index < length slots = omega (arith, c.requires.at.within, length-map slots digest_of) in
    let written : IsWritten old new ((get_or slots c.args.index d).at * 64) c.args.content.now =
    subst (λ (s : Slot). IsWritten old new (s.at * 64) c.args.content.now) c.index-slot.ensures c.write_at.ensures.written in
    let named = c.requires.named ∙ sym c.requires.at.is ∙ key_at slots c.args.index d low in
    subst (λ (l : List Slot). AreThere new l) (sym (c.mark.ensures.items d))
    (filled-there c.args.region.now slots c.args.index d old new c.args.content.now c.requires.laid_out low (c.requires.sized d) written c.requires.there named)
