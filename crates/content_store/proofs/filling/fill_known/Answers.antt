-- What is found among the slots tells the answer.
use Rattle.std.proofs.Common.{◌≡◌, ◌∙◌, sym, ap, map, true, get_or}
use Rattle.sha2.specs.Sha256.{sha256}
use Rattle.blob_rows.specs.Digests.{same_digest}
use Rattle.blob_rows.proofs.Texts.{same_text}
use Rattle.content_store.specs.declared.slot.Slot.{Slot}
use Rattle.content_store.specs.Slots.{content_in}
use Rattle.content_store.proofs.Laying.{held_at, not_held}
use Rattle.content_store.proofs.Telling.{told_unknown, told_other_size, told_done}
use Rattle.content_store.proofs.filling.fill_known.Goals as goal

pub returns-in-Err-clause-told : goal.returns-in-Err-clause-told
returns-in-Err-clause-told c =
    let old = c.args.bytes.now.items in
    let slots = c.args.slots.now.items in
    let named : same_digest (sha256 c.args.content.now) c.args.digest.now ≡ true =
    same_text (sha256 c.args.content.now) c.args.digest.now c.requires.named in
    told_unknown (map (content_in old) slots) c.args.digest.now c.args.content.now named
    (not_held old slots c.args.digest.now c.in-Err.field-0 c.in-Err.ensures)

pub returns-then-index-content-clause-told : goal.returns-then-index-content-clause-told
returns-then-index-content-clause-told c =
    let old = c.args.bytes.now.items in
    let slots = c.args.slots.now.items in
    let d = c.index.result.now in
    let named : same_digest (sha256 c.args.content.now) c.args.digest.now ≡ true =
    same_text (sha256 c.args.content.now) c.args.digest.now c.requires.named in
    told_other_size (map (content_in old) slots) c.args.digest.now c.args.content.now named (content_in old (get_or slots c.in-Ok.index d))
    (held_at old slots c.args.digest.now c.in-Ok.index d c.requires.laid_out.sorted c.in-Ok.ensures)
    (λ same_size. c.if-index-content.true (ap (λ (s : Slot). s.size) c.index.ensures ∙ same_size))

pub returns-else-index-content-clause-told : goal.returns-else-index-content-clause-told
returns-else-index-content-clause-told c =
    let old = c.args.bytes.now.items in
    let slots = c.args.slots.now.items in
    let d = c.index.result.now in
    let named : same_digest (sha256 c.args.content.now) c.args.digest.now ≡ true =
    same_text (sha256 c.args.content.now) c.args.digest.now c.requires.named in
    told_done (map (content_in old) slots) c.args.digest.now c.args.content.now named (content_in old (get_or slots c.in-Ok.index d))
    (held_at old slots c.args.digest.now c.in-Ok.index d c.requires.laid_out.sorted c.in-Ok.ensures)
    (sym (ap (λ (s : Slot). s.size) c.index.ensures) ∙ c.if-index-content.false)
