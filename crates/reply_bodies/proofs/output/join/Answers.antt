use Rattle.std.proofs.Common.{◌≡◌, ◌++◌, ◌⊎◌, inl, inr, length, append-nil, sym, ap, ◌∙◌}
use Rattle.reply_bodies.proofs.Joined.{joined_end}
use Rattle.reply_bodies.proofs.output.join.Goals as goal

pub returns : goal.returns
returns c =
    let parts = c.loop-part.part-iterator.a.rest.now in
    let pieces = c.loop-part.part-iterator.b.rest.now in
    let end : (length parts ≡ 0) ⊎ (length pieces ≡ 0) = elim c.in-None.ensures.steps [ inl h ↦ inl h.1.0 | inr h ↦ inr h.1.0 ] in
    sym (c.loop-part.invariant ∙ ap (λ more. c.loop-part.bytes.items ++ more) (joined_end parts pieces end) ∙ append-nil c.loop-part.bytes.items)
