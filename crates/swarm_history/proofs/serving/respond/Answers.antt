-- The reply's blobs are there, and what the answer adds may follow, with the bytes that it brings.
use Rattle.std.proofs.Common.{sym, ap, subst, ◌∙◌}
use Rattle.swarm_model.specs.declared.answer.Answer.{Answer}
use Rattle.pool_laws.proofs.Carrying.{new_is_brought}
use Rattle.pool_laws.proofs.Legality.{answer_follows}
use Rattle.pool_laws.proofs.NamedBlobs.{named_blobs_are_there}
use Rattle.pool_laws.specs.NamedBlobs.{HasNamed}
use Rattle.pool_laws.proofs.MachineLaws.{is_sound}
use Rattle.swarm_history.proofs.Bringing.{answer_bears, entry_carried}
use Rattle.swarm_history.proofs.serving.respond.Goals as goal

pub pieces-requires-clause-present : goal.pieces-requires-clause-present
pieces-requires-clause-present g c =
    let pool = (g.D.Desk.kept c.args.desk.now).pool in
    rw c.answer.ensures.same
    (subst (HasNamed pool) (sym (ap (λ (a : Answer). a.reply) c.in-Ok.ensures.exact))
    (named_blobs_are_there pool c.args.call.now.who.now c.args.moment (g.D.Desk.number c.args.desk.now) c.args.call.now.request.now))

pub brought_by-brought-requires : goal.brought_by-brought-requires
brought_by-brought-requires g c = record {
  carried = entry_carried (g.D.Desk.kept c.args.desk.now).pool c.args.call.now.who.now c.args.moment (g.D.Desk.number c.args.desk.now) c.args.call.now.request.now c.args.call.now.bytes.now c.in-Some.entry
      (sym (ap (λ (a : Answer). a.entry) c.in-Ok.ensures.exact) ∙ c.in-Some.is) c.requires.carries;
}

pub add-requires : goal.add-requires
add-requires g c =
    let k = g.D.Desk.kept c.args.desk.now in
    let pass = g.D.Desk.number c.args.desk.now in
    let is = sym (ap (λ (a : Answer). a.entry) c.in-Ok.ensures.exact) ∙ c.in-Some.is in
    rw (c.pieces.ensures.same ∙ c.answer.ensures.same) (record {
      ready = c.requires.ready;
      number = answer_bears k.pool c.args.call.now.who.now c.args.moment pass c.args.call.now.request.now c.in-Some.entry is;
      follows = answer_follows k.pool c.args.call.now.who.now c.args.moment pass c.args.call.now.request.now c.in-Some.entry
          (is_sound k c.requires.history) c.requires.not_before c.requires.not_late c.requires.nothing_due c.requires.fits is;
      history = c.requires.history;
      brings = c.brought_by-brought.ensures.brings;
      whole = λ new. c.brought_by-brought.ensures.whole ∙ new_is_brought k.pool c.in-Some.entry.kind new;
    })
