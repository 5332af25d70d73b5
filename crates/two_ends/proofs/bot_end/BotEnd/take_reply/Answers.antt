-- The reply is one to the present request.
use Rattle.std.proofs.Common.{◌≡◌, true, Some, List, length, rules, refl, sym, ◌∙◌, subst}
use Rattle.std.specs.Prelude.{slice_get}
use Rattle.std.proofs.lemmas.Option.{slice_get_read}
use Rattle.std.proofs.lemmas.Result.{on_ok_weaker}
use Rattle.bot_worlds.specs.declared.sent.Got.{Got}
use Rattle.bot_worlds.specs.Turns.{is_present, reply_event}
use Rattle.two_ends.specs.Ends.{world_with}
use Rattle.two_ends.proofs.Replies.{takes}
use Rattle.two_ends.proofs.bot_end.BotEnd.take_reply.Goals as goal

pub returns-clause-taken : goal.returns-clause-taken
returns-clause-taken c =
    let read = c.in-Some.ensures.lookup in
    let at_place : slice_get c.args.self.now.got.items c.args.place ≡ Some c.in-Some.got.now =
    subst (λ (xs : List Got). slice_get xs c.args.place ≡ Some c.in-Some.got.now) c.deref.ensures.value (slice_get_read c.deref.result.now (length c.deref.result.now) c.args.place c.in-Some.got.now refl read.3.0 read.1) in
    let present : is_present c.args.self.now.asking c.in-Some.got.now.sent ≡ true = search rules in
    let replied : reply_event c.in-Some.got.now.reply ≡ Some c.in-Some-reply_event.event = sym c.reply_event.ensures ∙ c.in-Some-reply_event.is in
    on_ok_weaker c.feed.result
    (λ fed start log. fed start log ∙ takes (world_with start log c.args.self.now) c.args.place c.args.moment c.in-Some.got.now c.in-Some-reply_event.event c.in_ok-told.told c.asked_again-again.result at_place present replied (c.in_ok-told.ensures start log) c.asked_again-again.ensures)
    c.feed.ensures.fed
