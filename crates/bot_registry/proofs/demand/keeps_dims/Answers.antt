-- The entry names the dimensions that the bot has.
use Rattle.std.proofs.Common.{sym, ◌∙◌}
use Rattle.bot_registry.proofs.Alike.{same_session, same_poll}
use Rattle.bot_registry.proofs.demand.keeps_dims.Goals as goal

pub returns-in-Handshake : goal.returns-in-Handshake
returns-in-Handshake c = λ same moment.
    let h = c.in-Handshake in
    rw h.is (same_session moment h.b h.id h.session h.dims h.q c.args.bot.now (sym c.eq.ensures ∙ same))

pub returns-in-Poll : goal.returns-in-Poll
returns-in-Poll c = λ same moment.
    let h = c.in-Poll in
    rw h.is (same_poll moment h.b h.dims h.q h.hint c.args.bot.now (c.is_none_or_same.ensures same))
