use Rattle.std.proofs.Common.{◌≡◌, true, arith}
use Rattle.batch_plays.proofs.Playing.{asked_fits}
use Rattle.batch_plays.proofs.play.ask_other.Goals as goal

pub ask_pool-requires-clause-fits : goal.ask_pool-requires-clause-fits
ask_pool-requires-clause-fits g c =
    asked_fits c.args.settings.now (g.M.Machine.kept c.args.machine.now).pool.settings c.args.request.now c.args.bytes.now c.may_ask.result c.requires.ready.one c.may_ask.ensures
    (grind (arith, c.if-not-may_ask.false))
