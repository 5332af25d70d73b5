-- The bytes are those of the request, and where the call stops, deadlines were settled at most.
use Rattle.std.proofs.lemmas.Bool.{and_parts}
use Rattle.swarm_model.specs.Fits.{fits}
use Rattle.pool_doors.specs.Doors.{is_log_full}
use Rattle.bot_worlds.specs.Pool.{carries}
use Rattle.two_ends.proofs.Calls.{carries_is, stop_settles}
use Rattle.two_ends.proofs.asking.ask.Goals as goal

pub serve_unkept-requires-clause-carries : goal.serve_unkept-requires-clause-carries
serve_unkept-requires-clause-carries g c =
    carries_is c.args.request.now c.args.bytes.now
    (and_parts (fits (g.M.Machine.kept c.args.machine.now).start.rows.settings c.args.request.now) (carries c.args.request.now c.args.bytes.now) c.requires.may).1

pub returns-in-Err-Memory-clause-settles : goal.returns-in-Err-Memory-clause-settles
returns-in-Err-Memory-clause-settles g c =
    stop_settles (g.M.Machine.kept c.args.machine.now).start c.args.who.now c.args.moment c.args.request.now (g.M.Machine.kept c.args.machine.now).log (g.M.Machine.kept c.serve_unkept.new.machine).log
    (is_log_full c.in-Err-Memory.field-0) c.in-Err-Memory.ensures.stopped
