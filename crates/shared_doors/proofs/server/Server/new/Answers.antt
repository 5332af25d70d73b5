-- The pools are open.
use Rattle.shared_doors.specs.Machines.{lasting_in, log_in}
use Rattle.shared_doors.proofs.OpenPools.{opened_count, opened_fresh_at, opened_whole}
use Rattle.shared_doors.proofs.server.Server.new.Goals as goal

pub returns-clause-count : goal.returns-clause-count
returns-clause-count g c =
    opened_count (lasting_in g.M.Machine.kept) (log_in g.M.Machine.kept) c.args.settings.now.pools _ _ c.in_ok-turnstiles.ensures

pub returns-clause-whole : goal.returns-clause-whole
returns-clause-whole g c =
    opened_whole (lasting_in g.M.Machine.kept) (log_in g.M.Machine.kept) c.args.settings.now.pools _ _ c.in_ok-turnstiles.ensures

pub returns-clause-fresh : goal.returns-clause-fresh
returns-clause-fresh g c =
    opened_fresh_at (lasting_in g.M.Machine.kept) (log_in g.M.Machine.kept) c.args.settings.now.pools _ _ c.in_ok-turnstiles.ensures
