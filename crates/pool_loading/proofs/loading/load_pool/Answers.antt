-- What is refused is a line of the base, what its lines tell, a line of the log, or the bytes of all lines.
use Rattle.std.proofs.Common.{Option, IfSome, sym, subst}
use Rattle.swarm_keeper.specs.Tables.{Tables}
use Rattle.pool_loading.specs.Filling.{LacksBlob}
use Rattle.pool_loading.specs.Lines.{IsReplay, IsRefusedOf}
use Rattle.pool_loading.proofs.Stops.{stop_is}
use Rattle.pool_loading.proofs.Loads.{few_blobs, refused_bytes}
use Rattle.pool_loading.proofs.loading.load_pool.Goals as goal

pub returns-in_err-machine-clause-refused : goal.returns-in_err-machine-clause-refused
returns-in_err-machine-clause-refused g c which at is =
    let same = stop_is c.from_residual.result c.in_err-machine.field-0.0 _ c.from_residual.ensures.1 is in
    c.in_err-machine.ensures.refused which at same

pub load_lines-requires-clause-replay : goal.load_lines-requires-clause-replay
load_lines-requires-clause-replay g c =
    subst (λ (o : Option Tables). IsReplay c.args.settings.now o (g.M.Machine.kept c.in_ok-machine.machine)) (sym c.in_ok-machine.ensures.stays) c.in_ok-machine.ensures.replay

pub returns-in_err-load_lines-clause-refused : goal.returns-in_err-load_lines-clause-refused
returns-in_err-load_lines-clause-refused g c which at is =
    let same = stop_is c.from_residual-in_err-load_lines.result c.in_err-load_lines.field-0.0 _ c.from_residual-in_err-load_lines.ensures.1 is in
    subst (λ (o : Option Tables). IsRefusedOf c.args.settings.now o which at) c.in_ok-machine.ensures.stays (c.in_err-load_lines.ensures.refused which at same)

pub fill_blobs-requires-clause-few : goal.fill_blobs-requires-clause-few
fill_blobs-requires-clause-few g c =
    let replay = c.in_ok-load_lines.ensures.replay in
    few_blobs (g.M.Machine.kept c.load_lines.new.machine) replay.history

pub returns-in_err-fill_blobs-clause-refused : goal.returns-in_err-fill_blobs-clause-refused
returns-in_err-fill_blobs-clause-refused g c which at is =
    let kept = g.M.Machine.kept c.load_lines.new.machine in
    let tables = g.K.Keeper.tables c.open_machine.new.keeper in
    let same = stop_is c.from_residual-in_err-fill_blobs.result c.in_err-fill_blobs.field-0.0 _ c.from_residual-in_err-fill_blobs.ensures.1 is in
    let lacks = c.in_err-fill_blobs.ensures.refused which at same in
    subst (λ (o : Option Tables). IsRefusedOf c.args.settings.now o which at) c.in_ok-machine.ensures.stays
    (refused_bytes c.args.settings.now tables kept c.in_ok-load_lines.ensures.replay c.in_ok-load_lines.ensures.all which at
    (lacks.0, lacks.1, subst (λ (o : Option Tables). IfSome o (λ t. LacksBlob t kept.pool)) c.in_ok-load_lines.ensures.stays lacks.2))
