use Rattle.std.proofs.Common.{refl, sym}
use Rattle.routes.proofs.Table.{IsText-from_fits}
use Rattle.routes.proofs.routes.Routes.resource.Goals as goal

pub returns-in-Ok : goal.returns-in-Ok
returns-in-Ok c = rw (sym (c.args.self.now.exact c.args.target.now (IsText-from_fits c.args.target.now c.type_inv.target)), c.in-Ok.ensures.found) refl

pub returns-in-Err : goal.returns-in-Err
returns-in-Err c = rw (sym (c.args.self.now.exact c.args.target.now (IsText-from_fits c.args.target.now c.type_inv.target)), c.in-Err.ensures.missing) refl
