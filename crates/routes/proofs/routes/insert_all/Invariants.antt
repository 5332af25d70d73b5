use Rattle.std.proofs.Common.{◌≡◌, drop, map}
use Rattle.std.specs.List.{fold}
use Rattle.routes.specs.Rows.{with_row}
use Rattle.routes.proofs.routes.insert_all.Given as goal

abbrev pub invariant-loop-target : goal.invariant-loop-target
invariant-loop-target l =
    fold with_row l.fn.router (map (λ row. (row.0.now, row.1)) l.table) ≡ fold with_row l.router (map (λ row. (row.0.now, row.1)) (drop l.target-index l.table))
