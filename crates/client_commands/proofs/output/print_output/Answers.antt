use Rattle.std.proofs.Common.{◌-◌, arith}
use Rattle.client_commands.proofs.Following.{through, fetched_on, fetched_end, all_fetched}
use Rattle.client_commands.proofs.output.print_output.Goals as goal

pub pieces-init : goal.pieces-init
pieces-init g c = (omega arith, λ aside v status f. f)

pub print_piece-requires : goal.print_piece-requires
print_piece-requires g c = omega (arith, c.pieces.invariant.0)

pub returns-in-Err : goal.returns-in-Err
returns-in-Err g c = λ aside. c.pieces.invariant.1 aside _ _ (fetched_end c.args.id.now c.pieces.left (c.pieces.left - 1) c.pieces.offset (omega arith) (λ next. c.in-Err.ensures aside next))

pub overflow_add-offset : goal.overflow_add-offset
overflow_add-offset g c = omega (arith, c.pieces.invariant.0)

pub pieces-preserved : goal.pieces-preserved
pieces-preserved g c = (omega (arith, c.pieces.invariant.0), λ aside. through (c.pieces.invariant.1 aside) (fetched_on c.args.id.now c.pieces.left (c.pieces.left - 1) c.pieces.offset (omega arith) (λ next. c.in-Ok.ensures aside next)))

pub returns : goal.returns
returns g c = λ aside. c.pieces.invariant.1 aside _ _ (all_fetched c.args.id.now c.pieces.left c.pieces.offset _ (omega arith))
