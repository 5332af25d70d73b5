use Rattle.std.proofs.Common.{arith}
use Rattle.head_fields.proofs.FieldLemmas.{digit_more, digit_low, digit_fits}
use Rattle.head_fields.proofs.number.value_of.Goals as goal

pub loop-digit-preserved : goal.loop-digit-preserved
loop-digit-preserved c = digit_more c.args.digits.now c.loop-digit.digit-index c.loop-digit.number c.from.result c.requires.digits c.loop-digit-test.true c.from.ensures c.loop-digit.invariant.0 c.loop-digit.invariant.1

pub overflow_mul-number : goal.overflow_mul-number
overflow_mul-number c = omega (arith, digit_fits c.loop-digit.digit-index c.loop-digit.number (omega arith) c.loop-digit.invariant.1)

pub overflow_add-number : goal.overflow_add-number
overflow_add-number c = omega (
  arith,
  digit_low c.args.digits.now c.loop-digit.digit-index c.from.result c.requires.digits c.loop-digit-test.true c.from.ensures,
  digit_fits c.loop-digit.digit-index c.loop-digit.number (omega arith) c.loop-digit.invariant.1,
)
