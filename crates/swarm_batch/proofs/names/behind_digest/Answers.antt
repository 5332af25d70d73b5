use Rattle.std.proofs.Common.{sym, ap, ◌∙◌}
use Rattle.std.specs.List.{list_all}
use Rattle.task_props.specs.Digests.{is_hex_digit}
use Rattle.swarm_batch.proofs.Heads.{behind, not_digits}
use Rattle.swarm_batch.proofs.names.behind_digest.Goals as goal

pub returns-then-are_hex_digits : goal.returns-then-are_hex_digits
returns-then-are_hex_digits c =
    behind c.args.text.now c.split_at.result.0.now c.split_at.result.1.now c.as_slice.result.now c.strip_prefix.result c.if-text-lt-DIGITS.false c.split_at.ensures.front c.split_at.ensures.back c.as_slice.ensures
    (sym c.are_hex_digits.ensures ∙ c.if-are_hex_digits.true) c.strip_prefix.ensures.cases

pub returns-else-are_hex_digits : goal.returns-else-are_hex_digits
returns-else-are_hex_digits c = not_digits c.args.text.now (ap (list_all is_hex_digit) (sym c.split_at.ensures.front) ∙ sym c.are_hex_digits.ensures ∙ c.if-are_hex_digits.false)
