-- The numbers rise by their names, and the closure compares the name of each.
use Rattle.std.proofs.Common.{rules, map}
use Rattle.std.specs.Ordering.{is_le}
use Rattle.std.proofs.lemmas.List.Sorted.{IsPartitionPoint-from_clause}
use Rattle.dimensions.specs.Order.{text_cmp}
use Rattle.bot_registry.specs.Names.{name_of, name_at}
use Rattle.bot_registry.proofs.Next.{parted}
use Rattle.bot_registry.proofs.names.place_after.Goals as goal

pub returns-clause-place : goal.returns-clause-place
returns-clause-place c =
    IsPartitionPoint-from_clause (λ n. is_le (text_cmp (name_at (map name_of c.args.rows.now) n) c.args.name.now)) c.args.numbers.now c.partition_point.result c.partition_point.ensures.partitioned
    (parted c.args.rows.now c.args.numbers.now c.requires.numbered c.requires.named c.args.name.now) (λ a r f called. (search rules, search rules))
