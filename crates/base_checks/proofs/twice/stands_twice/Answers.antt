-- What the sorted keys tell is told of the keys.
use Rattle.base_checks.proofs.Sorted.{told_of_keys}
use Rattle.base_checks.proofs.twice.stands_twice.Goals as goal

pub returns : goal.returns
returns g c =
    told_of_keys g.K.Ord.cmp g.met.K.Ord.total c.args.keys.now c.sort_unstable.new.self c.sort_unstable.ensures.permutation c.sort_unstable.ensures.sorted c.has_equal.result c.has_equal.ensures
