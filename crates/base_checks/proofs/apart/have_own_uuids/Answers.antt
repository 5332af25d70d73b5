-- What is told of the keys is told of the rows.
use Rattle.std.proofs.Common.{filter_map}
use Rattle.dimensions.specs.Order.{pair_cmp}
use Rattle.swarm_model.specs.Soundness.{sent_key}
use Rattle.base_checks.specs.Keys.{pair_in}
use Rattle.base_checks.specs.Rows.{HaveOwnUuids}
use Rattle.base_checks.proofs.OneRow.{uuids_stand_once}
use Rattle.base_checks.proofs.Behind.{told_of_rows}
use Rattle.base_checks.proofs.apart.have_own_uuids.Goals as goal

pub returns : goal.returns
returns c =
    told_of_rows pair_cmp pair_in (HaveOwnUuids c.args.tasks.now) c.in_ok-keys.keys.items (filter_map sent_key c.args.tasks.now) c.in_ok-keys.ensures (uuids_stand_once c.args.tasks.now c.requires.numbered) c.stands_twice.result
    (rw c.deref_mut.ensures.value at c.stands_twice.ensures)
