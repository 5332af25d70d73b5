use Rattle.std.proofs.Common.{List, ◌≤◌, length, subst, take_all, arith}
use Rattle.std.specs.List.{All}
use Rattle.swarm_machine.specs.Types.{File, Slice}
use Rattle.pool_index.specs.Uses.{IsListed}
use Rattle.pool_index.proofs.UseKeys.{same_then, kept_then}
use Rattle.swarm_machine.specs.Uses.{AreInputsListed}
use Rattle.swarm_machine.proofs.UsesChange.{slices_stay, all_with_item}
use Rattle.swarm_machine.proofs.uses.list_slices.Goals as goal

pub loop-slice-preserved : goal.loop-slice-preserved
loop-slice-preserved c =
    let i = c.loop-slice.invariant in
    let e = c.list_inputs.ensures in
    let new = c.list_inputs.new.uses in
    record {
      same = same_then c.args.uses.now c.loop-slice.uses new i.same e.same;
      kept = kept_then c.args.uses.now c.loop-slice.uses new i.kept e.kept;
      listed =
          all_with_item c.args.slices.now c.loop-slice.slice-index c.slice-item.result c.loop-slice-test.true c.slice-item.is (AreInputsListed new)
          (slices_stay c.loop-slice.uses new e.kept _ i.listed)
          (subst (λ (inputs : List File). All (λ file. IsListed new file.digest) inputs) c.as_slice.ensures c.in_ok-list_inputs.ensures.ok);
    }

pub returns-clause-ok : goal.returns-clause-ok
returns-clause-ok c =
    let end : length c.args.slices.now ≤ c.loop-slice.slice-index = omega (arith, c.loop-slice-test.false) in
    subst (λ (slices : List Slice). All (AreInputsListed c.loop-slice.uses) slices) (take_all c.loop-slice.slice-index c.args.slices.now end) c.loop-slice.invariant.listed
