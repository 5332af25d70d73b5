use Rattle.task_props.specs.declared.file.File.{File}
use Rattle.pool_index.specs.Uses.{IsListed}
use Rattle.pool_index.proofs.UseKeys.{same_then, kept_then}
use Rattle.swarm_machine.proofs.UsesChange.{inputs_stay, all_with_item}
use Rattle.swarm_machine.proofs.uses.list_inputs.Goals as goal

pub loop-file-preserved : goal.loop-file-preserved
loop-file-preserved c =
    let i = c.loop-file.invariant in
    let e = c.list_digest.ensures in
    record {
      same = same_then c.args.uses.now c.loop-file.uses c.list_digest.new.uses i.same e.same;
      kept = kept_then c.args.uses.now c.loop-file.uses c.list_digest.new.uses i.kept e.kept;
      listed =
          all_with_item c.args.inputs.now c.loop-file.file-index c.file-item.result c.loop-file-test.true c.file-item.is (λ (file : File). IsListed c.list_digest.new.uses file.digest)
          (inputs_stay c.loop-file.uses c.list_digest.new.uses e.kept _ i.listed) c.in_ok-list_digest.ensures.ok;
    }
