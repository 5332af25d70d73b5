-- The records at the next place begin anew too, or stay.
use Rattle.std.proofs.Common.{map, refl, arith, sym, subst, ◌∙◌}
use Rattle.std.proofs.lemmas.List.{length-map}
use Rattle.swarm_history.specs.Checkpoints.{HaveBegunTo}
use Rattle.swarm_history.specs.Machines.{logs_of, pools_of, start_at, starts_of}
use Rattle.swarm_history.proofs.Checkpoints.{more_anew, none_anew, pools_counted}
use Rattle.swarm_history.proofs.checkpointing.begin_all_anew.Goals as goal

pub loop-place-init : goal.loop-place-init
loop-place-init g c =
    let machines = map g.M.Machine.kept c.args.machines.now in
    let tables = map g.K.Keeper.tables c.args.keepers.now.items in
    record {
      begun = none_anew (pools_of machines) (start_at (starts_of machines)) (logs_of machines) tables
          (length-map c.args.keepers.now.items g.K.Keeper.tables ∙ c.requires.keepers ∙ sym (pools_counted g.M.Machine.kept c.args.machines.now));
      count = refl;
      grows = omega arith;
    }

pub loop-place-preserved : goal.loop-place-preserved
loop-place-preserved g c =
    let machines = map g.M.Machine.kept c.args.machines.now in
    let tables = g.K.Keeper.tables in
    let old = c.loop-place.keepers.items in
    let new = c.begin_anew_at.new.keepers.items in
    let counted = c.begin_anew_at.ensures.count in
    let before = c.loop-place.invariant.grows in
    let grows = c.begin_anew_at.ensures.grows in
    record {
      begun = more_anew (pools_of machines) (start_at (starts_of machines)) (logs_of machines) (map tables c.args.keepers.now.items) c.loop-place.place (map tables old) (map tables new)
          (length-map new tables ∙ counted ∙ sym (length-map old tables)) c.loop-place.invariant.begun c.in-Ok.ensures.anew;
      count = counted ∙ c.loop-place.invariant.count;
      grows = omega (arith, before, grows);
    }

pub returns-in-Err-clause-err : goal.returns-in-Err-clause-err
returns-in-Err-clause-err g c =
    let machines = map g.M.Machine.kept c.args.machines.now in
    subst (HaveBegunTo machines c.loop-place.place (map g.K.Keeper.tables c.args.keepers.now.items)) (sym c.in-Err.ensures.stays) c.loop-place.invariant.begun
