-- The machine at the next place is made too, or the records there are the first that are refused.
use Rattle.std.proofs.Common.{◌≡◌, ◌+◌, List, get_or, map, length, arith, ap, sym, subst, ◌∙◌}
use Rattle.std.proofs.lemmas.List.{length-map, length_push}
use Rattle.swarm_model.specs.declared.pool_settings.PoolSettings.{PoolSettings}
use Rattle.swarm_history.proofs.LoadedMachines.{tells_bad, loaded_next, nothing_more}
use Rattle.swarm_history.specs.Records.{IsFirstBadRecord}
use Rattle.swarm_history.proofs.loading.load_machines.Goals as goal

pub returns-in-Err-clause-bad : goal.returns-in-Err-clause-bad
returns-in-Err-clause-bad g c =
    let tables = map g.K.Keeper.tables c.args.keepers.now.items in
    let machines = map g.M.Machine.kept c.loop-place.machines.items in
    let low = c.loop-place-test.true in
    let keepers = c.requires.keepers in
    let pools = ap length c.as_slice-pools.ensures in
    let pool = c.index-pools-place.result in
    let is = subst (λ (all : List PoolSettings). pool ≡ get_or all c.loop-place.place pool) c.as_slice-pools.ensures c.index-pools-place.is in
    subst (IsFirstBadRecord c.args.settings.now tables) (sym c.fault_of.ensures)
    (tells_bad c.args.settings.now tables (map g.K.Keeper.tables c.loop-place.keepers.items) machines c.loop-place.place pool c.in-Err.stop
    c.loop-place.invariant.3 (sym c.loop-place.invariant.0 ∙ sym (length-map c.loop-place.machines.items g.M.Machine.kept))
    (omega (arith, low, pools)) (omega (arith, low, pools, keepers, length-map c.args.keepers.now.items g.K.Keeper.tables)) is
    c.in-Err.ensures.refused c.loop-place.invariant.1)

pub loop-place-preserved : goal.loop-place-preserved
loop-place-preserved g c =
    let kept = g.M.Machine.kept in
    let tables = map g.K.Keeper.tables c.args.keepers.now.items in
    let machines = c.loop-place.machines.items in
    let low = c.loop-place-test.true in
    let keepers = c.requires.keepers in
    let pools = ap length c.as_slice-pools.ensures in
    let pool = c.index-pools-place.result in
    let is = subst (λ (all : List PoolSettings). pool ≡ get_or all c.loop-place.place pool) c.as_slice-pools.ensures c.index-pools-place.is in
    let pushed = c.in_ok-push-in-Ok.ensures.items in
    let before = c.loop-place.invariant.5 in
    let grows = c.load_at.ensures.grows in (
      ap length pushed ∙ length_push machines c.in-Ok.machine ∙ ap (λ n. n + 1) c.loop-place.invariant.0,
      loaded_next kept machines c.push.new.self.items c.in-Ok.machine pushed c.args.settings.now.pools tables (map g.K.Keeper.tables c.loop-place.keepers.items)
          c.loop-place.place pool c.loop-place.invariant.3 (sym c.loop-place.invariant.0) (omega (arith, low, pools))
          (omega (arith, low, pools, keepers, length-map c.args.keepers.now.items g.K.Keeper.tables)) is c.in-Ok.ensures.loaded c.loop-place.invariant.1,
      (λ sure. nothing_more kept machines c.push.new.self.items c.in-Ok.machine pushed (c.loop-place.invariant.2 sure) (c.in-Ok.ensures.nothing sure)),
      c.load_at.ensures.stays ∙ c.loop-place.invariant.3,
      c.load_at.ensures.all_stay ∙ c.loop-place.invariant.4,
      omega (arith, before, grows),
    )
