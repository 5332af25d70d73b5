-- The rest of a log is legal from the rows at the cut.
use Rattle.std.proofs.Common.{◌+◌, ◌≤◌, length, length-append, sym, subst, arith, sum_by}
use Rattle.std.proofs.lemmas.List.Sums.{sum_by-append}
use Rattle.swarm_model.specs.declared.pool_settings.PoolSettings.{PoolSettings}
use Rattle.swarm_model.specs.Entries.{weight}
use Rattle.swarm_model.specs.History.{replay}
use Rattle.swarm_model.specs.StateWeight.{state_weight}
use Rattle.pool_laws.specs.Bases.{RestIsLegal}
use Rattle.pool_laws.proofs.Sound.{settings_stay}
use Rattle.pool_laws.proofs.Finals.{caused_first, caused_rest}
use Rattle.pool_laws.proofs.Weights.{weight_bounded}

pub rest_legal : RestIsLegal
rest_legal base first rest sound legal =
    let same = settings_stay base first in
    let few = legal.few in
    let light = legal.light in
    let both = length-append first rest in
    let sums = sum_by-append weight first rest in
    let gained = weight_bounded base first sound (caused_first base first rest legal.caused) in
    record {
      caused = caused_rest base first rest legal.caused;
      few = subst (λ (p : PoolSettings). length rest ≤ p.most_entries) (sym same) (omega (arith, few, both));
      light = subst (λ (p : PoolSettings). state_weight (replay base first) + sum_by weight rest ≤ p.most_weight) (sym same) (omega (arith, light, sums, gained));
    }
