-- A weight that is capped is no greater than a limit of 32 bits exactly where the weight is none.
use Rattle.std.proofs.Common.{◌≡◌, ℕ, ◌^◌, ◌<◌, ◌≤◌, nat_le, ap, ◌∙◌, arith}
use Rattle.std.proofs.lemmas.Bool.Decides.{same_from_decides}
use Rattle.swarm_model.specs.Words.{capped}
use Rattle.swarm_model.specs.StateWeight.{state_weight}
use Rattle.base_checks.proofs.Tests.{le_decides, decides_as}
use Rattle.base_checks.proofs.base.is_light.Goals as goal

capped_le : (n most : ℕ) → most < 2 ^ 32 → nat_le (capped n) most ≡ nat_le n most
capped_le n most low =
    same_from_decides (nat_le (capped n) most) (nat_le n most)
    (decides_as (capped n ≤ most) (n ≤ most) (nat_le (capped n) most) (λ h. omega (arith, h, low)) (λ h. omega (arith, h)) (le_decides (capped n) most))
    (le_decides n most)

pub returns : goal.returns
returns c =
    let most = c.args.base.now.settings.most_weight in
    let weight = state_weight c.args.base.now in
    let limit : c.from.result ≡ most = omega arith in
    ap (λ (n : ℕ). nat_le c.rows_weight.result n) limit ∙ ap (λ (n : ℕ). nat_le n most) c.rows_weight.ensures ∙ capped_le weight most (omega arith)
