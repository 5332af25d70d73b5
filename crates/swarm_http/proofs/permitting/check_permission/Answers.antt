use Rattle.std.proofs.Common.{◌≡◌, Some, length, refl, sym, ◌∙◌, subst, Result}
use Rattle.std.specs.Prelude.{slice_get}
use Rattle.std.proofs.lemmas.Option.{slice_get_read}
use Rattle.swarm_http.specs.Types.{Rule, Asked}
use Rattle.swarm_http.specs.Steps.{IsRejection}
use Rattle.swarm_http.proofs.Pools.{is_denied}
use Rattle.swarm_http.proofs.permitting.check_permission.Goals as goal

pub returns-else-allowed-clause-denied : goal.returns-else-allowed-clause-denied
returns-else-allowed-clause-denied c =
    let pools = c.args.settings.now.pools in
    let asked = c.args.asked.now in
    let pool = c.index-as_slice-place.result in
    let at : slice_get pools asked.place ≡ Some pool =
    slice_get_read pools (length pools) asked.place pool refl c.requires.place (rw c.as_slice.ensures at c.index-as_slice-place.is) in
    subst (λ (r : Result Asked Rule). IsRejection c.denied.result r)
    (sym (is_denied c.args.settings.now c.args.who.now asked c.in-Some.permission pool (sym c.permission_of.ensures ∙ c.in-Some.is) at (sym c.allowed.ensures ∙ c.if-allowed.false)))
    c.denied.ensures
