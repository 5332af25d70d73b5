-- The view knows what its reader knows.
use Rattle.std.proofs.Common.{◌≡◌, IsTrue, Some, sym, subst, ◌∙◌}
use Rattle.left_right.specs.Sides.{view}
use Rattle.swarm_model.specs.Bases.{Base}
use Rattle.swarm_model.specs.Fits.{fits}
use Rattle.pool_views.specs.Views.{Known, Query}
use Rattle.swarm_boards.specs.declared.rule.Seen.{Seen}
use Rattle.swarm_boards.proofs.Posting.{opened}
use Rattle.swarm_boards.proofs.Looking.{asked_in, base_in}
use Rattle.swarm_boards.proofs.view.View.ask.Goals as goal

pub read-reader-requires-clause-base : goal.read-reader-requires-clause-base
read-reader-requires-clause-base c =
    let v = c.self.inside in
    let r = c.in-Some.reader in
    let base = opened (λ r. (view {V = Seen} r.place).base ≡ Some v.base.value.value) v.reader r (sym c.take.ensures.value ∙ c.in-Some.is) c.self.invariant.reader in
    base_in v.base.value.value (view {V = Seen} r.place).base c.args.request.now base
    (subst (λ (k : Known). IsTrue (fits k.start.rows.settings c.args.request.now)) (sym c.self.view_is) c.requires.fits) c.self.invariant.few

pub invariant_of-self : goal.invariant_of-self
invariant_of-self c =
    let v = c.self.inside in
    let r = c.in-Some.reader in
    let base = opened (λ r. (view {V = Seen} r.place).base ≡ Some v.base.value.value) v.reader r (sym c.take.ensures.value ∙ c.in-Some.is) c.self.invariant.reader in
    record { reader = c.read-reader.ensures.base ∙ base; few = c.self.invariant.few; count = c.self.invariant.count }

pub returns : goal.returns
returns c =
    let v = c.self.inside in
    let r = c.in-Some.reader in
    let is = sym c.take.ensures.value ∙ c.in-Some.is in
    let base = opened (λ r. (view {V = Seen} r.place).base ≡ Some v.base.value.value) v.reader r is c.self.invariant.reader in
    let start : Base = record { rows = v.base.value.value; count = v.count } in
    let query : Query = record { caller = c.args.who.now; after = c.args.after; request = c.args.request.now } in
    asked_in (λ r. view {V = Seen} r.place) start v.reader r c.read-reader.result.0 c.args.self.now query c.read-reader.result.1 is c.self.view_is base c.read-reader.ensures
