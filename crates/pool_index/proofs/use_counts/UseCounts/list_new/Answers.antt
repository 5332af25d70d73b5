use Rattle.std.proofs.Common.{◌≡◌, ◌∙◌, List, ◌∷◌, ◌++◌, [], ap, subst, sym, refl}
use Rattle.std.specs.Prelude.{IfSome}
use Rattle.pool_index.specs.declared.use_link.UseLink.{UseLink}
use Rattle.pool_index.specs.Links.{LinksState, links_with}
use Rattle.pool_index.specs.SortedLinks.{digest_key, HasNoKey}
use Rattle.pool_index.specs.Uses.{key_of, SameUses, StaysListed, IsListed}
use Rattle.pool_index.proofs.LinkValues.{none_value}
use Rattle.pool_index.proofs.UseKeys.{push_same, push_kept, push_listed}
use Rattle.pool_index.proofs.use_counts.UseCounts.list_new.Goals as goal

pub add-requires : goal.add-requires
add-requires c =
    subst (λ (s : LinksState UseLink). IfSome s.ready (λ link. HasNoKey key_of s.links (key_of link))) (sym c.in_ok-prepare.ensures.ok)
    (subst (λ (ls : List UseLink). HasNoKey key_of ls (digest_key c.args.digest.now)) (sym c.self.view_is) c.requires)

pub returns-clause-same : goal.returns-clause-same
returns-clause-same c =
    let link : UseLink = record { digest = c.args.digest.now; uses = 0 } in
    let none = none_value key_of c.self.inside.inner.links (digest_key c.args.digest.now) (subst (λ (ls : List UseLink). HasNoKey key_of ls (digest_key c.args.digest.now)) (sym c.self.view_is) c.requires) in
    let more : c.add.new.self.links ≡ c.self.inside.inner.links ++ link ∷ [] =
    ap (λ (s : LinksState UseLink). s.links) c.add.ensures ∙ ap (λ (s : LinksState UseLink). links_with s.ready s.links) c.in_ok-prepare.ensures.ok in
    subst (λ (ls : List UseLink). SameUses ls c.add.new.self.links) c.self.view_is
    (subst (λ (ls : List UseLink). SameUses c.self.inside.inner.links ls) (sym more) (push_same c.self.inside.inner.links link none refl))

pub returns-clause-kept : goal.returns-clause-kept
returns-clause-kept c =
    let link : UseLink = record { digest = c.args.digest.now; uses = 0 } in
    let none = none_value key_of c.self.inside.inner.links (digest_key c.args.digest.now) (subst (λ (ls : List UseLink). HasNoKey key_of ls (digest_key c.args.digest.now)) (sym c.self.view_is) c.requires) in
    let more : c.add.new.self.links ≡ c.self.inside.inner.links ++ link ∷ [] =
    ap (λ (s : LinksState UseLink). s.links) c.add.ensures ∙ ap (λ (s : LinksState UseLink). links_with s.ready s.links) c.in_ok-prepare.ensures.ok in
    subst (λ (ls : List UseLink). StaysListed ls c.add.new.self.links) c.self.view_is
    (subst (λ (ls : List UseLink). StaysListed c.self.inside.inner.links ls) (sym more) (push_kept c.self.inside.inner.links link none))

pub returns-clause-ok : goal.returns-clause-ok
returns-clause-ok c =
    let link : UseLink = record { digest = c.args.digest.now; uses = 0 } in
    let none = none_value key_of c.self.inside.inner.links (digest_key c.args.digest.now) (subst (λ (ls : List UseLink). HasNoKey key_of ls (digest_key c.args.digest.now)) (sym c.self.view_is) c.requires) in
    let more : c.add.new.self.links ≡ c.self.inside.inner.links ++ link ∷ [] =
    ap (λ (s : LinksState UseLink). s.links) c.add.ensures ∙ ap (λ (s : LinksState UseLink). links_with s.ready s.links) c.in_ok-prepare.ensures.ok in
    subst (λ (ls : List UseLink). IsListed ls c.args.digest.now) (sym more) (push_listed c.self.inside.inner.links link none)
