use Rattle.std.proofs.Common.{ℕ, ◌-◌, List, subst}
use Rattle.pool_index.specs.declared.use_link.UseLink.{UseLink}
use Rattle.pool_index.specs.Uses.{uses_of, HasUses, StaysListed}
use Rattle.pool_index.proofs.UseKeys.{set_uses, set_kept}
use Rattle.pool_index.proofs.use_counts.UseCounts.remove.Goals as goal

pub returns-clause-counts : goal.returns-clause-counts
returns-clause-counts c =
    let digest = c.args.digest.now in
    let link : UseLink = record { digest = digest; uses = c.count-uses.result - 1 } in
    subst (λ (ls : List UseLink). HasUses digest (uses_of c.args.self.now digest - 1) ls c.replace.new.self.links) c.self.view_is
    (subst (λ (n : ℕ). HasUses digest (n - 1) c.self.inside.inner.links c.replace.new.self.links) c.count-uses.ensures
    (set_uses digest link c.self.inside.inner.links c.replace.new.self.links c.replace.ensures.links))

pub returns-clause-kept : goal.returns-clause-kept
returns-clause-kept c =
    let digest = c.args.digest.now in
    let link : UseLink = record { digest = digest; uses = c.count-uses.result - 1 } in
    subst (λ (ls : List UseLink). StaysListed ls c.replace.new.self.links) c.self.view_is (set_kept digest link c.self.inside.inner.links c.replace.new.self.links c.replace.ensures.links)
