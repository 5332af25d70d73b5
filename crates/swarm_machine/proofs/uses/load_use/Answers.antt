-- To list a digest leaves the counts.
use Rattle.std.proofs.Common.{ap, ◌∙◌, ℕ, ◌+◌, arith}
use Rattle.swarm_machine.proofs.uses.load_use.Goals as goal

pub add-requires-clause-small : goal.add-requires-clause-small
add-requires-clause-small c = let same = c.list_digest.ensures.same.same_uses c.args.digest.now in let small = c.requires in omega (arith, same, small)

pub returns : goal.returns
returns c =
    let same = c.list_digest.ensures.same.same_uses in
    record {
      own = c.add.ensures.counts.own ∙ ap (λ (n : ℕ). n + 1) (same c.args.digest.now);
      others = λ other apart. c.add.ensures.counts.others other apart ∙ same other;
    }
