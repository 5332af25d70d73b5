use Rattle.std.proofs.Common.{rules, refl, ap, ◌∙◌}
use Rattle.turnstile.proofs.Keeps.{fronts}
use Rattle.turnstile.proofs.Logs.{empty_list}
use Rattle.turnstile.proofs.Passes.{with_none, rests}
use Rattle.turnstile.proofs.turnstile.Turnstile.front.Goals as goal

pub load-requires : goal.load-requires
load-requires g c = (c.requires.own.table, search rules, rw (empty_list _ c.requires.own.holds_none) (fronts _ _ _ _ _ _ _))

pub returns : goal.returns
returns g c =
    let o = c.requires.own in
    let t = o.tallies in
    let e = with_none _ _ _ c.load.ensures.2.0 o.holds_none in
    record {
      own = rests g.V.Counted.fixed _ _ _ (c.load.ensures.0 ∙ o.table) e o.no_ticket o.no_turn o.no_halves o.first
          (record { number = t.number; made = t.made; parts = t.parts; turns = t.turns; listed = t.listed; few = t.few; small = t.small; most = t.most });
      front = (c.load.ensures.2.2, c.load.ensures.2.1, c.load.ensures.2.3);
      told = ap (λ m. m.0.told) e;
      same = ((refl, ap (λ m. m.0.numbers) e, refl), ap (λ m. m.0.seen) e, refl);
    }
