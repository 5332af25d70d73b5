use Rattle.std.proofs.Common.{rules, length, refl, ap, ◌∙◌}
use Rattle.atomic_table.specs.Table.{rest}
use Rattle.turnstile.proofs.Keeps.{leaves}
use Rattle.turnstile.proofs.Passes.{with_none, rests}
use Rattle.turnstile.proofs.turn.Turn.leave.Goals as goal

pub store-requires : goal.store-requires
store-requires g c =
    let o = c.requires.turn in
    let r = c.requires.raised in
    (o.table, search rules, rw r.1 (leaves _ _ _ _ _ _ _ _ _ o.has_turn o.ticket r.2 r.3))

pub returns : goal.returns
returns g c =
    let o = c.requires.turn in
    let t = o.tallies in
    let here = with_none _ _ _ c.store.ensures.2 (ap (λ cs. length (rest cs)) c.requires.raised.1) in
    record {
      own = rests g.V.Counted.fixed _ _ _ (c.store.ensures.0 ∙ o.table) here refl refl o.no_halves o.first
          (record { number = t.number; made = t.made; parts = t.parts; turns = t.turns; listed = t.listed; few = t.few; small = t.small; most = t.most });
      seen = ap (λ m. m.0.seen) here;
      same = ((refl, ap (λ m. m.0.numbers) here, refl), ap (λ m. m.0.told) here, refl);
    }
