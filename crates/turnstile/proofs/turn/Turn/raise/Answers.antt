use Rattle.std.proofs.Common.{rules, refl, sym, ap, ◌∙◌}
use Rattle.turnstile.proofs.Keeps.{raises}
use Rattle.turnstile.proofs.Passes.{serves, own_listed}
use Rattle.turnstile.proofs.turn.Turn.raise.Goals as goal

pub fetch_add-requires : goal.fetch_add-requires
fetch_add-requires g c =
    let o = c.requires.turn in
    let t = o.tallies in
    let r = c.requires.grown in
    (o.table, search rules, rw r.2 (raises _ _ _ _ _ _ _ r.0 r.1 o.has_turn o.no_halves (own_listed _ t) r.3 (r.4 ∙ sym t.number) c.requires.short))

pub returns : goal.returns
returns g c =
    let o = c.requires.turn in
    let t = o.tallies in
    let r = c.requires.grown in
    let e = c.fetch_add.ensures.2 r.0 r.2 in
    record {
      turn = serves g.V.Counted.fixed _ _ _ (c.fetch_add.ensures.0 ∙ o.table) e o.has_ticket o.has_turn o.no_halves o.first o.ticket o.fits
          (record { number = t.number; made = t.made; parts = t.parts; turns = t.turns; listed = t.listed; few = t.few; small = t.small; most = t.most });
      lock = refl;
      raised = λ x holds. let e' = c.fetch_add.ensures.2 x holds in (ap (λ m. m.1) e' ∙ holds, ap (λ m. m.0.seen) e');
      same = ((refl, ap (λ m. m.0.numbers) e, refl), ap (λ m. m.0.told) e, refl);
    }
