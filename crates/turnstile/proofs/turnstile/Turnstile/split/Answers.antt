use Rattle.std.proofs.Common.{rules, ◌∷◌, [], ◌+◌, refl, ap, ◌∙◌, arith}
use Rattle.turnstile.proofs.Totals.{listed_one}
use Rattle.turnstile.proofs.Joining.{cuts}
use Rattle.turnstile.proofs.Passes.{with_none, rests, some_number}
use Rattle.turnstile.proofs.turnstile.Turnstile.split.Goals as goal

pub split_seat-new_seat-requires : goal.split_seat-new_seat-requires
split_seat-new_seat-requires g c =
    let o = c.requires.own in
    let made = o.tallies.made in
    (o.table, search rules, cuts _ _ _ _ _ _ (o.tallies.number ∙ c.requires.first) (omega (arith, c.requires.few, made)) o.no_ticket o.no_turn (some_number _ o.tallies))

pub returns : goal.returns
returns g c =
    let o = c.requires.own in
    let t = o.tallies in
    let s = c.split_seat-new_seat.ensures in
    let first = with_none _ _ _ s.2 o.holds_none in
    let second = s.4 in
    record {
      own = (
        rests g.V.Counted.fixed _ _ _ (s.0 ∙ o.table) first o.no_ticket o.no_turn o.no_halves o.first
            (record { number = t.number; made = ap (λ n. n + 1) t.made; parts = t.parts; turns = t.turns; listed = t.listed; few = t.few; small = t.small; most = t.most }),
        rests g.V.Counted.fixed _ _ _ (s.3 ∙ o.table) second o.no_ticket o.no_turn o.no_halves o.first
            (record { number = t.made; made = refl; parts = omega arith; turns = refl; listed = listed_one _ _ t.made; few = omega arith; small = c.requires.few; most = omega arith }),
      );
      kept = (c.requires.first, ap (λ m. m.0.numbers) first, refl, refl);
      given = (refl, ap (λ m. m.0.numbers) second ∙ ap (λ n. n ∷ []) t.made, refl);
      seen = (ap (λ m. m.0.seen) first, ap (λ m. m.0.seen) second);
      told = (ap (λ m. m.0.told) first, ap (λ m. m.0.told) second);
    }
