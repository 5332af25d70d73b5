use Rattle.std.proofs.Common.{rules, map, ◌∷◌, [], ◌+◌, length, refl, sym, ap, ◌∙◌, subst, arith}
use mathlib.Core.List.{IsPrefix}
use Rattle.turnstile.specs.Numbers.{own}
use Rattle.turnstile.specs.Steps.{with_turn, Finds}
use Rattle.turnstile.proofs.Keeps.{draws}
use Rattle.turnstile.proofs.Logs.{continues, empty_list}
use Rattle.turnstile.proofs.Passes.{serves, some_number}
use Rattle.turnstile.proofs.turnstile.Turnstile.enter.Goals as goal

pub fetch_add-ticket-requires : goal.fetch_add-ticket-requires
fetch_add-ticket-requires g c =
    let o = c.requires.own in
    let few = o.tallies.turns in
    (o.table, search rules, rw (empty_list _ o.holds_none) (draws _ _ _ _ _ _ _ o.no_ticket o.no_turn (some_number _ o.tallies) (omega (arith, c.requires.turns, few))))

pub returns : goal.returns
returns g c =
    let o = c.requires.own in
    let t = o.tallies in
    let e = c.fetch_add-ticket.ensures.2.0 in
    let found = c.await_turn.ensures.turn in
    let x = found.0 in
    let same = ap (λ m. m.0) e in
    let finds = subst (λ v. Finds g.V.Counted.by v (g.V.Counted.log x)) same found.2 in
    let here = found.1 ∙ ap (λ v. (with_turn (g.V.Counted.log x) v, (0, x) ∷ [])) same in
    let log = ap (λ m. m.0.seen) here in
    record {
      turn = serves g.V.Counted.fixed _ _ _ (c.await_turn.ensures.own ∙ (c.fetch_add-ticket.ensures.0 ∙ o.table)) here refl refl o.no_halves o.first refl c.fetch_add-ticket.ensures.2.1
          (record { number = t.number; made = t.made; parts = t.parts; turns = ap (λ n. n + 1) t.turns; listed = t.listed; few = t.few; small = t.small; most = omega (arith, c.requires.turns) });
      lock = refl;
      value = (x, ap (λ m. m.1) here, sym log, found.3 _ (ap (λ v. map g.V.Counted.fixed v.first) same ∙ o.first));
      found = continues _ _ _ _ (subst (IsPrefix _) (sym log) finds.begins) (ap (own g.V.Counted.by _) log ∙ finds.owns _ t.listed);
      joined = λ k listed. ap (own g.V.Counted.by k) log ∙ finds.owns k listed;
      fresh = omega (arith, finds.told, ap length log);
      short = omega (arith, finds.short, ap length log);
      same = ((refl, ap (λ m. m.0.numbers) here, refl), ap (λ m. m.0.told) here, refl);
    }
