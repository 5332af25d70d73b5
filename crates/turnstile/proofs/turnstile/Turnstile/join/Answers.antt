use Rattle.std.proofs.Common.{rules, ◌≤◌, refl, sym, ap, ◌∙◌, subst}
use mathlib.Core.List.{IsPrefix}
use Rattle.turnstile.specs.Numbers.{times, own}
use Rattle.turnstile.specs.Steps.{without_halves, IsSettled}
use Rattle.turnstile.proofs.Keeps.{settles}
use Rattle.turnstile.proofs.Logs.{either_is, empty_list}
use Rattle.turnstile.proofs.Joining.{joins}
use Rattle.turnstile.proofs.Passes.{with_none, rests, joined_fits}
use Rattle.turnstile.proofs.turnstile.Turnstile.join.Goals as goal

pub join_seat-requires : goal.join_seat-requires
join_seat-requires g c =
    let o = c.requires.own.0 in
    let w = c.requires.own.1 in
    (o.table, w.table, empty_list _ w.holds_none, search rules, joins _ _ _ _ _ _ _ _ o.no_ticket o.no_turn w.no_ticket w.no_turn)

pub load-requires : goal.load-requires
load-requires g c =
    let o = c.requires.own.0 in
    (c.join_seat.ensures.0 ∙ o.table, search rules, rw (with_none _ _ _ c.join_seat.ensures.2 o.holds_none) (settles _ _ _ _ _ _ _))

pub returns : goal.returns
returns g c =
    let o = c.requires.own.0 in
    let w = c.requires.own.1 in
    let e = with_none _ _ _ c.join_seat.ensures.2 o.holds_none in
    let told = subst (λ m. IsSettled g.V.Counted.by m.0) e c.load.ensures.2.1 in
    let here = c.load.ensures.2.0 ∙ ap (λ m. (without_halves m.0, m.1)) e in
    let log = ap (λ m. m.0.seen) here in
    let list = ap (λ m. m.0.numbers) here in
    let one = told.halves.0 in
    let two = told.halves.1.0 in
    record {
      own = rests g.V.Counted.fixed _ _ _ (c.load.ensures.0 ∙ (c.join_seat.ensures.0 ∙ o.table)) here refl refl refl o.first (joined_fits _ _ _ _ o.tallies w.tallies told c.min.ensures c.made_with-made.ensures refl refl);
      numbers = (c.min.ensures, list);
      once = λ k. subst (λ ks. times k ks ≤ 1) (sym list) (told.once k);
      made = c.made_with-made.ensures;
      turns = refl;
      told = ap (λ m. m.0.told) here;
      begins = (subst (IsPrefix _) (sym log) one.0, subst (IsPrefix _) (sym log) two.0);
      longer = either_is _ _ _ log;
      own_one = λ k listed. ap (own g.V.Counted.by k) log ∙ one.1 k listed;
      own_two = λ k listed. ap (own g.V.Counted.by k) log ∙ two.1 k listed;
    }
