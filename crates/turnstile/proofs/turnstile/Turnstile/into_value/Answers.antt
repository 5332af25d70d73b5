use Rattle.std.proofs.Common.{◌∙◌, sym, ap}
use Rattle.turnstile.specs.Numbers.{once_below}
use Rattle.turnstile.proofs.Joining.{closes}
use Rattle.turnstile.proofs.Passes.{some_number}
use Rattle.turnstile.proofs.turnstile.Turnstile.into_value.Goals as goal

pub returns : goal.returns
returns g c =
    let o = c.requires.own in
    let t = o.tallies in
    let a = c.requires.alone in
    let end = closes g.V.Counted.log g.V.Counted.by _ _ _ _ _ _ c.close_with-closed.ensures.values.2 (t.number ∙ a.0) o.no_turn (some_number _ t) (a.1 ∙ sym t.made) _ c.take-value.ensures.value in
    record { log = end.0; fixed = end.3; joined = λ k. end.1 k ∙ ap (once_below k) t.made; by_passes = end.2 }
