-- One turn more was played.
use Rattle.std.proofs.Common.{◌≡◌, ◌+◌, List, [], ◌∷◌, ◌++◌, take, ap, sym, ◌∙◌, subst}
use Rattle.std.proofs.lemmas.List.{take_more}
use Rattle.bot_worlds.specs.declared.turn.Turn.{Turn}
use Rattle.bot_worlds.specs.Turns.{Played}
use Rattle.two_ends.proofs.Standings.{played_then}
use Rattle.two_ends.proofs.playing.play.Goals as goal

pub loop-turn-preserved : goal.loop-turn-preserved
loop-turn-preserved g c =
    let turns = c.args.turns.now in
    let i = c.loop-turn.turn-index in
    let turn = c.turn-item.result in
    let more : take (i + 1) turns ≡ take i turns ++ turn ∷ [] = take_more turns i turn c.loop-turn-test.true ∙ ap (λ (t : Turn). take i turns ++ t ∷ []) (sym c.turn-item.is) in
    subst (λ (ts : List Turn). Played c.args.world ts c.turn.new.self) (sym more) (played_then c.args.world c.loop-turn.world c.turn.new.self (take i turns) turn c.loop-turn.invariant c.in_default.ensures.turned)
