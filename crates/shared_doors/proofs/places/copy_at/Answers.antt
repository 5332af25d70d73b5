-- The pass at the place is of the turnstile there, before and after.
use Rattle.std.proofs.Common.{◌≡◌, ◌<◌, ◌^◌, IfOk, None, take, drop, sym, subst}
use Rattle.swarm_model.specs.Bases.{Base}
use Rattle.shared_doors.specs.declared.view.PoolView.{PoolView}
use Rattle.shared_doors.specs.Machines.{lasting_in}
use Rattle.shared_doors.specs.Turns.{TakesTurn}
use Rattle.shared_doors.specs.Views.{look}
use Rattle.shared_doors.proofs.ByPlace.{one_of, own_stays, seen_at}
use Rattle.shared_doors.proofs.SharedCalls.{standing_at, start_at}
use Rattle.shared_doors.proofs.TurnsTaken.{turn_at, view_now}
use Rattle.shared_doors.proofs.places.copy_at.Goals as goal

pub copy_turn-pass-requires : goal.copy_turn-pass-requires
copy_turn-pass-requires g c =
    let ts = c.args.server.now.turnstiles.items in
    let items = c.args.passes.now.passes.items in
    let t = c.index-turnstile.result.now in
    let at = c.index-turnstile.ensures in
    let own = c.requires.own in
    let low = c.requires.place in
    let is = c.take_at-pass.ensures.pass in
    record {
      own = one_of (lasting_in g.M.Machine.kept) ts items c.args.place c.take_at-pass.result own low is t at;
      turns = subst (λ (v : PoolView). v.turns < 2 ^ 40) (seen_at (lasting_in g.M.Machine.kept) ts items c.args.place c.take_at-pass.result own low is) c.requires.turns;
      standing = standing_at (lasting_in g.M.Machine.kept) ts items c.args.place t own low at c.args.server.now.standing;
      sure = c.args.server.now.sure;
    }

pub returns-clause-own : goal.returns-clause-own
returns-clause-own g c =
    rw c.take_at-pass.ensures.taken
    (own_stays (lasting_in g.M.Machine.kept) c.args.server.now.turnstiles.items c.args.passes.now.passes.items c.args.place None c.copy_turn-pass.result.0
    c.index-turnstile.result.now c.requires.own c.requires.place c.index-turnstile.ensures c.copy_turn-pass.ensures.own)

pub returns-clause-copied : goal.returns-clause-copied
returns-clause-copied g c =
    rw c.take_at-pass.ensures.taken
    (subst (λ (v : PoolView). IfOk c.copy_turn-pass.result.1 (λ entries. entries.items ≡ take c.args.most (drop c.args.from v.seen)))
    (view_now (lasting_in g.M.Machine.kept) c.args.server.now.turnstiles.items c.args.passes.now.passes.items c.args.place c.requires.own c.requires.place
    c.take_at-pass.result c.copy_turn-pass.result.0 c.take_at-pass.ensures.pass)
    c.copy_turn-pass.ensures.copied)

pub returns-clause-turn : goal.returns-clause-turn
returns-clause-turn g c =
    let ts = c.args.server.now.turnstiles.items in
    let items = c.args.passes.now.passes.items in
    let start = start_at (lasting_in g.M.Machine.kept) ts items c.args.place c.index-turnstile.result.now c.requires.own c.requires.place c.index-turnstile.ensures in
    rw c.take_at-pass.ensures.taken
    (turn_at (lasting_in g.M.Machine.kept) ts items c.args.place c.requires.own c.requires.place c.take_at-pass.result c.copy_turn-pass.result.0 c.take_at-pass.ensures.pass _
    (subst (λ (b : Base). TakesTurn b.rows (look c.take_at-pass.result) (look c.copy_turn-pass.result.0)) (sym start) c.copy_turn-pass.ensures.turn))
