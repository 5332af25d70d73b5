-- What was reserved is what is applied.
use Rattle.std.proofs.Common.{arith, sym, ap, ◌∙◌, ◌<◌, ◌^◌, length, List}
use Rattle.std.specs.Prelude.{vec_len, vec_capacity}
use Rattle.swarm_model.specs.declared.bot_row.BotRow.{BotRow}
use Rattle.row_changes.specs.Bots.{bots_after}
use Rattle.row_changes.proofs.RowEffects.{bots_after-is}
use Rattle.bot_registry.specs.Plain.{RegistryState}
use Rattle.bot_registry.specs.Inside.{kept_of}
use Rattle.bot_registry.proofs.RowEffects.{numbered_stays, rows_few, room_for, follows_in, room_of}
use Rattle.bot_registry.proofs.registry.Registry.apply.Goals as goal

pub change_bots-requires-clause-room : goal.change_bots-requires-clause-room
change_bots-requires-clause-room c =
    let is = sym c.take.ensures.value ∙ c.in-Some.is in
    let follows = rw (← c.self.view_is) at c.requires.follows in
    room_for (kept_of c.self.inside) c.args.entry.now.kind (vec_len c.self.inside.rows) (vec_capacity c.self.inside.rows) follows
    (room_of c.self.inside.ready c.in-Some.parts is c.self.invariant.prepared).row

pub follow-requires-clause-follows : goal.follow-requires-clause-follows
follow-requires-clause-follows c =
    let is = sym c.take.ensures.value ∙ c.in-Some.is in
    let follows = rw (← c.self.view_is) at c.requires.follows in
    rw c.deref.ensures.value (follows_in (kept_of c.self.inside) c.args.entry.now.kind (vec_len c.self.inside.by_name) (vec_capacity c.self.inside.by_name) follows
    (room_of c.self.inside.ready c.in-Some.parts is c.self.invariant.prepared).number)

pub count_changed-requires-clause-few : goal.count_changed-requires-clause-few
count_changed-requires-clause-few c =
    let follows = rw (← c.self.view_is) at c.requires.follows in
    let few = rows_few c.args.entry.now.moment c.args.entry.now.kind (kept_of c.self.inside) follows c.self.invariant.few in
    let most : c.self.inside.most < 2 ^ 32 = omega (arith, c.self.ranges) in
    let small : length (bots_after c.args.entry.now.moment c.args.entry.now.kind c.self.inside.rows.items) < 2 ^ 32 = omega (arith, few, most) in
    rw (c.deref-in-Some-2.ensures.value, c.change_bots.ensures) small

pub count_changed-requires-clause-numbered : goal.count_changed-requires-clause-numbered
count_changed-requires-clause-numbered c =
    let follows = rw (← c.self.view_is) at c.requires.follows in
    let numbered = numbered_stays c.args.entry.now.moment c.args.entry.now.kind (kept_of c.self.inside) follows c.self.invariant.numbered in
    rw (c.deref-in-Some-2.ensures.value, c.change_bots.ensures) numbered

pub count_changed-requires-clause-known : goal.count_changed-requires-clause-known
count_changed-requires-clause-known c =
    rw (c.deref-in-Some-2.ensures.value, c.change_bots.ensures, ← c.deref-in-Some.ensures.value) (c.remove_changing-included.ensures c.args.entry.now.moment)

pub invariant_of-self : goal.invariant_of-self
invariant_of-self c =
    let follows = rw (← c.self.view_is) at c.requires.follows in
    let numbered = numbered_stays c.args.entry.now.moment c.args.entry.now.kind (kept_of c.self.inside) follows c.self.invariant.numbered in
    record {
      few = rw c.change_bots.ensures (rows_few c.args.entry.now.moment c.args.entry.now.kind (kept_of c.self.inside) follows c.self.invariant.few);
      numbered = rw c.change_bots.ensures numbered;
      named = rw (c.change_bots.ensures, ← c.deref.ensures.value) (c.follow.ensures c.args.entry.now.moment);
      demands = rw c.deref-in-Some-2.ensures.value at c.count_changed.ensures;
      prepared = rw c.take.ensures.after tt;
    }

pub returns-clause-rows : goal.returns-clause-rows
returns-clause-rows c = λ s of.
    let rows = of ∙ sym (ap (λ (k : RegistryState). k.rows) c.self.view_is) in
    c.change_bots.ensures ∙ ap (λ (bots : List BotRow). bots_after c.args.entry.now.moment c.args.entry.now.kind bots) (sym rows)
    ∙ bots_after-is s c.args.entry.now.moment c.args.entry.now.pass c.args.entry.now.kind
