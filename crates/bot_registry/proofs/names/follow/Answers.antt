-- A new bot adds its number; any other entry leaves the numbers and the names.
use Rattle.std.proofs.Common.{sym, ◌∙◌, vec_len, vec_capacity}
use Rattle.swarm_model.specs.Effects.{session_row}
use Rattle.bot_registry.specs.Acting.{row_of}
use Rattle.row_changes.specs.Bots.{bots_after}
use Rattle.row_changes.proofs.Lent.{lent_none, lent_some}
use Rattle.bot_registry.proofs.RowEffects.{known_stays, other_stays, other_kind, still_named, new_named, next_bot}
use Rattle.bot_registry.proofs.names.follow.Goals as goal

pub add-requires-clause-next : goal.add-requires-clause-next
add-requires-clause-next c =
    let none = sym c.row_of.ensures ∙ lent_none c.row_of.result c.if-is_none.ensures in
    let new = next_bot c.args.rows.now (vec_len c.args.numbers.now) (vec_capacity c.args.numbers.now) c.in-Handshake.b c.in-Handshake.id (row_of c.args.rows.now c.in-Handshake.b) none (rw c.in-Handshake.is at c.requires.follows) in
    new.next

pub add-requires-clause-room : goal.add-requires-clause-room
add-requires-clause-room c =
    let none = sym c.row_of.ensures ∙ lent_none c.row_of.result c.if-is_none.ensures in
    let new = next_bot c.args.rows.now (vec_len c.args.numbers.now) (vec_capacity c.args.numbers.now) c.in-Handshake.b c.in-Handshake.id (row_of c.args.rows.now c.in-Handshake.b) none (rw c.in-Handshake.is at c.requires.follows) in
    new.room

pub returns-then-is_none : goal.returns-then-is_none
returns-then-is_none c = λ moment.
    let row = session_row moment c.in-Handshake.b c.in-Handshake.id c.in-Handshake.session c.in-Handshake.dims c.in-Handshake.q in
    rw c.in-Handshake.is (new_named row c.args.rows.now c.add.new.numbers.items (sym c.row_of.ensures ∙ lent_none c.row_of.result c.if-is_none.ensures) c.add.ensures)

pub returns-else-is_none : goal.returns-else-is_none
returns-else-is_none c = λ moment.
    let row = session_row moment c.in-Handshake.b c.in-Handshake.id c.in-Handshake.session c.in-Handshake.dims c.in-Handshake.q in
    let known = lent_some _ _ c.row_of.result (row_of c.args.rows.now c.in-Handshake.b) c.row_of.ensures c.if-is_none.ensures (rw c.in-Handshake.is at c.requires.follows) in
    rw c.in-Handshake.is (still_named c.args.rows.now _ c.args.numbers.now.items (known_stays row known.0 c.args.rows.now c.requires.numbered known.1 known.2) c.requires.named)

pub returns-in_default : goal.returns-in_default
returns-in_default c = λ moment.
    still_named c.args.rows.now (bots_after moment c.args.kind.now c.args.rows.now) c.args.numbers.now.items
    (other_stays moment c.args.kind.now (other_kind c.args.kind.now c.in_default.not-Handshake) c.args.rows.now) c.requires.named
