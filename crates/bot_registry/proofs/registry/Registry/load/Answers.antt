-- The row comes behind the others, with the next number and a name of its own.
use Rattle.std.proofs.Common.{◌≡◌, List, [], ◌∷◌, ◌++◌, length-append, ap, ◌∙◌, arith}
use Rattle.std.proofs.lemmas.List.{map-append}
use Rattle.std.proofs.lemmas.List.Elements.{All-nil}
use Rattle.swarm_model.specs.declared.bot_row.BotRow.{BotRow}
use Rattle.swarm_model.specs.Effects.{no_of_bot}
use Rattle.row_changes.proofs.Numbered.{pushed_numbered}
use Rattle.bot_registry.specs.Names.{name_of}
use Rattle.bot_registry.specs.Demands.{IsCounted}
use Rattle.bot_registry.proofs.registry.Registry.load.Goals as goal

pub invariant_of-self-2 : goal.invariant_of-self-2
invariant_of-self-2 c =
    let rows : List BotRow = c.self.inside.rows.items in
    let row : BotRow = c.args.row in
    let next = rw (← c.self.view_is) at c.requires.next in
    let room = rw (← c.self.view_is) at c.requires.room in
    let items = c.push_reserved.ensures.items ∙ ap (λ (l : List BotRow). l ++ row ∷ []) c.reserve.ensures.items in
    let own : c.replace.new.dest ≡ c.new.result = c.replace.ensures.after in
    record {
      few = rw items (omega (arith, room, length-append rows (row ∷ [])));
      numbered = rw items (pushed_numbered no_of_bot rows row c.self.invariant.numbered next);
      named = rw (items, map-append no_of_bot rows (row ∷ []), map-append name_of rows (row ∷ [])) (rw (c.deref.ensures.value, c.reserve.ensures.items) at c.add.ensures);
      demands = rw own (record { few = c.new.ensures.few; counted = rw c.new.ensures.none (All-nil (IsCounted c.push_reserved.new.self.items)) });
      prepared = rw c.take.ensures.after tt;
    }
