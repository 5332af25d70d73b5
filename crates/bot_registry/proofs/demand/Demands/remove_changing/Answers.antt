-- The bot whose row changes is left out, or keeps its dimensions.
use Rattle.std.proofs.Common.{◌≡◌, sym, ◌∙◌, arith, length}
use Rattle.std.proofs.lemmas.List.{with_items_is}
use Rattle.bot_registry.proofs.Recounting.{all_counted_but}
use Rattle.bot_registry.proofs.demand.Demands.remove_changing.Goals as goal

pub returns-in-Some : goal.returns-in-Some
returns-in-Some c = λ moment.
    let size : length c.remove_one.new.demands ≡ c.args.self.now.sets.len = omega arith in
    record {
      few = record { sets = c.requires.known.few.sets; next = c.requires.known.few.next };
      counted = rw (with_items_is c.args.self.now.sets c.remove_one.new.demands size) (all_counted_but moment c.args.kind.now c.in-Some.number c.args.rows.now (sym c.bot_of_entry.ensures ∙ c.in-Some.is) c.requires.numbered c.remove_one.result
          c.remove_one.ensures.kept c.remove_one.new.demands c.remove_one.ensures.counted);
    }
