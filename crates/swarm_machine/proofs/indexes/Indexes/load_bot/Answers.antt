-- The deadline of the bot is all that it says.
use Rattle.std.proofs.Common.{Option, subst}
use Rattle.swarm_model.specs.declared.deadline.Deadline.{Deadline}
use Rattle.swarm_machine.specs.Loading.{IsEndSet}
use Rattle.swarm_machine.proofs.Loading.{on_ok, bot_heard, bot_gained}
use Rattle.swarm_machine.proofs.indexes.Indexes.load_bot.Goals as goal

pub bot_end-requires : goal.bot_end-requires
bot_end-requires c = bot_heard c.args.base.now c.requires.may c.args.place c.requires.low c.index-as_slice-place.result (rw c.as_slice.ensures at c.index-as_slice-place.is)

pub returns : goal.returns
returns c =
    let row = c.index-as_slice-place.result in
    let old = c.args.self.now in
    on_ok c.load_end.result c.load_end.ensures (λ put.
    bot_gained c.args.base.now c.requires.may c.args.place c.requires.low row (rw c.as_slice.ensures at c.index-as_slice-place.is) old c.load_end.new.ends c.requires.before
    (subst (λ (end : Option Deadline). IsEndSet row.no end old.bot_ends c.load_end.new.ends) c.bot_end.ensures put))
