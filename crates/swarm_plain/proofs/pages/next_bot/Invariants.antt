use Rattle.std.proofs.Common.{◌≡◌, take, None}
use Rattle.std.specs.List.{fold, filter}
use Rattle.std.specs.Option.{option_copied}
use Rattle.swarm_model.specs.Pages.{is_named_before, is_after}
use Rattle.swarm_plain.specs.Lowest.{lower}
use Rattle.swarm_plain.proofs.pages.next_bot.Given as goal

abbrev pub invariant-loop-bot : goal.invariant-loop-bot
invariant-loop-bot l = option_copied l.lowest ≡ fold (lower is_named_before) None (filter (is_after l.name) (take l.bot-index l.bots))
