use Rattle.bot_worlds.proofs.Standing.{two_ends_hold}
use Rattle.bot_worlds.proofs.laws.two_ends_agree.Goals as goal

pub returns : goal.returns
returns c = two_ends_hold
