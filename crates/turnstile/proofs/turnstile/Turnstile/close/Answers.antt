use Rattle.std.proofs.Common.{rules}
use Rattle.turnstile.proofs.turnstile.Turnstile.close.Goals as goal

pub into_value-requires : goal.into_value-requires
into_value-requires g c = record { own = c.requires.own; alone = search rules }

pub returns-clause-alone : goal.returns-clause-alone
returns-clause-alone g c = search rules
