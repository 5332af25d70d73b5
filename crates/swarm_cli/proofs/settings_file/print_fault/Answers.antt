-- The line has the place and the name of the rule.
use Rattle.swarm_cli.proofs.settings_file.print_fault.Goals as goal

pub returns-in-Broken : goal.returns-in-Broken
returns-in-Broken g c = rw (c.in-Broken.is, ← c.as_str.ensures, ← c.name.ensures) c.print_refusal.ensures
