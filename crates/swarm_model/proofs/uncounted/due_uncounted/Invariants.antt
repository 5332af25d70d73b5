-- The steps have this name and these parts.
use Rattle.swarm_model.proofs.uncounted.due_uncounted.Given as goal

abbrev pub ghosts-due_by : goal.ghosts-due_by
ghosts-due_by g a = record { name = a.blank.name; parts = a.blank.parts }
