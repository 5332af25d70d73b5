-- The steps have this name and these parts.
use Rattle.swarm_model.proofs.uncounted.task_uncounted.Given as goal

abbrev pub ghosts-task_by : goal.ghosts-task_by
ghosts-task_by g a = record { name = a.blank.name; parts = a.blank.parts }
