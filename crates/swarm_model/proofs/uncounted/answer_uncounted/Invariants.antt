-- The steps have this name and these parts.
use Rattle.swarm_model.proofs.uncounted.answer_uncounted.Given as goal

abbrev pub ghosts-answer_by : goal.ghosts-answer_by
ghosts-answer_by g a = record { name = a.blank.name; parts = a.blank.parts }
