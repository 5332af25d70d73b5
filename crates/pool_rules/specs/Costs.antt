-- Which requests read at most one task row.
use Rattle.std.specs.Prelude.{Bool, true, false}
use Rattle.swarm_model.specs.declared.request.Request.{Request}
use Rattle.swarm_model.specs.declared.request.Request.TheVariants as ask

-- a bot asks what to do, or for a task
abbrev pub asks_for_work : Request → Bool
asks_for_work (ask.Poll bot dims quarantined) = true
asks_for_work (ask.Claim bot claim) = true
asks_for_work request = false
