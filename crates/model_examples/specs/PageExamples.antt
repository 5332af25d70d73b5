-- Pages of bots.
use Rattle.std.specs.Prelude.{ℕ, List, [], ◌∷◌, map, Option, Some, None, codes}
use Rattle.swarm_model.specs.declared.request.Request.TheVariants as ask
use Rattle.swarm_model.specs.declared.reply.Reply.{Reply}
use Rattle.swarm_model.specs.declared.reply.Reply.TheVariants as reply
use Rattle.swarm_model.specs.Answers.{answer}
use Rattle.model_examples.specs.BotExamples.{script, greets}

-- the names of the bots that a page shows, and its cursor
abbrev pub names_on : Reply → Option (List (List ℕ) × Option (List ℕ))
names_on (reply.Bots items cursor) = Some (map (λ bot. bot.bot_id) items, cursor)
names_on other = None

-- a page of a pool in which bot b2 came first, and then b1
abbrev pub page : ℕ → List ℕ → Option (List (List ℕ) × Option (List ℕ))
page limit after =
    names_on (answer (script ((1000, greets (codes "b2") (codes "s")) ∷ (1000, greets (codes "b1") (codes "s")) ∷ [])).pool (codes "ana") 1001 0 (ask.Bots limit after)).reply
