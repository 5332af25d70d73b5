-- What a refusal adds.
use Rattle.std.specs.Prelude.{◌≡◌, ℕ, List, None}
use Rattle.swarm_model.specs.Types.{PoolState, Request, Rule}
use Rattle.swarm_model.specs.declared.reply.Reply.TheVariants as reply
use Rattle.swarm_model.specs.Answers.{answer}

-- a request that is refused adds no entry
abbrev pub RefusalsAddNothing : Type 0
RefusalsAddNothing =
    (s : PoolState) (who : List ℕ) (moment pass : ℕ) (request : Request) (why : Rule)
    → (answer s who moment pass request).reply ≡ reply.No why → (answer s who moment pass request).entry ≡ None
