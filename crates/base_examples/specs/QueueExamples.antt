-- Tasks that wait for a bot with Linux.
use Rattle.std.specs.Prelude.{ℕ, List, [], ◌∷◌, Option, codes}
use Rattle.dim_queue.specs.declared.waiting.Waiting.{Waiting}
use Rattle.dim_queue.specs.Taking.{Taker, taker, set_with}
use Rattle.dim_queue.specs.Plain.{QueueState}

-- of this priority and number
abbrev pub waiting : ℕ → ℕ → Waiting
waiting priority number = record { priority = priority; number = number }

-- a queue that is kept from the bot of a number, or from none
abbrev pub on_linux : Option ℕ → List Waiting → QueueState
on_linux but tasks = record { set = set_with ((codes "os", codes "Linux") ∷ []) but; tasks = tasks }

-- bots 1 and 2
abbrev pub linux_bot : Taker
linux_bot = taker 1 ((codes "os", codes "Linux" ∷ []) ∷ [])

abbrev pub mac_bot : Taker
mac_bot = taker 2 ((codes "os", codes "Mac" ∷ []) ∷ [])
