-- What a command works on beside the files and the store.
use Rattle.std.specs.Prelude.{◌≡◌, ℕ, List, Option}
use Rattle.sw_base.specs.Link.{LinkState}
use Rattle.sw_base.specs.Listeners.{ListenerState}
use Rattle.link_writer.specs.Printing.{Prints}

-- the console, the moments that the clock is about to hand in, and the listener
pub record Streams : Type 0 where
  pub console : LinkState
  pub clock : ℕ → Option (List ℕ)
  pub listener : ListenerState

-- nothing changed but the console
pub record SameButConsole (o u : Streams) : Type 0 where
  pub clock : u.clock ≡ o.clock
  pub listener : u.listener ≡ o.listener

-- a text that takes memory was printed, or there was no memory for it
pub data PrintsMade (text : List ℕ) (good : ℕ) (s t : LinkState) (status : ℕ) : Type 0 where
  printed : Prints text good s t status → PrintsMade text good s t status
  no_memory : status ≡ 5 → t ≡ s → PrintsMade text good s t status
