-- All that the program works on.
use Rattle.std.specs.Prelude.{◌≡◌, ℕ, List, Option}
use Rattle.sw_base.specs.Files.{FilesState}
use Rattle.sw_base.specs.Dialers.{DialerState}
use Rattle.sw_base.specs.Link.{LinkState}
use Rattle.sw_base.specs.Listeners.{ListenerState}
use Rattle.runners.specs.Calls.{RunnerState}
use Rattle.swarm_keeper.specs.Stores.{StoreState}
use Rattle.remote_commands.specs.Streams.{Streams, SameButConsole}

-- `waited` are the seconds that the clock waited, where it tells them
pub record Environment : Type 0 where
  pub files : FilesState
  pub store : StoreState
  pub streams : Streams
  pub dialer : DialerState
  pub waited : Option ℕ
  pub runner : RunnerState

-- the environment of these parts
abbrev pub environment : FilesState → StoreState → LinkState → (ℕ → Option (List ℕ)) → ListenerState → DialerState → Option ℕ → RunnerState → Environment
environment files store console clock listener dialer waited runner = record {
  files = files;
  store = store;
  streams = record { console = console; clock = clock; listener = listener };
  dialer = dialer;
  waited = waited;
  runner = runner;
}

-- nothing changed but the console
pub record OnlyConsole (x y : Environment) : Type 0 where
  pub files : y.files ≡ x.files
  pub store : y.store ≡ x.store
  pub streams : SameButConsole x.streams y.streams
  pub dialer : y.dialer ≡ x.dialer
  pub waited : y.waited ≡ x.waited
  pub runner : y.runner ≡ x.runner
