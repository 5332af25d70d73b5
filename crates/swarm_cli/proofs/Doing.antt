-- What is done with a door, and what is printed after it.
use Rattle.std.proofs.Common.{◌≡◌, ℕ, ◌+◌, ◌<◌, ◌≤◌, List, Option, Some, None, sym, ap, ◌∙◌, subst, arith}
use mathlib.Core.Path.{fun_ext}
use Rattle.sw_base.specs.Link.{LinkState}
use Rattle.sw_base.specs.Told.{Adds, IsOut}
use Rattle.swarm_cli.specs.Types.{Settings, PoolSettings, LoadFault}
use Rattle.swarm_model.specs.Bases.{Base}
use Rattle.pool_doors.specs.Doors.{Logs, DoorState, Writer}
use Rattle.swarm_http.specs.Answered.{KeepsDoor}
use Rattle.swarm_history.specs.declared.load_fault.LoadFault.TheVariants as load
use Rattle.pool_summaries.specs.Summaries.{summary_of}
use Rattle.swarm_cli.specs.declared.door_command.DoorCommand.{DoorCommand}
use Rattle.swarm_cli.specs.declared.door_command.DoorCommand.TheVariants as command
use Rattle.swarm_cli.specs.declared.serving.DoorResult.{DoorResult}
use Rattle.swarm_cli.specs.declared.serving.DoorResult.TheVariants as used
use Rattle.remote_commands.specs.Streams.{Streams, PrintsMade}
use Rattle.swarm_cli.specs.ServerWork.{CarriesOutWork, IsConsoleServed, ServesNothing, served, not_served, work_status}
use Rattle.swarm_cli.specs.Handling.{IsUsed, IsFinished, work_of}
use Rattle.swarm_cli.specs.KeptRecords.{TellsFault}
use Rattle.swarm_cli.specs.SettingsFile.{RunsNew, no_memory}

-- the console as it is now
abbrev pub with_console : Streams → LinkState → Streams
with_console o t = record { console = t; clock = o.clock; listener = o.listener }

pub same_console : (o : Streams) (t : LinkState) → t ≡ o.console → with_console o t ≡ o
same_console o t same = ap (with_console o) same

-- one is out where one was given more
pub is_out : (before after : Option ℕ) → Adds before after 1 → IsOut after
is_out None after adds = subst IsOut (sym adds) tt
is_out (Some n) after adds = subst IsOut (sym adds) (let more : 0 < n + 1 = omega arith in more)

pub keeps_within : {m n : ℕ} {d e : DoorState} → KeepsDoor m d e → m ≤ n → KeepsDoor n d e
keeps_within k within = record { settings = k.settings; writer = k.writer; kept = k.kept; no_other_blobs = k.no_other_blobs; faults = k.faults; calls = omega (arith, k.calls, within) }

-- after the door was used, the rest is printed
pub does_all : (what : DoorCommand) (before after : DoorState) (o m : Streams) (t : LinkState) (result : DoorResult) (status : ℕ) (text : List ℕ)
    → IsUsed what before after o m result → IsFinished result text m.console t status → text ≡ summary_of before.settings.pools before.writer.starts after.seen
    → CarriesOutWork (work_of what) before after o (with_console m t) status
does_all command.Session before after o m t (used.Ended good) status text x y is =
    subst (λ (u : Streams). IsConsoleServed before after o u status) (sym (same_console m t y.1)) (subst (λ (n : ℕ). IsConsoleServed before after o m n) (sym y.0) x)
does_all command.Session before after o m t (used.Worked stop) status text x y is = absurd x
does_all (command.Serve address connections) before after o m t (used.Ended good) status text x y is =
    not_served (subst (λ (u : Streams). ServesNothing before after o u status) (sym (same_console m t y.1)) (subst (λ (n : ℕ). ServesNothing before after o m n) (sym y.0) x))
does_all (command.Serve address connections) before after o m t (used.Worked stop) status text x y is = served (record {
  stopped = stop;
  serves = x.0;
  summary = subst (λ (s : LinkState). PrintsMade (summary_of before.settings.pools before.writer.starts after.seen) (work_status stop) s t status) x.1
      (subst (λ (l : List ℕ). PrintsMade l (work_status stop) m.console t status) is y);
})

-- the same is told of logs that are the same, from where these begin
pub told_alike : (told : List PoolSettings → (ℕ → Base) → Logs → List ℕ) (pools : List PoolSettings) (starts others : ℕ → Base) (logs mores : Logs)
    → ((p : ℕ) → starts p ≡ others p) → ((p : ℕ) → logs p ≡ mores p) → told pools starts logs ≡ told pools others mores
told_alike told pools starts others logs mores first same =
    ap (λ (b : ℕ → Base). told pools b logs) (fun_ext first) ∙ ap (λ (l : Logs). told pools others l) (fun_ext same)

-- what is told of machines is told of the logs that a door has seen
pub told_of_door : (told : List PoolSettings → (ℕ → Base) → Logs → List ℕ) (settings : Settings) (before after : DoorState) (pools : List PoolSettings) (starts : ℕ → Base) (logs : Logs) → pools ≡ settings.pools → before.settings ≡ settings
    → ((p : ℕ) → starts p ≡ before.writer.starts p) → ((p : ℕ) → logs p ≡ after.seen p)
    → told pools starts logs ≡ told before.settings.pools before.writer.starts after.seen
told_of_door told settings before after pools starts logs pools_are settings_are first same =
    ap (λ (l : List PoolSettings). told l starts logs) (pools_are ∙ ap (λ (s : Settings). s.pools) (sym settings_are))
    ∙ told_alike told before.settings.pools starts before.writer.starts logs after.seen first same

-- a door of which the writer stays begins where it began
pub begins_there : {m : ℕ} {d e : DoorState} (starts : ℕ → Base) → KeepsDoor m d e → ((p : ℕ) → starts p ≡ e.writer.starts p) → (p : ℕ) → starts p ≡ d.writer.starts p
begins_there starts keeps first p = first p ∙ ap (λ (w : Writer). w.starts p) keeps.writer

-- no door was made over keepers that keep nothing
pub none_made : (what : DoorCommand) (settings : Settings) (o : Streams) (t : LinkState) (status : ℕ) (fault : LoadFault) → TellsFault fault o.console t status → fault ≡ load.Memory
    → RunsNew (work_of what) settings o (with_console o t) status
none_made what settings o t status fault told is =
    let k = subst (λ (f : LoadFault). TellsFault f o.console t status) is told in no_memory k.0 (same_console o t k.1)
