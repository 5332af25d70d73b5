-- A text that is refused, and a place of the settings.
use Rattle.std.proofs.Common.{◌≡◌, ◌≢◌, ℕ, List, Err, inl, inr, subst}
use Rattle.swarm_keeper.specs.Stores.{StoreState}
use Rattle.swarm_policy.specs.declared.settings_fault.SettingsFault.{SettingsFault}
use Rattle.swarm_policy.specs.declared.settings_fault.SettingsFault.TheVariants as fault
use Rattle.swarm_policy.specs.Documents.{settings_of}
use Rattle.client_commands.specs.Commands.{settings_line}
use Rattle.remote_commands.specs.Streams.{Streams}
use Rattle.swarm_cli.specs.ServerWork.{Service}
use Rattle.swarm_cli.specs.SettingsFile.{PrintsFault, Refuses, RunsText}

pub text_refused : (service : Service) (why : SettingsFault) (text : List ℕ) (p q : StoreState) (o u : Streams) (status : ℕ) → (why ≢ fault.Memory → settings_of text ≡ Err why)
    → PrintsFault why p q o u status → RunsText service text p q o u status
text_refused service fault.Memory text p q o u status reads printed = inr printed
text_refused service (fault.Broken place rule) text p q o u status reads printed = let same = reads (λ e. cc) in inl (rw same printed)

-- the line for a place that is written so
pub refused_at : (place path rule : List ℕ) (p q : StoreState) (o u : Streams) (status : ℕ) → path ≡ place → Refuses (settings_line path rule) p q o u status
    → Refuses (settings_line place rule) p q o u status
refused_at place path rule p q o u status is refuses = subst (λ (l : List ℕ). Refuses (settings_line l rule) p q o u status) is refuses
