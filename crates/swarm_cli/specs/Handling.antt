-- The parts of what is done with a door.
use Rattle.std.specs.Prelude.{◌≡◌, ⊤, ℕ, ◌<◌, ◌≤◌, List, string_bytes}
use Rattle.sw_base.specs.Link.{LinkState}
use Rattle.pool_doors.specs.Doors.{DoorState}
use Rattle.command_words.specs.Commands.{BoardRanges, boards_of}
use Rattle.swarm_cli.specs.declared.door_command.DoorCommand.{DoorCommand}
use Rattle.swarm_cli.specs.declared.door_command.DoorCommand.TheVariants as command
use Rattle.swarm_cli.specs.declared.door_command.Service.{Service}
use Rattle.swarm_cli.specs.declared.door_command.Service.TheVariants as service
use Rattle.swarm_cli.specs.declared.serving.DoorResult.{DoorResult}
use Rattle.swarm_cli.specs.declared.serving.DoorResult.TheVariants as used
use Rattle.remote_commands.specs.Streams.{Streams, PrintsMade}
use Rattle.swarm_cli.specs.ServerWork as deeds
use Rattle.swarm_cli.specs.ServerWork.{ServerWork, session, serve, by_one, by_several, with_boards, ServesListener, IsConsoleServed, ServesNothing, work_status}

abbrev pub work_of : DoorCommand → ServerWork
work_of command.Session = session
work_of (command.Serve address connections) = serve (string_bytes address) connections

-- so many connections are served at most
abbrev pub HasRange : DoorCommand → Type 0
HasRange command.Session = ⊤
HasRange (command.Serve address connections) = connections ≤ 1000000

-- by whom it is done
abbrev pub service_of : Service → deeds.Service
service_of (service.ByOne command) = by_one (work_of command)
service_of (service.BySeveral address workers connections) = by_several (string_bytes address) workers connections
service_of (service.WithBoards address workers connections boards) = with_boards (string_bytes address) workers connections (boards_of boards)
service_of service.Checkpoint = deeds.checkpoint

-- more than one worker, and at most 32, serve so many connections each at most; with boards, of which there is one at least, one worker
-- may be all
abbrev pub HasRanges : Service → Type 0
HasRanges (service.ByOne command) = HasRange command
HasRanges (service.BySeveral address workers connections) = (1 < workers) × (workers ≤ 32) × (connections ≤ 1000000)
HasRanges (service.WithBoards address workers connections boards) = (1 ≤ workers) × (workers ≤ 32) × (connections ≤ 1000000) × (1 ≤ boards.count) × BoardRanges (boards_of boards)
HasRanges service.Checkpoint = ⊤

-- what is done before the door is ended
abbrev pub IsUsed : DoorCommand → DoorState → DoorState → Streams → Streams → DoorResult → Type 0
IsUsed command.Session before after o u (used.Ended status) = IsConsoleServed before after o u status
IsUsed command.Session before after o u (used.Worked stop) = ⊥
IsUsed (command.Serve address connections) before after o u (used.Ended status) = ServesNothing before after o u status
IsUsed (command.Serve address connections) before after o u (used.Worked stop) =
    ServesListener (string_bytes address) connections o.listener u.listener o.clock u.clock before after stop × (u.console ≡ o.console)

-- what is printed after the door was ended, and the status
abbrev pub IsFinished : DoorResult → List ℕ → LinkState → LinkState → ℕ → Type 0
IsFinished (used.Ended good) text s t status = (status ≡ good) × (t ≡ s)
IsFinished (used.Worked stop) text s t status = PrintsMade text (work_status stop) s t status
