-- Prepare: the inputs of the run are fetched in order, and then the runner lays them out with the caches.
use Rattle.std.specs.Prelude.{◌≡◌, ℕ, List, [], ◌∷◌, ◌++◌, Option, Some, None, is_some, Result, Ok, Err, if◌then◌else◌}
use Rattle.std.specs.Map.{lookup, remove_entry}
use Rattle.std.specs.Str.{bytes_eq}
use Rattle.bot_turns.specs.Types.{RefusalCode, Cache, File, Properties, StartFault, Exchanged, BotEvent, Hands}
use Rattle.sw_base.specs.declared.start_fault.StartFault.TheVariants as start
use Rattle.sw_base.specs.Dialers.{DialerState}
use Rattle.swarm_model.specs.declared.reply.Reply.TheVariants as reply
use Rattle.routes.specs.declared.route.Route.TheVariants as route
use Rattle.server_calls.specs.declared.told.Told.TheVariants as told
use Rattle.server_calls.specs.declared.exchanged.Exchanged.TheVariants as exchanged
use Rattle.runners.specs.declared.cache.PreparedCache.{PreparedCache}
use Rattle.runners.specs.declared.call.RunnerCall.TheVariants as call
use Rattle.runners.specs.Calls.{RunnerState, Performs}
use Rattle.bot_core.specs.declared.bot_event.BotEvent.TheVariants as event
use Rattle.bot_core.specs.Table.{is_transient}
use Rattle.bot_requests.specs.Requests.{get_blob_text}
use Rattle.bot_turns.specs.Events.{refusal_event}
use Rattle.bot_turns.specs.ServerTurns.{AsksServer, OfRun}

-- ---- one input

-- a refusal after which the request may be sent again is told; after any other the run can't be prepared
abbrev pub fetch_refusal : RefusalCode → BotEvent
fetch_refusal code = if is_transient (refusal_event code) then refusal_event code else event.RunnerFailed

-- the event of an input that isn't fetched; None: there was no memory
abbrev pub unfetched_event : Exchanged → Option BotEvent
unfetched_event (exchanged.Told (told.Good place r bytes)) = Some event.RunnerFailed
unfetched_event (exchanged.Told (told.No code body)) = Some (fetch_refusal code)
unfetched_event exchanged.NoReply = Some event.Lost
unfetched_event exchanged.Lost = Some event.Lost
unfetched_event exchanged.Memory = None

-- a blob of the file's digest and size came, with these bytes
abbrev pub IsBlobOf : File → List ℕ → Exchanged → Type 0
IsBlobOf file bytes x = (place : ℕ) × (x ≡ exchanged.Told (told.Good place (reply.Blob file.digest file.size) bytes))

-- the bytes of a file where its blob came, and else the event
abbrev pub BytesOrEvent : File → Exchanged → Result (List ℕ) BotEvent → Type 0
BytesOrEvent file x (Ok bytes) = IsBlobOf file bytes x
BytesOrEvent file x (Err e) = (unfetched_event x ≡ Some e) × ((bytes : List ℕ) → ¬ (IsBlobOf file bytes x))

-- a file was asked for
pub record FetchesFile (h : Hands) (file : File) (result : Result (List ℕ) BotEvent) (before after : DialerState) : Type 0 where
  pub exchanged : Exchanged
  pub exchange : AsksServer h (get_blob_text h file.digest) route.GetBlob exchanged before after
  pub comes_to : BytesOrEvent file exchanged result

-- ---- all inputs

-- a file was fetched, and then the others
pub record FetchesFirst (h : Hands) (file : File) (fetches_rest : List (List ℕ × List ℕ) → DialerState → Type 0) (inputs : List (List ℕ × List ℕ)) (before : DialerState) : Type 0 where
  pub bytes : List ℕ
  pub others : List (List ℕ × List ℕ)
  pub mid : DialerState
  pub fetches : FetchesFile h file (Ok bytes) before mid
  pub rest : fetches_rest others mid
  pub is : inputs ≡ (file.path, bytes) ∷ others

-- the files were fetched in order; the inputs are their paths with their bytes
abbrev pub FetchesAll : Hands → List File → List (List ℕ × List ℕ) → DialerState → DialerState → Type 0
FetchesAll h [] inputs before after = (inputs ≡ []) × (after ≡ before)
FetchesAll h (file ∷ files) inputs before after =
    FetchesFirst h file (λ others mid. FetchesAll h files others mid after) inputs before

-- the files in front of one were fetched, and that one was not; none behind it was asked for
pub record FetchEnds (h : Hands) (files : List File) (e : BotEvent) (before after : DialerState) : Type 0 where
  pub done : List File
  pub file : File
  pub left : List File
  pub inputs : List (List ℕ × List ℕ)
  pub mid : DialerState
  pub parts : files ≡ done ++ file ∷ left
  pub fetched : FetchesAll h done inputs before mid
  pub fails : FetchesFile h file (Err e) mid after

-- the inputs of the run, or the event of the first that wasn't fetched
abbrev pub FetchesInputs : Hands → Properties → Result (List (List ℕ × List ℕ)) BotEvent → DialerState → DialerState → Type 0
FetchesInputs h p (Ok inputs) before after = FetchesAll h p.inputs inputs before after
FetchesInputs h p (Err e) before after = FetchEnds h p.inputs e before after

-- ---- caches

-- the caches of a run as the runner gets them, each with whether the table has it
abbrev pub prepared_caches : List Cache → List (List ℕ × ℕ) → List PreparedCache
prepared_caches [] table = []
prepared_caches (c ∷ cs) table =
    record { name = c.name; path = c.path; is_kept = is_some (lookup (bytes_eq c.name) table) }
    ∷ prepared_caches cs (remove_entry (bytes_eq c.name) table)

-- the table without those caches
abbrev pub without_caches : List Cache → List (List ℕ × ℕ) → List (List ℕ × ℕ)
without_caches [] table = table
without_caches (c ∷ cs) table = without_caches cs (remove_entry (bytes_eq c.name) table)

abbrev pub with_entries : List (List ℕ × ℕ) → Hands → Hands
with_entries entries h = record h { caches = record h.caches { entries = entries } }

-- ---- the turn

-- None: there was no memory
abbrev pub prepare_event : Result (Unit {0}) StartFault → Option BotEvent
prepare_event (Ok done) = Some event.Prepared
prepare_event (Err start.Failed) = Some event.RunnerFailed
prepare_event (Err start.Memory) = None

-- the runner got the inputs and all caches of the run, which left the table
pub record LaysOut (run : List ℕ) (p : Properties) (inputs : List (List ℕ × List ℕ)) (h : Hands) (e : BotEvent) (before after : RunnerState) (h2 : Hands) : Type 0 where
  pub answer : Result (Unit {0}) StartFault
  pub prepares : Performs answer before after (call.Prepare run inputs (prepared_caches p.caches h.caches.entries))
  pub event : prepare_event answer ≡ Some e
  pub hands : h2 ≡ with_entries (without_caches p.caches h.caches.entries) h

-- an input wasn't fetched, and the runner wasn't called; or the runner got them all
abbrev pub Prepares : Result (List (List ℕ × List ℕ)) BotEvent → List ℕ → Properties → Hands → BotEvent → RunnerState → RunnerState → Hands → Type 0
Prepares (Ok inputs) run p h e before after h2 = LaysOut run p inputs h e before after h2
Prepares (Err unfetched) run p h e before after h2 = (e ≡ unfetched) × (after ≡ before) × (h2 ≡ h)

pub record IsPrepareTurn (h : Hands) (e : BotEvent) (dialer dialer2 : DialerState) (runner runner2 : RunnerState) (h2 : Hands) : Type 0 where
  pub inputs : Result (List (List ℕ × List ℕ)) BotEvent
  pub fetches : OfRun h.run (λ run p. FetchesInputs h p inputs dialer dialer2)
  pub prepares : OfRun h.run (λ run p. Prepares inputs run p h e runner runner2 h2)
