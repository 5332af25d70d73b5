-- Upload: the outputs of the run are collected and put, in order.
use Rattle.std.specs.Prelude.{◌≡◌, ℕ, List, [], ◌∷◌, ◌++◌, length, Option, Some, None, Result, Ok, Err}
use Rattle.sha2.specs.Sha256.{sha256}
use Rattle.bot_turns.specs.Types.{File, Reply, Exchanged, CollectFault, BotEvent, Hands}
use Rattle.sw_base.specs.Dialers.{DialerState}
use Rattle.swarm_model.specs.declared.reply.Reply.TheVariants as reply
use Rattle.routes.specs.declared.route.Route.TheVariants as route
use Rattle.server_calls.specs.declared.told.Told.TheVariants as told
use Rattle.server_calls.specs.declared.exchanged.Exchanged.TheVariants as exchanged
use Rattle.runners.specs.declared.call.RunnerCall.TheVariants as call
use Rattle.runners.specs.declared.collect_fault.CollectFault.TheVariants as fault
use Rattle.runners.specs.Calls.{RunnerState, CollectsFile}
use Rattle.bot_core.specs.declared.bot_event.BotEvent.TheVariants as event
use Rattle.bot_requests.specs.Requests.{put_blob_text}
use Rattle.bot_turns.specs.Events.{refusal_event}
use Rattle.bot_turns.specs.ServerTurns.{AsksServer, OfRun}

-- ---- one output

abbrev pub put_reply : Reply → Result (Unit {0}) BotEvent
put_reply (reply.Put fresh) = Ok tt
put_reply r = Err event.Lost

-- whether a blob is held now, or the event that ends the upload; None: there was no memory
abbrev pub put_result : Exchanged → Option (Result (Unit {0}) BotEvent)
put_result (exchanged.Told (told.Good place r bytes)) = Some (put_reply r)
put_result (exchanged.Told (told.No code body)) = Some (Err (refusal_event code))
put_result exchanged.NoReply = Some (Err event.Lost)
put_result exchanged.Lost = Some (Err event.Lost)
put_result exchanged.Memory = None

abbrev pub output_file : List ℕ → List ℕ → File
output_file path bytes = record { path = path; digest = sha256 bytes; size = length bytes }

-- bytes were put under their digest
pub record PutsBytes (h : Hands) (bytes : List ℕ) (result : Result (Unit {0}) BotEvent) (before after : DialerState) : Type 0 where
  pub exchanged : Exchanged
  pub exchange : AsksServer h (put_blob_text h (sha256 bytes) bytes) route.PutBlob exchanged before after
  pub comes_to : put_result exchanged ≡ Some result

-- What a collected output comes to: its file, or the event that ends the upload. What can't be
-- collected is left out.
abbrev pub PutsOutput : Hands → List ℕ → Result (Option (List ℕ)) CollectFault → Result (Option File) BotEvent → DialerState → DialerState → Type 0
PutsOutput h path (Ok (Some bytes)) (Ok (Some file)) before after = (file ≡ output_file path bytes) × PutsBytes h bytes (Ok tt) before after
PutsOutput h path (Ok (Some bytes)) (Err e) before after = PutsBytes h bytes (Err e) before after
PutsOutput h path (Ok (Some bytes)) (Ok None) before after = ⊥
PutsOutput h path (Ok None) result before after = (result ≡ Ok None) × (after ≡ before)
PutsOutput h path (Err fault.Memory) result before after = ⊥
PutsOutput h path (Err unread) result before after = (result ≡ Ok None) × (after ≡ before)

-- a longer file is left out
abbrev pub most_collected : ℕ
most_collected = 16777216

pub record UploadsOutput (h : Hands) (path : List ℕ) (result : Result (Option File) BotEvent) (dialer dialer2 : DialerState) (runner runner2 : RunnerState) : Type 0 where
  pub collected : Result (Option (List ℕ)) CollectFault
  pub collects : CollectsFile collected most_collected runner runner2 (call.Collect path most_collected)
  pub puts : PutsOutput h path collected result dialer dialer2

-- ---- all outputs

abbrev pub with_optional_file : Option File → List File → List File
with_optional_file None files = files
with_optional_file (Some file) files = file ∷ files

-- the files, and then one, where there is one
abbrev pub then_file : List File → Option File → List File
then_file files None = files
then_file files (Some file) = files ++ file ∷ []

-- an output was uploaded, and then the others
pub record UploadsFirst (h : Hands) (path : List ℕ) (uploads_rest : List File → DialerState → RunnerState → Type 0) (files : List File) (dialer : DialerState) (runner : RunnerState) : Type 0 where
  pub file : Option File
  pub others : List File
  pub mid_dialer : DialerState
  pub mid_runner : RunnerState
  pub uploads : UploadsOutput h path (Ok file) dialer mid_dialer runner mid_runner
  pub rest : uploads_rest others mid_dialer mid_runner
  pub is : files ≡ with_optional_file file others

-- the outputs were collected and put, in order; these are their files
abbrev pub UploadsAll : Hands → List (List ℕ) → List File → DialerState → DialerState → RunnerState → RunnerState → Type 0
UploadsAll h [] files dialer dialer2 runner runner2 = (files ≡ []) × (dialer2 ≡ dialer) × (runner2 ≡ runner)
UploadsAll h (path ∷ paths) files dialer dialer2 runner runner2 =
    UploadsFirst h path (λ others mid_dialer mid_runner. UploadsAll h paths others mid_dialer dialer2 mid_runner runner2) files dialer runner

-- the outputs in front of one were uploaded, and that one ended the upload
pub record UploadEnds (h : Hands) (paths : List (List ℕ)) (e : BotEvent) (files : List File) (dialer dialer2 : DialerState) (runner runner2 : RunnerState) : Type 0 where
  pub done : List (List ℕ)
  pub path : List ℕ
  pub left : List (List ℕ)
  pub mid_dialer : DialerState
  pub mid_runner : RunnerState
  pub parts : paths ≡ done ++ path ∷ left
  pub uploaded : UploadsAll h done files dialer mid_dialer runner mid_runner
  pub fails : UploadsOutput h path (Err e) mid_dialer dialer2 mid_runner runner2

-- all outputs were uploaded, or one ended the upload
abbrev pub Uploads : Option BotEvent → Hands → List (List ℕ) → List File → DialerState → DialerState → RunnerState → RunnerState → Type 0
Uploads None h paths files dialer dialer2 runner runner2 = UploadsAll h paths files dialer dialer2 runner runner2
Uploads (Some e) h paths files dialer dialer2 runner runner2 = UploadEnds h paths e files dialer dialer2 runner runner2

-- ---- the turn

abbrev pub upload_event : Option BotEvent → BotEvent
upload_event None = event.Uploaded
upload_event (Some e) = e

-- the hands hold the files that were put, also where one ended the upload
pub record IsUploadTurn (h : Hands) (e : BotEvent) (dialer dialer2 : DialerState) (runner runner2 : RunnerState) (h2 : Hands) : Type 0 where
  pub files : List File
  pub ended : Option BotEvent
  pub uploads : OfRun h.run (λ run p. Uploads ended h p.outputs files dialer dialer2 runner runner2)
  pub event : e ≡ upload_event ended
  pub hands : h2 ≡ record h { files = files }
