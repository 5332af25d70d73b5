-- What a command does, by what its exchanges answer.
use Rattle.std.specs.Prelude.{◌≡◌, ⊤, ℕ, List, [], ◌++◌, length, codes, Option, None, Result, Vec}
use Rattle.std.specs.declared.alloc.Global.{Global}
use Rattle.refusal_codes.specs.Codes.{code_name}
use Rattle.sw_base.specs.Faults.{Rose}
use Rattle.sw_base.specs.Clock.{Waits}
use Rattle.sw_base.specs.Link.{LinkState, IsClean}
use Rattle.sw_base.specs.Dialers.{DialerState}
use Rattle.sw_base.specs.Files.{FilesState, Loads, Saves}
use Rattle.sw_base.specs.declared.file_fault.FileFault.{FileFault}
use Rattle.link_writer.specs.Sends.{Written}
use Rattle.swarm_model.specs.declared.reply.Reply.{Reply}
use Rattle.server_calls.specs.declared.told.Told.{Told as ToldValue}
use Rattle.server_calls.specs.declared.told.Told.TheVariants.{Good, No}
use Rattle.client_commands.specs.declared.server.Server.{Server}
use Rattle.server_calls.specs.declared.exchanged.Exchanged.{Exchanged}
use Rattle.server_calls.specs.declared.exchanged.Exchanged.TheVariants.{Told, NoReply, Lost, Memory}
use Rattle.client_commands.specs.Requests.{Call, IsBody, posted}
use Rattle.server_calls.specs.Exchanges.{IsExchanged}
use Rattle.swarm_batch.specs.declared.faults.BatchFault.{BatchFault}
use Rattle.swarm_batch.specs.declared.mark.Mark.{Mark}
use Rattle.swarm_batch.specs.Batches.{BatchValue}
use Rattle.swarm_batch.specs.Names.{IsNameIn}
use Rattle.swarm_batch.specs.Progress.{TellsDone}
use Rattle.swarm_batch.specs.Reopened.{IsBatchRead}

-- what comes of a load of a file, and of a save
abbrev pub Loaded : Type 0
Loaded = Result (Option (Vec ℕ Global)) FileFault

abbrev pub Saved : Type 0
Saved = Result ⊤ FileFault

-- What is left to do: to end with a status, or something first: to print a text, to wait so many seconds,
-- to exchange a call for an answer, to load the file at a path, of so many bytes at most, to save a text
-- at a path, to find the name of a batch in a progress, to read a batch of a file under a name, or to read
-- what a progress tells of a batch. What comes of it decides what follows.
pub data Plan : Type 0 where
  end : ℕ → Plan
  say : List ℕ → Plan → Plan
  wait : ℕ → Plan → Plan
  ask : Call → (Exchanged → Plan) → Plan
  load : List ℕ → ℕ → (Loaded → Plan) → Plan
  save : List ℕ → List ℕ → (Saved → Plan) → Plan
  find_name : List ℕ → (Option (List ℕ) → Plan) → Plan
  read_batch : List ℕ → List ℕ → (Result BatchValue BatchFault → Plan) → Plan
  read_marks : BatchValue → Option (List ℕ) → (Result (List Mark) BatchFault → Plan) → Plan

-- what the clock waited, where it tells that, and the files
pub record Aside : Type 0 where
  pub waited : Option ℕ
  pub files : FilesState

-- what a command works with
pub record World : Type 0 where
  pub dialer : DialerState
  pub console : LinkState
  pub aside : Aside

-- the text was written whole and flushed
pub record Prints (text : List ℕ) (s t : LinkState) : Type 0 where
  pub written : Written s t text []
  pub clean : IsClean t
  pub faults : t.write_faults ≡ s.write_faults

-- a front of the text was written, and then a write or the flush failed
pub record FailsToPrint (text : List ℕ) (s t : LinkState) : Type 0 where
  pub back : List ℕ
  pub written : Written s t text back
  pub rose : Rose s.write_faults t.write_faults

-- the request of the call was exchanged for an answer
pub record Exchanges (server : Server) (call : Call) (s t : DialerState) (x : Exchanged) : Type 0 where
  pub body : List ℕ
  pub is_body : IsBody call.route call.body body
  pub exchanged : IsExchanged s t server.address.now (posted call.path server body) call.route x

-- The plan was carried out, each step once and in order, and ended with this status: with the plan's
-- own, with 4 as the console failed, or with 5 for want of memory.
pub data Follows (server : Server) : Plan → World → World → ℕ → Type 0 where
  ends : (status : ℕ) (w : World) → Follows server (end status) w w status
  says : (text : List ℕ) (next : Plan) (w v : World) (status : ℕ) (console : LinkState) → Prints text w.console console → Follows server next (record w { console = console }) v status → Follows server (say text next) w v status
  fails : (text : List ℕ) (next : Plan) (w : World) (console : LinkState) → FailsToPrint text w.console console → Follows server (say text next) w (record w { console = console }) 4
  waits : (secs : ℕ) (next : Plan) (w v : World) (status : ℕ) (waited : Option ℕ) → Waits w.aside.waited waited secs → Follows server next (record w { aside = record w.aside { waited = waited } }) v status → Follows server (wait secs next) w v status
  asks : (call : Call) (next : Exchanged → Plan) (w v : World) (status : ℕ) (dialer : DialerState) (x : Exchanged) → Exchanges server call w.dialer dialer x → Follows server (next x) (record w { dialer = dialer }) v status → Follows server (ask call next) w v status
  loads : (path : List ℕ) (most : ℕ) (next : Loaded → Plan) (w v : World) (status : ℕ) (files : FilesState) (loaded : Loaded) → Loads w.aside.files files path most loaded → Follows server (next loaded) (record w { aside = record w.aside { files = files } }) v status → Follows server (load path most next) w v status
  saves : (path bytes : List ℕ) (next : Saved → Plan) (w v : World) (status : ℕ) (files : FilesState) (saved : Saved) → Saves w.aside.files files path bytes saved → Follows server (next saved) (record w { aside = record w.aside { files = files } }) v status → Follows server (save path bytes next) w v status
  finds_name : (text : List ℕ) (next : Option (List ℕ) → Plan) (w v : World) (status : ℕ) (found : Option (List ℕ)) → IsNameIn text found → Follows server (next found) w v status → Follows server (find_name text next) w v status
  reads_batch : (text name : List ℕ) (next : Result BatchValue BatchFault → Plan) (w v : World) (status : ℕ) (batch : Result BatchValue BatchFault) → IsBatchRead text name None batch → Follows server (next batch) w v status → Follows server (read_batch text name next) w v status
  reads_marks : (b : BatchValue) (progress : Option (List ℕ)) (next : Result (List Mark) BatchFault → Plan) (w v : World) (status : ℕ) (marks : Result (List Mark) BatchFault) → TellsDone (length b.lines) b.head progress marks → Follows server (next marks) w v status → Follows server (read_marks b progress next) w v status
  lacks_memory : (plan : Plan) (w : World) → Follows server plan w w 5

-- what follows an answer: no reply has status 9, a fault of the dialer 4, and want of memory 5
abbrev pub once_told : (ToldValue → Plan) → Exchanged → Plan
once_told next (Told t) = next t
once_told next NoReply = end 9
once_told next Lost = end 4
once_told next Memory = end 5

-- what follows what was told: a refusal's code is printed with status 6
abbrev pub unless_refused : (ℕ → Reply → List ℕ → Plan) → ToldValue → Plan
unless_refused good (Good place reply bytes) = good place reply bytes
unless_refused good (No code body) = say (code_name code ++ codes "\n") (end 6)

abbrev pub after : (ℕ → Reply → List ℕ → Plan) → Exchanged → Plan
after good x = once_told (unless_refused good) x
