-- What a run that sends a batch does to the links and to the files.
use Rattle.std.specs.Prelude.{◌≡◌, ℕ, false, List, [], ◌∷◌, ◌++◌, Some, None, IfSome, option_map}
use Rattle.routes.specs.declared.route.Route.TheVariants as route
use Rattle.json_fields.specs.Readings.{reading}
use Rattle.sw_base.specs.Dialers.{first_answer}
use Rattle.sw_base.specs.Files.{with_file}
use Rattle.server_calls.specs.declared.told.Told.{Told}
use Rattle.server_calls.specs.Exchanges.{HasAsked, MayHaveExchanged, Tells}
use Rattle.swarm_batch.specs.declared.mark.Mark.{Mark}
use Rattle.swarm_batch.specs.Batches.{BatchValue, body_data, next_line}
use Rattle.swarm_batch.specs.Marks.{progress_text}
use Rattle.swarm_batch.specs.Told.{is_again, told_mark}
use Rattle.client_commands.specs.declared.server.Server.{Server}
use Rattle.client_commands.specs.Requests.{posted}
use Rattle.client_commands.specs.Plans.{World, Follows}
use Rattle.client_commands.specs.Batches.{line_call, lines_left, sending, with_marks}

-- the request that asks for the line that comes next of a batch, with a body that is read as the line under its uuid
pub record AsksNext (server : Server) (b : BatchValue) (request : List ℕ) : Type 0 where
  pub line : ℕ
  pub next : next_line b ≡ Some line
  pub body : List ℕ
  pub read : reading body ≡ body_data b line
  pub whole : request ≡ posted (line_call b line).path server body

-- A line was sent: a link carried the whole request for the line that came next, the line has the mark
-- that its reply told, and the files that are told have the progress with that mark, whole. Nothing was printed.
pub record SendsLine (server : Server) (done : List ℕ) (b c : BatchValue) (w v : World) : Type 0 where
  pub request : List ℕ
  pub asks : AsksNext server b request
  pub asked : HasAsked w.dialer v.dialer server.address.now request
  pub reply : Told
  pub tells : IfSome w.dialer.answers (λ all. Tells route.NewTask (first_answer all) reply)
  pub final : is_again reply ≡ false
  pub mark : Mark
  pub told : told_mark reply ≡ Some mark
  pub marked : c ≡ with_marks b (b.marks ++ mark ∷ [])
  pub saved : v.aside.files.held ≡ option_map (with_file done (progress_text c.head c.marks)) w.aside.files.held
  pub waited : v.aside.waited ≡ w.aside.waited
  pub console : v.console ≡ w.console

-- lines were sent, one after the other
pub data SendsLines (server : Server) (done : List ℕ) : BatchValue → World → BatchValue → World → Type 0 where
  none_yet : (b : BatchValue) (w : World) → SendsLines server done b w b w
  one_more : (b c d : BatchValue) (w u v : World) → SendsLine server done b c w u → SendsLines server done c u d v → SendsLines server done b w d v

-- One line more may have been lost: a link may have been dialed, to which the request for the line that came
-- next was written, or a front of it. No progress was saved, so the files are as after the line before.
pub record LosesLine (server : Server) (b : BatchValue) (w v : World) : Type 0 where
  pub request : List ℕ
  pub asks : AsksNext server b request
  pub exchanged : MayHaveExchanged w.dialer v.dialer server.address.now request
  pub held : v.aside.files.held ≡ w.aside.files.held

-- nothing but the console was touched
pub record Quiet (w v : World) : Type 0 where
  pub dialer : v.dialer ≡ w.dialer
  pub aside : v.aside ≡ w.aside

-- how a run ends after the lines that were sent: each line is done, and that is printed; or one line is lost; or there was no memory for the next
pub data EndsRun (server : Server) (b : BatchValue) (w v : World) (status : ℕ) : Type 0 where
  all_done : next_line b ≡ None → Quiet w v → EndsRun server b w v status
  one_lost : LosesLine server b w v → EndsRun server b w v status
  no_memory : status ≡ 5 → v ≡ w → EndsRun server b w v status

-- a run is lines that are sent, and at most one that is lost
pub record RunsBatch (server : Server) (done : List ℕ) (b : BatchValue) (w v : World) (status : ℕ) : Type 0 where
  pub last : BatchValue
  pub at : World
  pub sent : SendsLines server done b w last at
  pub ended : EndsRun server last at v status

abbrev pub ARunSendsEachLineOnce : Type 0
ARunSendsEachLineOnce =
    (server : Server) (done : List ℕ) (b : BatchValue) (w v : World) (status : ℕ) → Follows server (sending done (lines_left b) b) w v status
    → RunsBatch server done b w v status
