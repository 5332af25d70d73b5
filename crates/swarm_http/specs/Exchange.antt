-- One request and its outcome.
use Rattle.std.specs.Prelude.{◌≡◌, ◌==◌, ℕ, Bool, List, [], ◌∷◌, ◌++◌, map, filter, IsTrue}
use Rattle.std.specs.List.{flat_map}
use Rattle.httparse.specs.Grammar.{RequestHead}
use Rattle.swarm_http.specs.Types.{Settings, Entry}
use Rattle.reply_bodies.specs.Bodies.{status_of}
use Rattle.pool_doors.specs.Doors.{Logs, Writer}
use Rattle.swarm_http.specs.Outcomes.{Outcome, Acts, answer_of, shown_of, calls, moments_used, entries_at, is_keeper_stop}
use Rattle.swarm_http.specs.Served.{Served, IsRequest, reply_bytes}

-- a request as it stood on the link, what its head is, and its outcome
pub record Exchange : Type 0 where
  pub text : List ℕ
  pub body : List ℕ
  pub head : RequestHead
  pub outcome : Outcome

-- the request, with the status and the bytes of its outcome's reply
abbrev pub served_of : Exchange → Served
served_of x = record { text = x.text; body = x.body; head = x.head; status = status_of (answer_of x.outcome); shown = shown_of x.outcome }

abbrev pub served : List Exchange → List Served
served xs = map served_of xs

-- the bytes of its reply, which has no body where the method is HEAD
abbrev pub reply_of : Exchange → List ℕ
reply_of x = reply_bytes (served_of x)

-- the moments that it used
abbrev pub moments_of : Exchange → List ℕ
moments_of x = moments_used x.outcome

-- the entries that it added to the log of the pool at a place
abbrev pub entries_of : ℕ → Exchange → List Entry
entries_of place x = flat_map (entries_at place) (calls x.outcome)

-- its call was stopped by what keeps its pool's records, and its reply says so
abbrev pub fails_keeper : Exchange → Bool
fails_keeper x = is_keeper_stop x.outcome

-- its reply has status 200
abbrev pub is_accepted : Exchange → Bool
is_accepted x = status_of (answer_of x.outcome) == 200

-- the text is its head, the body has the size that the head tells, and the logs went from `old` to `new`
pub record IsExchange (settings : Settings) (writer : Writer) (x : Exchange) (old new : Logs) : Type 0 where
  pub request : IsRequest x.text x.body x.head
  pub acts : Acts settings writer x.head x.body x.outcome old new

-- one exchange after another
abbrev pub Chain : Settings → Writer → Logs → List Exchange → Logs → Type 0
Chain settings writer old [] new = new ≡ old
Chain settings writer old (x ∷ xs) new = (mid : Logs) × IsExchange settings writer x old mid × Chain settings writer mid xs new

-- the entry has the number of this pass
abbrev pub has_pass : ℕ → Entry → Bool
has_pass pass entry = entry.pass == pass

-- Of the entries that the log gains, those with the number of the pass are just these, each once and
-- in this order. Where the door writes alone, it gains no others.
pub record GainsOnce (pass : ℕ) (alone : Bool) (old new entries : List Entry) : Type 0 where
  pub gained : List Entry
  pub grown : new ≡ old ++ gained
  pub exactly : filter (has_pass pass) gained ≡ entries
  pub no_others : IsTrue alone → gained ≡ entries

-- each log gains the entries of the exchanges, once and in order
abbrev pub AreOnce : Writer → Logs → List Exchange → Logs → Type 0
AreOnce writer old xs new = (p : ℕ) → GainsOnce (writer.numbers p) writer.alone (old p) (new p) (flat_map (entries_of p) xs)
