-- What one call does at its point of a log that others may share.
use Rattle.std.specs.Prelude.{◌≡◌, ◌≢◌, ℕ, Bool, false, ◌≤◌, nat_lt, IsTrue, List, [], ◌++◌, Option, Some, None, IsSomeAnd}
use Rattle.std.specs.Bool.{MatchBool, OnTrue}
use Rattle.std.specs.Option.{option_or, option_to_list}
use Rattle.std.specs.List.{AllByRecursion}
use Rattle.swarm_model.specs.Types.{PoolState, Entry, Request, Answer, Reply}
use Rattle.swarm_model.specs.declared.reply.Reply.TheVariants as reply
use Rattle.swarm_model.specs.declared.rule.Rule.TheVariants as rule
use Rattle.swarm_model.specs.Bases.{Base, front}
use Rattle.swarm_model.specs.Entries.{is_deadline}
use Rattle.swarm_model.specs.Deadlines.{due_entry}
use Rattle.swarm_model.specs.Answers.{answer}
use Rattle.swarm_model.specs.History.{replay, IsLegal, has_room, moment_of}

-- a caller has seen a longer log than the one that is there
abbrev pub is_ahead : ℕ → Option ℕ → Bool
is_ahead size None = false
is_ahead size (Some seen) = nat_lt size seen

-- an entry of another pass
abbrev pub IsByOther : ℕ → Entry → Type 0
IsByOther pass entry = entry.pass ≢ pass

-- an entry of a deadline that had come, by this pass
abbrev pub IsSettled : ℕ → ℕ → Entry → Type 0
IsSettled pass moment entry = IsTrue (is_deadline entry.kind) × (entry.pass ≡ pass) × (entry.moment ≤ moment)

-- a call: the number of its pass, the caller, the moment by the clock, the length of a log that the caller has seen, and the request
pub record Call : Type 0 where
  pub pass : ℕ
  pub caller : List ℕ
  pub moment : ℕ
  pub after : Option ℕ
  pub request : Request

-- the call at the moment of the pool that takes it
abbrev pub taken_by : PoolState → Call → Call
taken_by s call = record call { moment = moment_of s call.moment }

-- what a pool answers to a call
abbrev pub answer_to : PoolState → Call → Answer
answer_to s call = answer s call.caller call.moment call.pass call.request

-- the entries that a log gains in a call: those of other passes, those of the deadlines that had come, and the request's own
pub record Growth : Type 0 where
  pub others : List Entry
  pub settled : List Entry
  pub own : Option Entry

-- the entries that the call itself adds
abbrev pub added : Growth → List Entry
added growth = growth.settled ++ option_to_list growth.own

-- the log grows by these entries, in this order, and is legal
pub record Grows (start : Base) (pass : ℕ) (old new : List Entry) (growth : Growth) : Type 0 where
  pub legal : IsLegal start.rows new
  pub parts : new ≡ old ++ (growth.others ++ added growth)
  pub by_others : AllByRecursion (IsByOther pass) growth.others

-- nothing happens: the caller has seen more than there is
pub record IsFrontAhead (size : ℕ) (growth : Growth) (answered : Reply) : Type 0 where
  pub reply : answered ≡ reply.No (rule.FrontAhead size)
  pub settled_is : growth.settled ≡ []
  pub own_is : growth.own ≡ None

-- what was due by the call's moment is settled, and then the request is answered
pub record IsServed (s : PoolState) (call : Call) (growth : Growth) (answered : Reply) : Type 0 where
  pub due_first : AllByRecursion (IsSettled call.pass call.moment) growth.settled
  pub nothing_due : due_entry (replay s growth.settled) call.moment call.pass ≡ None
  pub reply : (answer_to (replay s growth.settled) call).reply ≡ answered
  pub entry : (answer_to (replay s growth.settled) call).entry ≡ growth.own

-- a call that finds a log of this length, of a pool with these rows
abbrev pub Finds : ℕ → PoolState → Call → Growth → Reply → Type 0
Finds size s call growth answered = MatchBool (is_ahead size call.after) (IsFrontAhead size growth answered) (IsServed s (taken_by s call) growth answered)

-- A call's point: others' entries came first, then what was due, and then the request's own.
pub record IsPoint (start : Base) (call : Call) (old new : List Entry) (growth : Growth) (answered : Reply) : Type 0 where
  pub grows : Grows start call.pass old new growth
  pub finds : Finds (front start (old ++ growth.others)) (replay start.rows (old ++ growth.others)) call growth answered

-- the entry that comes next: that of a deadline, or else the request's own
abbrev pub next_entry : PoolState → Call → Option Entry
next_entry s call = option_or (due_entry s call.moment call.pass) (answer_to s call).entry

-- the log has no room for the entry that comes next
abbrev pub LacksRoom : PoolState → List Entry → Option Entry → Type 0
LacksRoom s log next = IsSomeAnd next (λ entry. has_room s log entry ≡ false)

-- A call that stopped: what was due was settled in part, and the request added nothing. Where it
-- stopped for a full log, the log has no room for the entry that comes next.
pub record IsStopped (start : Base) (call : Call) (old new : List Entry) (growth : Growth) (is_full : Bool) : Type 0 where
  pub grows : Grows start call.pass old new growth
  pub no_own : growth.own ≡ None
  pub not_ahead : is_ahead (front start (old ++ growth.others)) call.after ≡ false
  pub due_first : AllByRecursion (IsSettled call.pass (moment_of (replay start.rows (old ++ growth.others)) call.moment)) growth.settled
  pub full : OnTrue is_full (LacksRoom start.rows new (next_entry (replay start.rows new) (taken_by (replay start.rows (old ++ growth.others)) call)))
