-- A point before which nobody wrote since the turn began is one of a log that others share.
use Rattle.std.proofs.Common.{◌≡◌, ◌≤◌, ℕ, Bool, true, false, List, [], ◌++◌, length, Result, Ok, Err, IfOk, IfErr, subst, ap, ◌∙◌, append-nil}
use Rattle.std.specs.Bool.{MatchBool, OnTrue}
use Rattle.std.specs.List.{AllByRecursion}
use Rattle.std.proofs.lemmas.Bool.{false≢true}
use Rattle.std.proofs.lemmas.List.{append_assoc}
use Rattle.shared_doors.specs.Types.{Entry, PoolState, Answered, CallFault}
use Rattle.swarm_model.specs.declared.reply.Reply.{Reply}
use Rattle.swarm_model.specs.Bases.{Base, front}
use Rattle.swarm_model.specs.History.{replay, moment_of}
use Rattle.swarm_model.specs.MachineState.{MachineState}
use Rattle.swarm_model.specs.Points.{Call, Growth, added, IsByOther, Grows, IsPoint, IsSettled, IsStopped, IsFrontAhead, IsServed, LacksRoom, is_ahead, next_entry, taken_by, Finds}
use Rattle.pool_doors.specs.Doors.{is_log_full, IsAnsweredCall, IsPoolCall}
use Rattle.swarm_history.specs.Settling.{IsPointAlone, IsOwnStop, HasFrontAndPieces}
use Rattle.swarm_history.proofs.OwnPoints.{answered_call, told_front}
use Rattle.turnstile.specs.Numbers.{Continues}
use Rattle.shared_doors.specs.SharedDoors.{IsTurnCall}

-- the growth with these entries of others before it
abbrev after : List Entry → Growth → Growth
after others growth = record growth { others = others }

module _ (start : Base) (call : Call) (seen others : List Entry) (by_others : AllByRecursion (IsByOther call.pass) others) where
  grows : (new : List Entry) (g : Growth) → Grows start call.pass (seen ++ others) new g → g.others ≡ [] → Grows start call.pass seen new (after others g)
  grows new g h none = record {
    legal = h.legal;
    parts = h.parts ∙ (ap (λ os. (seen ++ others) ++ (os ++ added g)) none ∙ append_assoc seen others (added g));
    by_others = by_others;
  }

  found : (g : Growth) → g.others ≡ [] → (seen ++ others) ++ g.others ≡ seen ++ others
  found g none = ap (λ os. (seen ++ others) ++ os) none ∙ append-nil (seen ++ others)

  refound : (n : ℕ) (s : PoolState) (g : Growth) (reply : Reply) (ahead : Bool) → MatchBool ahead (IsFrontAhead n g reply) (IsServed s (taken_by s call) g reply)
      → MatchBool ahead (IsFrontAhead n (after others g) reply) (IsServed s (taken_by s call) (after others g) reply)
  refound n s g reply true h = record { reply = h.reply; settled_is = h.settled_is; own_is = h.own_is }
  refound n s g reply false h = record { due_first = h.due_first; nothing_due = h.nothing_due; reply = h.reply; entry = h.entry }

  pub shared_point : (new : List Entry) (reply : Reply) → (p : IsPointAlone start call (seen ++ others) new reply) → IsPoint start call seen new (after others p.growth) reply
  shared_point new reply p = record {
    grows = grows new p.growth p.point.grows p.no_others;
    finds = refound (front start (seen ++ others)) (replay start.rows (seen ++ others)) p.growth reply (is_ahead (front start (seen ++ others)) call.after)
        (subst (λ (log : List Entry). Finds (front start log) (replay start.rows log) call p.growth reply) (found p.growth p.no_others) p.point.finds);
  }

  pub shared_stop : (new : List Entry) (full : Bool) → (p : IsOwnStop start call (seen ++ others) new full) → IsStopped start call seen new (after others p.growth) full
  shared_stop new full p = record {
    grows = grows new p.growth p.stop.grows p.no_others;
    no_own = p.stop.no_own;
    not_ahead = subst (λ (log : List Entry). is_ahead (front start log) call.after ≡ false) (found p.growth p.no_others) p.stop.not_ahead;
    due_first = subst (λ (log : List Entry). AllByRecursion (IsSettled call.pass (moment_of (replay start.rows log) call.moment)) p.growth.settled) (found p.growth p.no_others) p.stop.due_first;
    full = subst (λ (log : List Entry). OnTrue full (LacksRoom start.rows new (next_entry (replay start.rows new) (taken_by (replay start.rows log) call)))) (found p.growth p.no_others) p.stop.full;
  }

module _ (start : Base) (call : Call) (seen others : List Entry) (by_others : AllByRecursion (IsByOther call.pass) others) (told : ℕ) (fresh : told ≤ length (seen ++ others)) where
  shared_call : (new : MachineState) (result : Result Answered CallFault) → new.start ≡ start
      → IfOk result (λ a. IsPointAlone start call (seen ++ others) new.log a.reply) → IfOk result (HasFrontAndPieces new)
      → IfErr result (λ f. IsOwnStop start call (seen ++ others) new.log (is_log_full f))
      → IsTurnCall start call seen new.log told result
  shared_call new (Ok a) same point shows stop =
      let one : IsPoolCall start false call (seen ++ others) new.log point.growth (Ok a) = answered_call point (told_front new a same shows) shows.pieces in
      let ends : IsAnsweredCall start call (seen ++ others) new.log point.growth a = one.ends in
      record {
        growth = after others point.growth;
        done = record {
          ends = record {
            point = shared_point start call seen others by_others new.log a.reply point;
            refused = ends.refused;
            front = ends.front;
            pieces = shows.pieces;
          };
          no_others = λ alone. absurd (false≢true alone);
        };
        fresh = fresh;
      }
  shared_call new (Err f) same point shows stop = record {
    growth = after others stop.growth;
    done = record {
      ends = shared_stop start call seen others by_others new.log (is_log_full f) stop;
      no_others = λ alone. absurd (false≢true alone);
    };
    fresh = fresh;
  }

-- the same of a call that a turn found
pub turn_call : (start start_there : Base) (call call_there : Call) (seen found log new : List Entry) (there : MachineState) (told : ℕ) (result : Result Answered CallFault)
    → Continues (λ e. e.pass) call.pass seen found → told ≤ length found → start_there ≡ start → there.start ≡ start_there → call_there ≡ call → log ≡ found → there.log ≡ new
    → IfOk result (λ a. IsPointAlone start_there call_there log there.log a.reply) → IfOk result (HasFrontAndPieces there)
    → IfErr result (λ f. IsOwnStop start_there call_there log there.log (is_log_full f))
    → IsTurnCall start call seen new told result
turn_call start start_there call call_there seen found log new there told result c fresh start_is same call_is log_is new_is point shows stop =
    let P : Base → Call → List Entry → Type 0 = λ b k l. IfOk result (λ a. IsPointAlone b k l there.log a.reply) in
    let S : Base → Call → List Entry → Type 0 = λ b k l. IfErr result (λ f. IsOwnStop b k l there.log (is_log_full f)) in
    subst (λ l. IsTurnCall start call seen l told result) new_is
    (shared_call start call seen c.others c.by_others told (subst (λ (l : List Entry). told ≤ length l) c.parts fresh) there result (same ∙ start_is)
    (subst (λ l. P start call l) (log_is ∙ c.parts) (subst (λ k. P start k log) call_is (subst (λ b. P b call_there log) start_is point)))
    shows
    (subst (λ l. S start call l) (log_is ∙ c.parts) (subst (λ k. S start k log) call_is (subst (λ b. S b call_there log) start_is stop))))
