-- The points of a log that nobody shares.
use Rattle.std.proofs.Common.{◌≡◌, ◌≤◌, ℕ, Bool, true, false, List, [], ◌++◌, length, refl, Option, Some, None, Result, Ok, Err, IfOk, IfErr, arith, subst, sym, ap, ◌∙◌, append-nil}
use Rattle.std.specs.Prelude.{IsErrOf, IsSomeAnd}
use Rattle.std.specs.Bool.{OnTrue}
use Rattle.std.specs.Option.{option_or, option_to_list}
use Rattle.std.proofs.lemmas.List.{append_assoc}
use Rattle.std.proofs.lemmas.List.Sums.{fold-append}
use Rattle.sw_base.specs.Faults.{Rose}
use Rattle.swarm_history.specs.Types.{PoolSettings, PoolState, Entry, Reply, Answered, CallFault}
use Rattle.swarm_model.specs.declared.reply.Reply.TheVariants as reply
use Rattle.swarm_model.specs.declared.rule.Rule.TheVariants as rule
use Rattle.swarm_model.specs.Deadlines.{due_entry}
use Rattle.swarm_model.specs.Bases.{Base, front}
use Rattle.swarm_model.specs.Effects.{after}
use Rattle.swarm_model.specs.History.{replay, IsLegal, moment_of}
use Rattle.swarm_model.specs.Points.{is_ahead, Call, Growth, answer_to, LacksRoom, next_entry}
use Rattle.swarm_model.specs.MachineState.{MachineState, IsHistory}
use Rattle.pool_doors.specs.declared.door.CallFault.TheVariants as fault
use Rattle.pool_doors.specs.Doors.{ArePieces, CountsKeeper, is_log_full, IsPoolCall}
use Rattle.swarm_history.proofs.Refusals.{refused_adds_nothing}
use Rattle.swarm_history.specs.Settling.{Settles, Responds, HasFrontAndPieces, IsPointAlone, IsOwnStop}

-- the log of a machine has no more entries than the settings allow
pub few_history : (kept : MachineState) → IsHistory kept → length kept.log ≤ kept.pool.settings.most_entries
few_history kept h = subst (λ (p : PoolSettings). length kept.log ≤ p.most_entries) h.base.own h.legal.few

-- a call of one who has seen more than there is
pub early_point : (start : Base) (call : Call) (log : List Entry) →
    IsLegal start.rows log → is_ahead (front start log) call.after ≡ true → IsPointAlone start call log log (reply.No (rule.FrontAhead (front start log)))
early_point start call log legal is =
    record {
      growth = record { others = []; settled = []; own = None };
      point = record {
        grows = record { legal = legal; parts = sym (append-nil log); by_others = tt };
        finds = rw (append-nil log, is) (record { reply = refl; settled_is = refl; own_is = refl });
      };
      no_others = refl;
    }

-- an entry that is due comes before the request's own
pub due_next : (full : Bool) (P : Entry → Type 0) (due own : Option Entry) → OnTrue full (IsSomeAnd due P) → OnTrue full (IsSomeAnd (option_or due own) P)
due_next false P due own h = tt
due_next true P None own h = absurd h
due_next true P (Some e) own h = h

-- where nothing is due the request's own comes
pub own_next : (full : Bool) (P : Entry → Type 0) (due own : Option Entry) → due ≡ None → OnTrue full (IsSomeAnd own P) → OnTrue full (IsSomeAnd (option_or due own) P)
own_next full P due own none h = rw none h

-- A call that settled what was due by a moment, in part or whole.
module _ (call : Call) (at : ℕ) (old mid : MachineState) (history : IsHistory old)
    (behind : is_ahead (front old.start old.log) call.after ≡ false) (reckoned : at ≡ moment_of old.pool call.moment) (s : Settles call.pass at old mid) where
  -- the call at its moment
  abbrev taken : Call
  taken = record call { moment = at }

  moment_is : at ≡ moment_of (replay old.start.rows old.log) call.moment
  moment_is = reckoned ∙ ap (λ (p : PoolState). moment_of p call.moment) history.replayed

  -- the rows are those of the log
  rows : mid.pool ≡ replay old.start.rows mid.log
  rows = s.history.replayed ∙ ap (λ (b : Base). replay b.rows mid.log) s.start

  rows_settled : mid.pool ≡ replay (replay old.start.rows old.log) s.settled
  rows_settled = rows ∙ ap (replay old.start.rows) s.log ∙ fold-append after old.start.rows old.log s.settled

  pub settled_point : (new : MachineState) → due_entry mid.pool at call.pass ≡ None → (answered : Reply) → Responds call.pass call.caller at call.request mid new answered →
      IsPointAlone old.start call old.log new.log answered
  settled_point new none answered a =
      record {
        growth = record { others = []; settled = s.settled; own = (answer_to mid.pool taken).entry };
        point = record {
          grows = record {
            legal = subst (λ (b : Base). IsLegal b.rows new.log) (a.start ∙ s.start) a.history.legal;
            parts = a.log ∙ ap (λ (l : List Entry). l ++ option_to_list (answer_to mid.pool taken).entry) s.log ∙ append_assoc old.log s.settled _;
            by_others = tt;
          };
          finds = rw (append-nil old.log, behind, ← moment_is) (record {
            due_first = s.due_first;
            nothing_due = rw (← rows_settled) none;
            reply = rw (← rows_settled) a.reply;
            entry = rw (← rows_settled) refl;
          });
        };
        no_others = refl;
      }

  -- it stopped where an entry was to be added
  pub settled_stop : (log : List Entry) (full : Bool) → log ≡ mid.log → OnTrue full (LacksRoom mid.start.rows mid.log (next_entry mid.pool taken)) →
      IsOwnStop old.start call old.log log full
  settled_stop log full same lacks =
      record {
        growth = record { others = []; settled = s.settled; own = None };
        stop = record {
          grows = record {
            legal = rw same (subst (λ (b : Base). IsLegal b.rows mid.log) s.start s.history.legal);
            parts = same ∙ s.log ∙ ap (λ (l : List Entry). old.log ++ l) (sym (append-nil s.settled));
            by_others = tt;
          };
          no_own = refl;
          not_ahead = rw (append-nil old.log) behind;
          due_first = rw (append-nil old.log, ← moment_is) s.due_first;
          full = rw (append-nil old.log, ← moment_is, same, ← rows)
              (subst (λ (b : Base). OnTrue full (LacksRoom b.rows mid.log (next_entry mid.pool taken))) s.start lacks);
        };
        no_others = refl;
      }

-- a request was answered with no other's entries before it, which serves a door that writes alone and any other
pub answered_call : {start : Base} {alone : Bool} {call : Call} {old new : List Entry} {answered : Answered}
    → (p : IsPointAlone start call old new answered.reply) → answered.front ≡ front start new → ArePieces answered.reply answered.pieces
    → IsPoolCall start alone call old new p.growth (Ok answered)
answered_call p told pieces = record {
  ends = record { point = p.point; refused = λ r. refused_adds_nothing p.point r; front = told; pieces = pieces };
  no_others = λ _. p.no_others;
}

pub stopped_call : {start : Base} {alone : Bool} {call : Call} {old new : List Entry} {fault : CallFault}
    → (p : IsOwnStop start call old new (is_log_full fault)) → IsPoolCall start alone call old new p.growth (Err fault)
stopped_call p = record { ends = p.stop; no_others = λ _. p.no_others }

-- what is told of a machine's log is told of one that begins where it does
pub told_front : {start : Base} (new : MachineState) (answered : Answered) → new.start ≡ start → HasFrontAndPieces new answered → answered.front ≡ front start new.log
told_front new answered same shows = shows.front ∙ ap (λ (b : Base). front b new.log) same

-- a call that was served, or that stopped
pub served_call : {start : Base} {call : Call} {old : List Entry} (new : MachineState) (result : Result Answered CallFault) → new.start ≡ start
    → IfOk result (λ answered. IsPointAlone start call old new.log answered.reply) → IfOk result (HasFrontAndPieces new)
    → IfErr result (λ fault. IsOwnStop start call old new.log (is_log_full fault))
    → (growth : Growth) × IsPoolCall start true call old new.log growth result
served_call new (Ok answered) same point shows stop = (point.growth, answered_call point (told_front new answered same shows) shows.pieces)
served_call new (Err fault) same point shows stop = (stop.growth, stopped_call stop)

-- a desk whose keeper never fails stops by none
pub never_fails : (result : Result Answered CallFault) → CountsKeeper result 0 0 → ¬ IsErrOf result fault.Keeper
never_fails result counts = λ is.
    let bad : Rose 0 0 = subst (λ (r : Result Answered CallFault). CountsKeeper r 0 0) is counts in absurd (omega (arith, bad))
