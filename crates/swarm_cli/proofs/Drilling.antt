-- A session that was made from a number.
use Rattle.std.proofs.Common.{◌≡◌, ℕ, List, [], map, Option, Some, ap, ◌∙◌, subst}
use Rattle.std.specs.List.{count_by}
use Rattle.drill_requests.specs.Texts.{drill_bytes}
use Rattle.sw_base.specs.Clock.{steps_from}
use Rattle.sw_base.specs.Link.{LinkState, opened}
use Rattle.swarm_cli.specs.Types.{Settings, PoolSettings}
use Rattle.swarm_model.specs.MachineState.{MachineState}
use Rattle.pool_doors.specs.Doors.{DoorState, IsFreshDoor}
use Rattle.swarm_http.specs.declared.connection_counts.ConnectionCounts.{ConnectionCounts}
use Rattle.swarm_http.specs.Exchange.{is_accepted}
use Rattle.swarm_http.specs.Answered.{KeepsDoor}
use Rattle.swarm_http.specs.Counting.{IsCounted}
use Rattle.swarm_history.specs.Machines.{logs_of, start_at, starts_of}
use Rattle.pool_summaries.specs.Summaries.{summary_of}
use Rattle.remote_commands.specs.Streams.{PrintsMade}
use Rattle.swarm_cli.specs.Drills.{Drills, drilled, drill_settings, drill_status, drill_text}
use Rattle.swarm_cli.specs.ServerWork.{BeginNew}
use Rattle.swarm_cli.proofs.Doing.{begins_there, told_of_door}
use Rattle.swarm_cli.proofs.Sessions.{fresh_of_nothing}

pub drilled_so : {M : Type 0} (kept : M → MachineState) (machines items : List M) (start cycles : ℕ) (input : List ℕ) (link last s t : LinkState) (ahead : ℕ → Option (List ℕ)) (status : ℕ)
    (settings : Settings) (pools : List PoolSettings) (counted : ConnectionCounts) {n : ℕ} {before after : DoorState}
    → KeepsDoor n before after → IsFreshDoor settings before.seen before → BeginNew settings.pools before.writer.starts → ((p : ℕ) → before.seen p ≡ []) → settings ≡ drill_settings → link ≡ opened (Some input) (Some [])
    → input ≡ drill_bytes start cycles
    → IsCounted (record { link = link; clock = λ k. Some (steps_from 1000 1 k); door = before }) (record { link = last; clock = ahead; door = after }) counted
    → machines ≡ items → ((p : ℕ) → start_at (starts_of (map kept items)) p ≡ after.writer.starts p) → ((p : ℕ) → logs_of (map kept items) p ≡ after.seen p) → pools ≡ settings.pools
    → PrintsMade (drill_text counted.requests counted.accepted (summary_of pools (start_at (starts_of (map kept machines))) (logs_of (map kept machines)))) (drill_status counted.ended) s t status
    → Drills start cycles s t status
drilled_so {M = M} kept machines items start cycles input link last s t ahead status settings pools counted {before = before} {after = after} keeps fresh new nothing are_drills link_is input_is counts are starts logs pools_are prints =
    let begun : link ≡ opened (Some (drill_bytes start cycles)) (Some []) = link_is ∙ ap (λ (l : List ℕ). opened (Some l) (Some [])) input_is in
    let k : IsCounted (record { link = opened (Some (drill_bytes start cycles)) (Some []); clock = λ k. Some (steps_from 1000 1 k); door = before }) (record { link = last; clock = ahead; door = after }) counted =
    subst (λ (l : LinkState). IsCounted (record { link = l; clock = λ k. Some (steps_from 1000 1 k); door = before }) (record { link = last; clock = ahead; door = after }) counted) begun counts in
    let summary =
    told_of_door summary_of settings before after pools (start_at (starts_of (map kept machines))) (logs_of (map kept machines)) pools_are fresh.settings_are
    (begins_there (start_at (starts_of (map kept machines))) keeps (λ p. ap (λ (l : List M). start_at (starts_of (map kept l)) p) are ∙ starts p))
    (λ p. ap (λ (l : List M). logs_of (map kept l) p) are ∙ logs p)
    ∙ ap (λ (x : Settings). summary_of x.pools before.writer.starts after.seen) (fresh.settings_are ∙ are_drills) in
    drilled (record {
      ended = counted.ended;
      last = last;
      ahead = ahead;
      before = before;
      after = after;
      fresh_door = subst (λ (x : Settings). IsFreshDoor x (λ p. []) before) are_drills (fresh_of_nothing fresh nothing);
      begins = subst (λ (x : Settings). BeginNew x.pools before.writer.starts) are_drills new;
      answered = k.answered;
      prints =
          subst (λ (x : ℕ). PrintsMade (drill_text x (count_by is_accepted k.answered.xs) (summary_of drill_settings.pools before.writer.starts after.seen)) (drill_status counted.ended) s t status) k.requests
          (subst (λ (x : ℕ). PrintsMade (drill_text counted.requests x (summary_of drill_settings.pools before.writer.starts after.seen)) (drill_status counted.ended) s t status) k.accepted
          (subst (λ (x : List ℕ). PrintsMade (drill_text counted.requests counted.accepted x) (drill_status counted.ended) s t status) summary prints));
    })
