-- What is known of a pool with a log, and of the entry that lies ready in it.
use Rattle.std.proofs.Common.{◌≡◌, ℕ, ◌+◌, ◌-◌, ◌≤◌, ◌^◌, true, false, List, [], Option, Some, Result, Ok, Err, is_err, IfSome, IsTrue, sym, ap, ◌∙◌, subst, arith, length}
use Rattle.std.specs.Prelude.{OnErr, OnOk}
use Rattle.std.specs.List.{sum_by}
use Rattle.swarm_model.specs.declared.pool_settings.PoolSettings.{PoolSettings}
use Rattle.swarm_model.specs.declared.pool_state.PoolState.{PoolState}
use Rattle.swarm_model.specs.declared.entry.Entry.{Entry}
use Rattle.swarm_model.specs.Bases.{Base}
use Rattle.swarm_model.specs.BaseRules.{IsBase}
use Rattle.swarm_model.specs.Bytes.{HeldBytes}
use Rattle.swarm_model.specs.Entries.{weight}
use Rattle.swarm_model.specs.MachineState.{MachineState, IsHistory}
use Rattle.swarm_model.specs.Settings.{keeps_rules}
use Rattle.swarm_model.specs.StateWeight.{state_weight}
use Rattle.swarm_model.specs.Words.{capped}
use Rattle.pool_log.specs.declared.logged_pool.LoggedPool.TheInside.{Inside}
use Rattle.pool_log.specs.Plain.{KeptPool, machine_of}
use Rattle.pool_log.specs.Reached.{IsReplayOf}
use Rattle.pool_log.specs.Invariant.{start_of, IsReady, IsKept}
use Rattle.pool_log.proofs.Limits.{rules_of}

pub history_of : (kept same : KeptPool) → kept ≡ same → IsReplayOf kept.start kept.log kept.pool → IsHistory (machine_of same)
history_of kept same is replay_of =
    subst (λ (pool : KeptPool). IsHistory (machine_of pool)) is (record { base = replay_of.base; replayed = replay_of.replayed; legal = replay_of.legal })

-- what lies ready is the entry for which it does
pub ready_for : {R : Type 0} (s : PoolState) (ready : Option Entry) (pool : Inside R) (entry : Entry) → IsKept s ready pool → ready ≡ Some entry → IsReady pool entry
ready_for s ready pool entry kept is = subst (λ (o : Option Entry). IfSome o (IsReady pool)) is kept.prepared

-- what is kept holds where the rows stand for the same state and the log has the same entries
pub kept_same : {R : Type 0} (s new : PoolState) (ready now : Option Entry) (old pool : Inside R) → IsKept s ready old → new ≡ s → start_of pool ≡ start_of old → pool.log.items ≡ old.log.items → pool.weight ≡ old.weight →
    IfSome now (IsReady pool) → IsKept new now pool
kept_same s new ready now old pool kept same start items total prepared =
    let from = sym start in
    let entries = sym items in
    record {
      replay_of = subst (λ (b : Base). IsReplayOf b pool.log.items new) from
          (subst (λ (l : List Entry). IsReplayOf (start_of old) l new) entries
          (subst (IsReplayOf (start_of old) old.log.items) (sym same) kept.replay_of));
      weighs = total ∙ kept.weighs ∙ (λ i. state_weight (from i).rows + sum_by weight (entries i));
      prepared = prepared;
    }

-- a weight that is told, and for which there is room, is the weight itself
pub weighs_own : (start : Base) (log : List Entry) (s : PoolState) (own told total : ℕ) → IsReplayOf start log s → told ≡ capped own → told ≤ start.rows.settings.most_weight - total → told ≡ own
weighs_own start log s own told total is capped_is low =
    let same = ap (λ (p : PoolSettings). p.most_weight) is.base.own in
    let most = (rules_of s.settings is.rules).most_weight in
    omega (arith, capped_is, low, same, most)

-- what holds of a result that is an error, or is none
pub on_err : {T E : Type 0} {A : Type 0} (r : Result T E) → is_err r ≡ true → OnErr r A → A
on_err (Ok v) is a = absurd (cc (is))
on_err (Err e) is a = a

pub on_ok : {T E : Type 0} {A : Type 0} (r : Result T E) → is_err r ≡ false → OnOk r A → A
on_ok (Ok v) is a = a
on_ok (Err e) is a = absurd (cc (is))

-- an empty log weighs what the rows weigh from which it begins, and these weigh little
pub weight_of_base : (base : PoolState) (count total : ℕ) (log : List Entry) → IsTrue (keeps_rules base.settings) → IsBase base.settings count base → total ≡ capped (state_weight base) → log ≡ [] →
    total ≡ state_weight base + sum_by weight log
weight_of_base base count total log rules is_base is none =
    let most = (rules_of base.settings rules).most_weight in
    let light = is_base.light in
    let nothing = ap (sum_by weight) none in
    omega (arith, is, nothing, most, light)

-- a log and the entries before it are few
pub few_in_all : (start : Base) (log : List Entry) (s : PoolState) → IsReplayOf start log s → start.count + length log ≤ 2 ^ 32
few_in_all start log s is =
    let count = is.base.few in
    let few = is.legal.few in
    let same = ap (λ (p : PoolSettings). p.most_entries) is.base.own in
    let most = (rules_of s.settings is.rules).most_entries in
    omega (arith, count, few, same, most)

-- what a machine keeps is the same where each part is
pub same_machine : {a b : Base} {s t : PoolState} {log more : List Entry} {ready other : Option Entry} {held holds : HeldBytes} → a ≡ b → s ≡ t → log ≡ more → ready ≡ other → held ≡ holds →
    (let x : MachineState = record { start = a; pool = s; log = log; ready = ready; held = held } in x)
    ≡ (let x : MachineState = record { start = b; pool = t; log = more; ready = other; held = holds } in x)
same_machine by_start by_state by_log by_ready by_held =
    λ i. let x : MachineState = record { start = by_start i; pool = by_state i; log = by_log i; ready = by_ready i; held = by_held i } in x
