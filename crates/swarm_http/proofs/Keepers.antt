-- The faults of keepers that the door counted, exchange by exchange.
use Rattle.std.proofs.Common.{Bool, true, false, ◌≡◌, ℕ, ◌+◌, ◌-◌, ◌^◌, ◌≤◌, List, [], ◌∷◌, ◌++◌, arith, subst, sym, Err}
use Rattle.std.specs.Bool.{MatchBool}
use Rattle.std.specs.List.{count_by}
use Rattle.std.specs.Prelude.{cond, min}
use Rattle.std.proofs.lemmas.List.Sums.{sum_by-append}
use Rattle.sw_base.specs.Faults.{Rose, RoseBy}
use Rattle.pool_doors.specs.declared.door.CallFault.{CallFault}
use Rattle.pool_doors.specs.declared.door.CallFault.TheVariants as stop
use Rattle.pool_doors.specs.Doors.{DoorState, CountsKeeper}
use Rattle.swarm_http.specs.Outcomes.{DoorCall, aborted, CountsStop}
use Rattle.swarm_http.specs.Exchange.{Exchange, fails_keeper}
use Rattle.swarm_http.specs.Answered.{KeepersFailed}

-- a call that stopped
pub stop_counted : (call : DoorCall) (why : CallFault) (before now : ℕ) → CountsKeeper (Err why) before now → before ≤ now → CountsStop (aborted call why) before now
stop_counted call stop.Memory before now counts grows = grows
stop_counted call stop.LogFull before now counts grows = grows
stop_counted call stop.Keeper before now counts grows = counts

min-add : (most m n a b c : ℕ) → min (a + m) most ≤ b → min (b + n) most ≤ c → min (a + (m + n)) most ≤ c
min-add most m n a b c p q = omega (arith, p, q)

RoseBy-trans : (m n a b c : ℕ) → RoseBy m a b → RoseBy n b c → RoseBy (m + n) a c
RoseBy-trans m n a b c p q = min-add (2 ^ 64 - 1) m n a b c p q

min-same : (most a b : ℕ) → a ≤ b → min (a + 0) most ≤ b
min-same most a b p = omega (arith, p)

RoseBy-none : (a b : ℕ) → a ≤ b → RoseBy 0 a b
RoseBy-none a b p = min-same (2 ^ 64 - 1) a b p

-- no request was answered
pub none_failed : (d : DoorState) → KeepersFailed [] d d
none_failed d = RoseBy-none d.faults d.faults (omega arith)

cond_failed : (b : Bool) (before now : ℕ) → MatchBool b (Rose before now) (before ≤ now) → RoseBy (cond b 1 0) before now
cond_failed true before now rose = rose
cond_failed false before now grows = RoseBy-none before now grows

-- one request was answered
pub one_failed : (x : Exchange) (d e : DoorState) → CountsStop x.outcome d.faults e.faults → KeepersFailed (x ∷ []) d e
one_failed x d e counts =
    let same : cond (fails_keeper x) 1 0 ≡ count_by fails_keeper (x ∷ []) = omega arith in
    subst (λ n. RoseBy n d.faults e.faults) same (cond_failed (fails_keeper x) d.faults e.faults counts)

-- some requests, and more after them
pub KeepersFailed-trans : (xs ys : List Exchange) (d e f : DoorState) → KeepersFailed xs d e → KeepersFailed ys e f → KeepersFailed (xs ++ ys) d f
KeepersFailed-trans xs ys d e f p q =
    subst (λ n. RoseBy n d.faults f.faults) (sym (sum_by-append (λ x. cond (fails_keeper x) 1 0) xs ys))
    (RoseBy-trans (count_by fails_keeper xs) (count_by fails_keeper ys) d.faults e.faults f.faults p q)
