-- A call of one pass among several.
use Rattle.std.proofs.Common.{◌≡◌, ℕ, zero, suc, ◌+◌, ◌<◌, ◌≤◌, false, List, [], ◌∷◌, map, length, get_or, set, refl, arith, ap, sym, subst, ◌∙◌, Option, Some, None, Result, Ok, Err, IsTrue}
use Rattle.std.specs.Prelude.{IfSome, IsSomeAnd, IsErrOf, slice_get}
use Rattle.std.specs.List.{All}
use Rattle.std.proofs.lemmas.List.{get_or-map, get_or_default, length-map}
use Rattle.std.proofs.Math.Seq.{map-set_same}
use Rattle.swarm_keeper.specs.Tables.{Tables}
use Rattle.shared_doors.specs.Types.{Entry, PoolSettings, Request, Answered, CallFault, Pass, Turnstile}
use Rattle.swarm_model.specs.Bases.{Base, empty_base}
use Rattle.swarm_model.specs.Fits.{fits}
use Rattle.swarm_model.specs.Points.{Call, Growth}
use Rattle.pool_doors.specs.declared.door.CallFault.TheVariants as fault
use Rattle.pool_doors.specs.Doors.{CountsKeeper, HasLines, HasNoOthers, HasNoOthersAt, IsPoolCall, IsCall, Logs, Writer}
use Rattle.swarm_history.specs.Machines.{no_pool}
use Rattle.turnstile.specs.Passes.{fixed_of, number, seen, told, turns}
use Rattle.shared_doors.specs.declared.view.Lasting.{Lasting}
use Rattle.shared_doors.specs.declared.view.PoolView.{PoolView}
use Rattle.shared_doors.specs.Lasting.{IsStanding}
use Rattle.shared_doors.specs.SharedDoors.{IsTurnCall, identities_of, most_of, pools_of, shared_door, start_of}
use Rattle.shared_doors.specs.Views.{AreOf, look, nothing, view_at, view_or, views}
use Rattle.shared_doors.proofs.ByPlace.{changed_at, seen_at, stays_at, views_back}

most_at : (vs : List PoolView) (place : ℕ) → place < length vs → (view_at vs place).turns ≤ most_of (map (λ (v : PoolView). v.turns) vs)
most_at [] place low = absurd (omega arith)
most_at (v ∷ vs) zero low = omega arith
most_at (v ∷ vs) (suc place) low = let rest = most_at vs place (omega (arith, low)) in omega (arith, rest)

-- one turn more at a place is at most one more in all
most_set : (vs : List PoolView) (place : ℕ) (w : PoolView) → w.turns ≡ (view_at vs place).turns + 1
    → most_of (map (λ (v : PoolView). v.turns) (set vs place w)) ≤ most_of (map (λ (v : PoolView). v.turns) vs) + 1
most_set [] place w more = omega arith
most_set (v ∷ vs) zero w more = omega (arith, more)
most_set (v ∷ vs) (suc place) w more = let rest = most_set vs place w more in omega (arith, rest)

-- what holds of the pool at a place
and_at : (Q : PoolSettings → Type 0) (pools : List PoolSettings) (place : ℕ) (pool : PoolSettings) → place < length pools → get_or pools place pool ≡ pool → Q pool
    → IsSomeAnd (slice_get pools place) Q
and_at Q [] place pool low at holds = absurd (omega arith)
and_at Q (p ∷ pools) zero pool low at holds = subst Q (sym at) holds
and_at Q (p ∷ pools) (suc place) pool low at holds = and_at Q pools place pool (omega (arith, low)) at holds

from_at : (Q : PoolSettings → Type 0) (pools : List PoolSettings) (place : ℕ) (pool : PoolSettings) → get_or pools place pool ≡ pool → IsSomeAnd (slice_get pools place) Q → Q pool
from_at Q [] place pool at holds = absurd holds
from_at Q (p ∷ pools) zero pool at holds = subst Q at holds
from_at Q (p ∷ pools) (suc place) pool at holds = from_at Q pools place pool at holds

abbrev untold : PoolSettings → Option Tables
untold pool = None

none_at : (P : Option Tables → Type 0) (all : List PoolSettings) (p : ℕ) → P None → IfSome (slice_get (map untold all) p) P
none_at P [] p holds = tt
none_at P (pool ∷ all) zero holds = holds
none_at P (pool ∷ all) (suc p) holds = none_at P all p holds

none_of : (o : Option PoolSettings) (all : List PoolSettings) (starts : ℕ → Base) (logs : Logs) (p : ℕ)
    → IfSome o (λ pool. IfSome (slice_get (map untold all) p) (λ told. HasNoOthers (starts p) told (logs p)))
none_of None all starts logs p = tt
none_of (Some pool) all starts logs p = none_at (λ told. HasNoOthers (starts p) told (logs p)) all p tt

-- keepers that tell nothing have no other blobs
none_told : (pools : List PoolSettings) (starts : ℕ → Base) (logs : Logs) (p : ℕ) → HasNoOthersAt pools starts (map untold pools) logs p
none_told pools starts logs p = none_of (slice_get pools p) pools starts logs p

never_keeper : (result : Result Answered CallFault) (before now : ℕ) → ¬ IsErrOf result fault.Keeper → CountsKeeper result before now
never_keeper (Ok answered) before now never = tt
never_keeper (Err fault.Memory) before now never = tt
never_keeper (Err fault.LogFull) before now never = tt
never_keeper (Err fault.Keeper) before now never = absurd (never refl)

abbrev numbered : List PoolSettings → (ℕ → List ℕ) → List ℕ → (ℕ → List ℕ) → (ℕ → ℕ) → Writer
numbered pools logs ns joined made = record { starts = start_of pools; numbers = λ p. get_or ns p 0; alone = false; logs = logs; joined = joined; made = made }

-- what a pass keeps is kept at each place
kept_at : {A : Type 0} (f : PoolView → A) (vs : List PoolView) (place : ℕ) (w : PoolView) → f w ≡ f (view_at vs place)
    → (p : ℕ) → f (view_at (set vs place w) p) ≡ f (view_at vs p)
kept_at f [] place w same p = refl
kept_at f (v ∷ vs) zero w same zero = same
kept_at f (v ∷ vs) zero w same (suc p) = refl
kept_at f (v ∷ vs) (suc place) w same zero = refl
kept_at f (v ∷ vs) (suc place) w same (suc p) = kept_at f vs place w same p

-- a pass that keeps its numbers leaves how the door writes
same_writer : (store : Option (List ℕ)) (pools : List PoolSettings) (logs : ℕ → List ℕ) (vs : List PoolView) (place : ℕ) (w : PoolView)
    → w.number ≡ (view_at vs place).number → w.numbers ≡ (view_at vs place).numbers → w.made ≡ (view_at vs place).made
    → (shared_door store pools logs (set vs place w)).writer ≡ (shared_door store pools logs vs).writer
same_writer store pools logs vs place w number numbers made =
    let joined_now : ℕ → List ℕ = λ p. (view_at (set vs place w) p).numbers in
    let joined_same : joined_now ≡ (λ p. (view_at vs p).numbers) = λ i p. kept_at (λ (v : PoolView). v.numbers) vs place w numbers p i in
    let made_now : ℕ → ℕ = λ p. (view_at (set vs place w) p).made in
    let made_same : made_now ≡ (λ p. (view_at vs p).made) = λ i p. kept_at (λ (v : PoolView). v.made) vs place w made p i in
    ap (λ (l : List ℕ). numbered pools logs l joined_now made_now) (map-set_same (λ (v : PoolView). v.number) vs place w nothing number)
    ∙ ap (λ (f : ℕ → List ℕ). numbered pools logs (map (λ (v : PoolView). v.number) vs) f made_now) joined_same
    ∙ ap (λ (f : ℕ → ℕ). numbered pools logs (map (λ (v : PoolView). v.number) vs) (λ p. (view_at vs p).numbers) f) made_same

-- a call of the pool at a place is one of a log that begins where nothing led to
call_at : (pools : List PoolSettings) (place : ℕ) (pool : PoolSettings) (call : Call) (old new : List Entry) (growth : Growth) (result : Result Answered CallFault)
    → place < length pools → get_or pools place pool ≡ pool → IsPoolCall (empty_base pool) false call old new growth result
    → IsSomeAnd (slice_get pools place) (λ p. IsPoolCall (start_of pools place) false call old new growth result)
call_at pools place pool call old new growth result low at did =
    and_at (λ p. IsPoolCall (start_of pools place) false call old new growth result) pools place pool low at
    (subst (λ (p : PoolSettings). IsPoolCall (empty_base p) false call old new growth result) (sym (get_or_default pools place no_pool pool low ∙ at)) did)

called : (store : Option (List ℕ)) (pools : List PoolSettings) (logs : ℕ → List ℕ) (vs : List PoolView) (place : ℕ) (call : Call) (result : Result Answered CallFault) (pool : PoolSettings) (w : PoolView)
    → place < length pools → place < length vs → get_or pools place pool ≡ pool
    → w ≡ record (view_at vs place) { turns = (view_at vs place).turns + 1; seen = w.seen } → ¬ IsErrOf result fault.Keeper
    → (growth : Growth) → IsPoolCall (empty_base pool) false call (view_at vs place).seen w.seen growth result
    → IsCall (shared_door store pools logs vs) (shared_door store pools logs (set vs place w)) place call result
called store pools logs vs place call result pool w low low_view at next never growth did = record {
  growth = growth;
  done = call_at pools place pool call (view_at vs place).seen (view_at (set vs place w) place).seen growth result low at
      (subst (λ (v : PoolView). IsPoolCall (empty_base pool) false call (view_at vs place).seen v.seen growth result) (sym (changed_at vs (set vs place w) place w low_view refl)) did);
  elsewhere = λ p other. ap (λ (v : PoolView). v.seen) (stays_at vs (set vs place w) place w refl p other);
  kept = record { lines = λ p has. none_at (λ told. HasLines told (view_at (set vs place w) p).seen) pools p tt; bases = refl };
  no_other_blobs = λ p has. none_told pools (start_of pools) (λ q. (view_at (set vs place w) q).seen) p;
  settings = refl;
  writer = same_writer store pools logs vs place w (ap (λ (v : PoolView). v.number) next) (ap (λ (v : PoolView). v.numbers) next) (ap (λ (v : PoolView). v.made) next);
  faults = omega arith;
  keeper = never_keeper result 0 0 never;
  calls = most_set vs place w (ap (λ (v : PoolView). v.turns) next);
}

-- the place of a pool is that of its turnstile
pub low_at : {V : Type 0} (fixed : V → Lasting) (ts : List (Turnstile V Entry Lasting)) (place : ℕ)
    → place < length (pools_of fixed ts) → place < length ts
low_at {V = V} fixed ts place low = omega (arith, low, length-map ts (λ (u : Turnstile V Entry Lasting). (fixed_of fixed u).settings))

-- the pass at a place, and its turnstile
module _ {V : Type 0} (fixed : V → Lasting) (ts : List (Turnstile V Entry Lasting)) (items : List (Option (Pass V Entry Lasting))) (place : ℕ) (t : Turnstile V Entry Lasting)
    (own : AreOf fixed ts items) (low : place < length ts) (at : t ≡ get_or ts place t) where
  pool_at : get_or (pools_of fixed ts) place (fixed_of fixed t).settings ≡ (fixed_of fixed t).settings
  pool_at = get_or-map (λ (u : Turnstile V Entry Lasting). (fixed_of fixed u).settings) ts place t (fixed_of fixed t).settings low ∙ ap (λ (u : Turnstile V Entry Lasting). (fixed_of fixed u).settings) (sym at)

  low_pools : place < length (pools_of fixed ts)
  low_pools = omega (arith, low, length-map ts (λ (u : Turnstile V Entry Lasting). (fixed_of fixed u).settings))

  -- where its log begins
  pub start_at : start_of (pools_of fixed ts) place ≡ empty_base (fixed_of fixed t).settings
  start_at = ap empty_base (get_or_default (pools_of fixed ts) place no_pool (fixed_of fixed t).settings low_pools ∙ pool_at)

  low_view : place < length (views items)
  low_view = omega (arith, low, own.count, length-map items view_or)

  pub fits_at : (request : Request) → IsSomeAnd (slice_get (pools_of fixed ts) place) (λ pool. IsTrue (fits pool request)) → IsTrue (fits (fixed_of fixed t).settings request)
  fits_at request fit = from_at (λ pool. IsTrue (fits pool request)) (pools_of fixed ts) place (fixed_of fixed t).settings pool_at fit

  pub standing_at : All (λ (u : Turnstile V Entry Lasting). IsStanding (fixed_of fixed u)) ts → IsStanding (fixed_of fixed t)
  standing_at all = subst (λ (u : Turnstile V Entry Lasting). IsStanding (fixed_of fixed u)) (sym at) (all place t low)

  -- it is the pass that was taken out
  module _ (pass : Pass V Entry Lasting) (is : get_or items place None ≡ Some pass) where
    here : view_at (views items) place ≡ look pass
    here = seen_at fixed ts items place pass own low is

    pub turns_at : (most : ℕ) → most_of (map (λ (v : PoolView). v.turns) (views items)) < most → turns pass < most
    turns_at most few =
        let one = most_at (views items) place low_view in
        let same = ap (λ (v : PoolView). v.turns) here in
        omega (arith, one, same, few)

    number_at : get_or (map (λ (v : PoolView). v.number) (views items)) place 0 ≡ number pass
    number_at = get_or-map (λ (v : PoolView). v.number) (views items) place nothing 0 low_view ∙ ap (λ (v : PoolView). v.number) here

    pub door_call : (store : Option (List ℕ)) (who : List ℕ) (moment : ℕ) (front : Option ℕ) (request : Request) (result : Result Answered CallFault) (next : Pass V Entry Lasting)
        → look next ≡ record (look pass) { turns = turns pass + 1; seen = seen next } → ¬ IsErrOf result fault.Keeper
        → IsTurnCall (empty_base (fixed_of fixed t).settings) (record { pass = number pass; caller = who; moment = moment; after = front; request = request }) (seen pass) (seen next) (told pass) result
        → IsCall (shared_door store (pools_of fixed ts) (identities_of ts) (views items)) (shared_door store (pools_of fixed ts) (identities_of ts) (views (set (set items place None) place (Some next)))) place
        (record { pass = get_or (map (λ (v : PoolView). v.number) (views items)) place 0; caller = who; moment = moment; after = front; request = request }) result
    door_call store who moment front request result next rest never did =
        let the_call : ℕ → Call = λ n. record { pass = n; caller = who; moment = moment; after = front; request = request } in
        let pool : PoolSettings = (fixed_of fixed t).settings in
        let old : List PoolView = views items in
        subst (λ n. IsCall (shared_door store (pools_of fixed ts) (identities_of ts) old) (shared_door store (pools_of fixed ts) (identities_of ts) (views (set (set items place None) place (Some next)))) place (the_call n) result) (sym number_at)
        (subst (λ vs. IsCall (shared_door store (pools_of fixed ts) (identities_of ts) old) (shared_door store (pools_of fixed ts) (identities_of ts) vs) place (the_call (number pass)) result) (sym (views_back fixed ts items place None next))
        (called store (pools_of fixed ts) (identities_of ts) old place (the_call (number pass)) result pool (look next) low_pools low_view pool_at
        (subst (λ (v : PoolView). look next ≡ record v { turns = v.turns + 1; seen = seen next }) (sym here) rest) never did.growth
        (subst (λ (v : PoolView). IsPoolCall (empty_base pool) false (the_call (number pass)) v.seen (seen next) did.growth result) (sym here) did.done)))
