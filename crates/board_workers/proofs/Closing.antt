-- Workers and boards that served, and the closed logs.
use Rattle.std.proofs.Common.{◌≡◌, ◌≢◌, ◌⊎◌, inl, inr, ℕ, ◌+◌, ◌<◌, ◌≤◌, ◌==◌, Bool, true, false, if◌then◌else◌, List, [], ◌∷◌, ◌++◌, length, map, Option, Some, refl, sym, ap, ◌∙◌, arith, subst, length-append, append_assoc}
use Rattle.std.specs.List.{All, AllZip, AllByRecursion, slice_get}
use Rattle.std.proofs.lemmas.Bool.{cases_lt, eq-eqb, eqb-true}
use Rattle.std.proofs.lemmas.List.{length-map}
use Rattle.std.proofs.lemmas.List.Elements.{All-nil, All-same, All-map, All-from_recursion}
use Rattle.sw_base.specs.Acceptors.{AcceptorState}
use Rattle.sw_base.specs.Listeners.{ListenerState, Gives}
use Rattle.board_workers.specs.Types.{Entry, PoolSettings, Settings, PoolView, WorkStop}
use Rattle.pool_doors.specs.Doors.{DoorState, Logs}
use Rattle.turnstile.specs.Numbers.{times, own}
use Rattle.shared_doors.specs.Joined.{by, IsAloneView}
use Rattle.shared_doors.specs.Views.{view_at}
use Rattle.swarm_workers.specs.Crews.{WorkerState, HasWorked, AreNewDoors, KnowsMade, ShutsAll, stop_of}
use Rattle.swarm_workers.specs.Shared.{AreRuns}
use Rattle.swarm_workers.specs.Splits.{IsNewPass}
use Rattle.swarm_workers.proofs.JoinedDoors.{times_all}
use Rattle.swarm_workers.proofs.Slices.{map_both}
use Rattle.swarm_workers.proofs.Numbering.{length_from, numbers_from, times_from}
use Rattle.swarm_workers.proofs.Running.{Holds, IsOfAll, are_runs, doors_of, is_of_all}
use Rattle.swarm_workers.proofs.Closing.{IsKept}
use Rattle.swarm_workers.proofs.Serving.{gives_told, pool_at}
use Rattle.board_workers.specs.Boards.{HasServedBoard, IsBoardRun, ServedBoard, new_view}
use Rattle.board_workers.specs.Crews.{Crew, ServesWithBoards}
use Rattle.board_workers.specs.Ends.{AreJoined, JoinsAll, ServeBeside}
use Rattle.board_workers.specs.Posts.{EachReads, OnlyReads}
use Rattle.board_workers.proofs.Views.{board_runs}

times_append : (k : ℕ) (xs ys : List ℕ) → times k (xs ++ ys) ≡ times k xs + times k ys
times_append k [] ys = omega arith
times_append k (n ∷ xs) ys = let rest = times_append k xs ys in omega (arith, rest)

-- ---- one place

-- a pass of one number that only read, and the log that it had seen none of
pub record IsReader (number : ℕ) (v : PoolView) : Type 0 where
  pub numbers : v.numbers ≡ number ∷ []
  pub none_own : own by number v.seen ≡ []

own_itself : (number : ℕ) → 0 < times number (number ∷ [])
own_itself number = grind (arith)

pub is_reader : (number : ℕ) (old new : PoolView) → IsNewPass number old → OnlyReads old new → IsReader number new
is_reader number old new n r = record {
  numbers = r.numbers ∙ n.numbers;
  none_own = r.no_own number (subst (λ (ns : List ℕ). 0 < times number ns) (sym n.numbers) (own_itself number)) ∙ ap (own by number) n.seen;
}

-- all passes are joined in one
pub record IsWhole (workers : ℕ) (v : PoolView) : Type 0 where
  pub alone : IsAloneView v
  pub numbers_are : v.numbers ≡ numbers_from 0 workers ++ workers ∷ []
  pub none_read : own by workers v.seen ≡ []

whole_of : (workers place : ℕ) (doors : List DoorState) (posts all : PoolView) (j : AreJoined place doors posts all) → IsOfAll (workers + 1) workers j.crew → IsReader workers posts → IsWhole workers all
whole_of workers place doors posts all j crew reader = record {
  alone = (omega (arith, j.joins.number, crew.number_is), ap length numbers ∙ length-append (numbers_from 0 workers) (workers ∷ []) ∙ ap (λ n. n + 1) (length_from 0 workers) ∙ sym made);
  numbers_are = numbers;
  none_read = j.joins.own_two workers (subst (λ (ns : List ℕ). 0 < times workers ns) (sym reader.numbers) (own_itself workers)) ∙ reader.none_own;
}
  where
    numbers : all.numbers ≡ numbers_from 0 workers ++ workers ∷ []
    numbers = j.joins.numbers ∙ ap (λ (ns : List ℕ). ns ++ posts.numbers) crew.numbers_are ∙ ap (λ (ns : List ℕ). numbers_from 0 workers ++ ns) reader.numbers

    made : all.made ≡ workers + 1
    made = j.joins.made ∙ ap (λ m. if m == 0 then j.crew.made else posts.made) crew.number_is ∙ crew.made_is

-- ---- the logs

-- none of these entries has the number
none_has : (k : ℕ) (log : List Entry) → own by k log ≡ [] → AllByRecursion (λ (e : Entry). e.pass ≢ k) log
none_has k [] none = tt
none_has k (e ∷ log) none = pick (e.pass == k) refl none (none_has k log)
  where
    pick : (b : Bool) → (e.pass == k) ≡ b → (if b then e ∷ own by k log else own by k log) ≡ [] → (own by k log ≡ [] → AllByRecursion (λ (e : Entry). e.pass ≢ k) log)
        → (e.pass ≢ k) × AllByRecursion (λ (e : Entry). e.pass ≢ k) log
    pick true is none rest = absurd (cc)
    pick false is none rest = (λ same. let yes = eq-eqb e.pass k same in absurd (cc), rest none)

below_or_last : (k n : ℕ) → 0 < times k (numbers_from 0 n ++ n ∷ []) → k ≢ n → k < n
below_or_last k n has other = pick (n == k) refl
  where
    sum : times k (numbers_from 0 n ++ n ∷ []) ≡ times k (numbers_from 0 n) + times k (n ∷ [])
    sum = times_append k (numbers_from 0 n) (n ∷ [])

    pick : (b : Bool) → (n == k) ≡ b → k < n
    pick true is = absurd (other (sym (eqb-true n k is)))
    pick false is = let none : times k (n ∷ []) ≡ 0 = ap (λ b. (if b then 1 else 0) + 0) is in let low = times_from k 0 n (omega (arith, sum, has, none)) in omega (arith, low)

each_below : (n : ℕ) (numbers : List ℕ) (log : List Entry) → numbers ≡ numbers_from 0 n ++ n ∷ [] → AllByRecursion (λ (e : Entry). 0 < times e.pass numbers) log → AllByRecursion (λ (e : Entry). e.pass ≢ n) log
    → AllByRecursion (λ (e : Entry). e.pass < n) log
each_below n numbers [] is listed others = tt
each_below n numbers (e ∷ log) is listed others = (
  below_or_last e.pass n (subst (λ (ns : List ℕ). 0 < times e.pass ns) is listed.0) others.0,
  each_below n numbers log is listed.1 others.1,
)

-- what the joined passes say of the doors, where each log is what they have seen
holds_all : (pools : ℕ) (logs : Logs) (doors : List DoorState) (posts all : List PoolView) → JoinsAll pools doors posts all → ((p : ℕ) → p < pools → logs p ≡ (view_at all p).seen) → Holds pools logs doors
holds_all pools logs doors posts all joined same = record {
  begins = λ p low i d within.
      let j = joined p low in
      let known = j.joined.begins i d within in
      let more = j.joins.begins_one in
      (known.0 ++ more.0, same p low ∙ more.1 ∙ ap (λ (l : List Entry). l ++ more.0) known.1 ∙ append_assoc _ known.0 more.0);
  own = λ p low i d within k has.
      let j = joined p low in
      ap (own by k) (same p low)
      ∙ j.joins.own_one k (subst (λ (ns : List ℕ). 0 < times k ns) (sym j.joined.numbers) (times_all k p doors i d within has))
      ∙ j.joined.own i d within k has;
}

-- ---- all of it

-- what the crews did, by what is told of them
pub beside_of : {W B : Type 0} (look : W → WorkerState) (board : B → ServedBoard) (connections board_connections pools : ℕ) (ws vs : List W) (bs cs : List B) (posts news : List PoolView)
    (before after : ListenerState) (all : List PoolView) (stopped : WorkStop)
    → AllZip (HasWorked connections) (map look ws) (map look vs) → AllZip (HasServedBoard board_connections) (map board bs) (map board cs) → EachReads pools posts news
    → JoinsAll pools (map (λ (w : W). (look w).door) vs) news all
    → ShutsAll (map (λ (w : W). (look w).acceptor) vs ++ map (λ (b : B). (board b).acceptor) cs) before after
    → stopped ≡ stop_of (map (λ (w : W). (look w).worked.stop) vs ++ map (λ (b : B). (board b).worked.stop) cs)
    → ServeBeside connections board_connections pools (map look ws) (map board bs) posts before after all stopped
beside_of {W = W} {B = B} look board connections board_connections pools ws vs bs cs posts news before after all stopped works board_works reads joined shuts stop = record {
  news = map look vs;
  new_boards = map board cs;
  new_posts = news;
  works = works;
  board_works = board_works;
  reads = reads;
  joined = subst (λ (ds : List DoorState). JoinsAll pools ds news all) (sym (map_both (λ (w : WorkerState). w.door) look vs)) joined;
  shuts = subst (λ (l : List AcceptorState). ShutsAll l before after)
      (sym (ap (λ (l : List AcceptorState). l ++ map (λ (b : ServedBoard). b.acceptor) (map board cs)) (map_both (λ (w : WorkerState). w.acceptor) look vs)
      ∙ ap (λ (l : List AcceptorState). map (λ (w : W). (look w).acceptor) vs ++ l) (map_both (λ (b : ServedBoard). b.acceptor) board cs))) shuts;
  stop_is = stop ∙ ap stop_of
      (sym (ap (λ (l : List WorkStop). l ++ map (λ (b : ServedBoard). b.worked.stop) (map board cs)) (map_both (λ (w : WorkerState). w.worked.stop) look vs)
      ∙ ap (λ (l : List WorkStop). map (λ (w : W). (look w).worked.stop) vs ++ l) (map_both (λ (b : ServedBoard). b.worked.stop) board cs)));
}

module _ (settings : Settings) (identity : ℕ → List ℕ) (connections board_connections n workers : ℕ) (olds : List WorkerState) (old_boards : List ServedBoard) (posts all : List PoolView)
    (before after : ListenerState) (stopped : WorkStop) (counted : length settings.pools ≡ n) (count : length olds ≡ workers)
    (served : ServeBeside connections board_connections n olds old_boards posts before after all stopped)
    (doors : AreNewDoors settings identity 0 (doors_of olds)) (known : KnowsMade settings (workers + 1) (doors_of olds)) (some : 0 < workers)
    (reader : (p : ℕ) → p < n → IsNewPass workers (view_at posts p)) where
  -- all passes are joined
  pub whole_at : (p : ℕ) → p < length settings.pools → IsWhole workers (view_at all p)
  whole_at p low =
      let inside = subst (λ k. p < k) counted low in
      let j = served.joined p inside in
      whole_of workers p (doors_of served.news) (view_at served.new_posts p) (view_at all p) j
      (subst (λ k. IsOfAll (workers + 1) k j.crew) count
      (is_of_all settings identity connections (workers + 1) p olds served.news j.crew doors served.works known (omega (arith, count, some)) low j.joined j.first))
      (is_reader workers (view_at posts p) (view_at served.new_posts p) (reader p inside) (served.reads p inside))

  module _ (logs : Logs) (kept : (p : ℕ) (pool : PoolSettings) → slice_get settings.pools p ≡ Some pool → IsKept pool (view_at all p) (logs p)) (past : (p : ℕ) → length settings.pools ≤ p → logs p ≡ []) where
    seen_at : (p : ℕ) → p < length settings.pools → logs p ≡ (view_at all p).seen
    seen_at p low = let at = pool_at settings.pools p low in (kept p at.0 at.1).seen

    below_at : (p : ℕ) → All (λ (e : Entry). e.pass < workers) (logs p)
    below_at p = pick (cases_lt p (length settings.pools))
      where
        inside : p < length settings.pools → All (λ (e : Entry). e.pass < workers) (logs p)
        inside low =
            let at = pool_at settings.pools p low in
            let w = whole_at p low in
            All-from_recursion (λ (e : Entry). e.pass < workers) (logs p)
            (each_below workers (view_at all p).numbers (logs p) w.numbers_are (kept p at.0 at.1).listed
            (none_has workers (logs p) (ap (own by workers) (seen_at p low) ∙ w.none_read)))

        pick : (p < length settings.pools) ⊎ (length settings.pools ≤ p) → All (λ (e : Entry). e.pass < workers) (logs p)
        pick (inl low) = inside low
        pick (inr le) = All-same (λ (e : Entry). e.pass < workers) (logs p) [] (past p le) (All-nil (λ (e : Entry). e.pass < workers))

    -- what the crews did, told of the closed logs
    pub crews_served : (crew boards : Crew) (clock : ℕ → Option (List ℕ)) (first between : ListenerState) → crew.connections ≡ connections → boards.connections ≡ board_connections
        → Gives (λ (given : AcceptorState). given) (map (λ (w : WorkerState). w.acceptor) olds) crew.address first between crew.number
        → Gives (λ (given : AcceptorState). given) (map (λ (b : ServedBoard). b.acceptor) old_boards) boards.address between before boards.number
        → All (λ (w : WorkerState). w.clock ≡ clock) olds → AllZip (IsBoardRun settings board_connections) old_boards served.new_boards
        → ServesWithBoards crew boards settings clock first after logs stopped
    crews_served crew boards clock first between same board_same gives gives_boards clocks board_runs = record {
      identity = identity;
      between = between;
      listening = before;
      olds = olds;
      news = served.news;
      old_boards = old_boards;
      new_boards = served.new_boards;
      gives = gives;
      gives_boards = gives_boards;
      runs = subst (λ k. AreRuns settings identity clock k logs 0 olds served.news) (sym same)
          (are_runs settings identity clock connections logs 0 olds served.news doors clocks served.works
          (holds_all (length settings.pools) logs (doors_of served.news) served.new_posts all (λ p low. served.joined p (subst (λ k. p < k) counted low)) seen_at));
      board_runs = subst (λ k. AllZip (IsBoardRun settings k) old_boards served.new_boards) (sym board_same) board_runs;
      shuts = served.shuts;
      legal = λ p pool is. (kept p pool is).legal;
      no_others = λ p. subst (λ k. All (λ (e : Entry). e.pass < k) (logs p)) (sym count ∙ sym (length-map olds (λ (w : WorkerState). w.acceptor)) ∙ gives.number) (below_at p);
      stop_is = served.stop_is;
    }

-- the same of any kind of worker and of board whose state can be told
module _ {W B : Type 0} (look : W → WorkerState) (board : B → ServedBoard) (settings : Settings) (identity : ℕ → List ℕ) (connections board_connections n workers : ℕ) (ws : List W) (bs : List B)
    (posts all : List PoolView) (before after : ListenerState) (stopped : WorkStop) (counted : length settings.pools ≡ n) (count : length ws ≡ workers)
    (served : ServeBeside connections board_connections n (map look ws) (map board bs) posts before after all stopped)
    (doors : AreNewDoors settings identity 0 (map (λ (w : W). (look w).door) ws)) (known : KnowsMade settings (workers + 1) (map (λ (w : W). (look w).door) ws)) (some : 0 < workers)
    (reader : (p : ℕ) → p < n → IsNewPass workers (view_at posts p)) where
  told : map (λ (w : W). (look w).door) ws ≡ doors_of (map look ws)
  told = sym (map_both (λ (w : WorkerState). w.door) look ws)

  pub crew_alone : (p : ℕ) → p < length settings.pools → IsAloneView (view_at all p)
  crew_alone p low =
      (whole_at settings identity connections board_connections n workers (map look ws) (map board bs) posts all before after stopped counted (length-map ws look ∙ count) served
      (subst (AreNewDoors settings identity 0) told doors) (subst (KnowsMade settings (workers + 1)) told known) some reader p low).alone

  pub crew_served : {A : Type 0} (state : A → AcceptorState) (given board_given : List A) (s : Settings) (crew boards : Crew) (clock : ℕ → Option (List ℕ)) (first between : ListenerState) (logs : Logs)
      → settings ≡ s → crew.connections ≡ connections → boards.connections ≡ board_connections
      → Gives state given crew.address first between crew.number → Gives state board_given boards.address between before boards.number
      → map (λ (w : W). (look w).acceptor) ws ≡ map state given → map (λ (b : B). (board b).acceptor) bs ≡ map state board_given
      → All (λ (w : W). (look w).clock ≡ clock) ws → All (λ (b : B). (board b).views ≡ map new_view s.pools) bs
      → ((p : ℕ) (pool : PoolSettings) → slice_get settings.pools p ≡ Some pool → IsKept pool (view_at all p) (logs p)) → ((p : ℕ) → length settings.pools ≤ p → logs p ≡ [])
      → ServesWithBoards crew boards s clock first after logs stopped
  crew_served state given board_given s crew boards clock first between logs is same board_same gives gives_boards acceptors board_acceptors clocks views kept past =
      subst (λ (x : Settings). ServesWithBoards crew boards x clock first after logs stopped) is
      (crews_served settings identity connections board_connections n workers (map look ws) (map board bs) posts all before after stopped counted (length-map ws look ∙ count) served
      (subst (AreNewDoors settings identity 0) told doors) (subst (KnowsMade settings (workers + 1)) told known) some reader logs kept past
      crew boards clock first between same board_same
      (gives_told state given (map (λ (w : WorkerState). w.acceptor) (map look ws)) crew.address first between crew.number (map_both (λ (w : WorkerState). w.acceptor) look ws ∙ acceptors) gives)
      (gives_told state board_given (map (λ (b : ServedBoard). b.acceptor) (map board bs)) boards.address between before boards.number (map_both (λ (b : ServedBoard). b.acceptor) board bs ∙ board_acceptors) gives_boards)
      (All-map (λ (w : WorkerState). w.clock ≡ clock) look ws clocks)
      (subst (λ (x : Settings). AllZip (IsBoardRun x board_connections) (map board bs) served.new_boards) (sym is) (board_runs board s board_connections bs served.new_boards views served.board_works)))
