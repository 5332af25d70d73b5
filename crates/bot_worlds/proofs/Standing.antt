-- What stands between the two ends gives the sentences on output and on starts.
use Rattle.std.proofs.Common.{◌≡◌, ◌≢◌, ◌⊎◌, inl, inr, ℕ, suc, ◌+◌, ◌≤◌, ◌<◌, ◌==◌, ◌^◌, nat_le, Bool, true, false, if◌then◌else◌, List, [], ◌∷◌, length, Option, Some, None, IfSome, refl, ap, sym, ◌∙◌, subst, arith, eqb-true}
use Rattle.std.specs.Prelude.{slice_get}
use Rattle.std.specs.List.{AllPairs}
use Rattle.std.specs.Option.{option_map}
use Rattle.std.proofs.lemmas.Bool.{eqb-false}
use Rattle.std.proofs.lemmas.List.Kept.{AllPairs-cons}
use Rattle.bot_worlds.specs.Types.{BotDims, BotLimits, BotState, Attempt, Chunk, Last, BotRow, Entry}
use Rattle.bot_core.specs.declared.action.StopWhy.TheVariants as why
use Rattle.bot_core.specs.declared.bot_event.BotEvent.TheVariants as event
use Rattle.bot_core.specs.Table.{opening, stepped, action_of, next_session, enter_stop}
use Rattle.swarm_model.specs.declared.entry.EntryKind.TheVariants as kind
use Rattle.swarm_model.specs.Bases.{Base}
use Rattle.swarm_model.specs.Finding.{bot_named, is_task}
use Rattle.swarm_model.specs.Output.{AreInRow}
use Rattle.swarm_model.specs.Soundness.{IsSound}
use Rattle.pool_laws.proofs.Lists.{Among, Found, all, find_is}
use Rattle.pool_laws.proofs.Lists.Among.{here, later}
use Rattle.pool_laws.proofs.Sound.{sound_replay}
use Rattle.log_laws.specs.Names.{name_of}
use Rattle.log_laws.specs.Runs.{HasEntry, TellsRun}
use Rattle.log_laws.proofs.NameLaw.{names_last, names_tell, new_names}
use Rattle.log_laws.proofs.RunLaw.{attempts_told}
use Rattle.bot_requests.specs.Bodies.{claim_name}
use Rattle.bot_worlds.specs.declared.child_run.ChildRun.{ChildRun}
use Rattle.bot_worlds.specs.declared.sent.Sent.{Sent}
use Rattle.bot_worlds.specs.declared.turn.Turn.{Turn}
use Rattle.bot_worlds.specs.Phases.{is_over}
use Rattle.bot_worlds.specs.World.{Begins, WorldState, request_of, sent_after, start_world}
use Rattle.bot_worlds.specs.Turns.{Played}
use Rattle.bot_worlds.specs.Invariant.{BotLog, log_of, rows_by, HasClaim, HasNewest, HasReport, IsBot, IsNumber, IsPiece, IsReport, IsReportedTo, IsTryOf, Reaches, CarriesOne, CarriesPiece, CarriesSome, IsBefore, AreBefore, Stands}
use Rattle.bot_worlds.specs.TwoEnds.{IsPrefix, IsRunBy, IsStart, OutputIsPrefix, StartsOnce, TwoEndsAgree, Wrote}
use Rattle.bot_worlds.proofs.ClaimNames.{names_apart}
use Rattle.bot_worlds.proofs.Feeding.{bounds_at}
use Rattle.bot_worlds.proofs.Grown.{among_one}
use Rattle.bot_worlds.proofs.Logs.{contains_of, one_number}
use Rattle.bot_worlds.proofs.Sending.{asks_after, report_carries}
use Rattle.bot_worlds.proofs.Tries.{one_try}
use Rattle.bot_worlds.proofs.Turning.{turned_stands}

-- ---- runs of one claim are one

-- the id of each earlier run is before that of the newest
before_of : (f x c : ℕ) (runs : List ChildRun) → AreBefore f x c runs → (r : ChildRun) → Among r runs → (a : ℕ) × (b : ℕ) × (r.claim ≡ claim_name f a b) × IsBefore a b x c × (a < 2 ^ 64) × (b < 2 ^ 64)
before_of f x c [] h r m = elim m [ ]
before_of f x c (run ∷ runs) h r here = (h.0, h.1, h.2, h.3, h.4, h.5)
before_of f x c (run ∷ runs) h r (later m) = let k = before_of f h.0 h.1 runs h.6 r m in (k.0, k.1, k.2, both k.0 k.1 h.0 h.1 k.3 h.3, k.4, k.5)
  where
    both : (a b u v : ℕ) → IsBefore a b u v → IsBefore u v x c → IsBefore a b x c
    both a b u v (inl p) (inl q) = inl (omega (arith, p, q))
    both a b u v (inl p) (inr q) = inl (let z = q.0 in omega (arith, p, z))
    both a b u v (inr p) (inl q) = inl (let z = p.0 in omega (arith, z, q))
    both a b u v (inr p) (inr q) = inr (p.0 ∙ q.0, let z = p.1 in let y = q.1 in omega (arith, z, y))

not_before : (x c : ℕ) → IsBefore x c x c → ⊥
not_before x c (inl h) = omega (arith, h)
not_before x c (inr h) = let z = h.1 in omega (arith, z)

-- no earlier run has the claim of the newest
apart_from : (f x c : ℕ) (run : ChildRun) (runs : List ChildRun) → AreBefore f x c (run ∷ runs) → (r : ChildRun) → Among r runs → run.claim ≢ r.claim
apart_from f x c run runs h r m e =
    let k = before_of f h.0 h.1 runs h.6 r m in
    let z = names_apart f h.0 h.1 k.0 k.1 h.4 h.5 k.4 k.5 (sym h.2 ∙ e ∙ k.2) in
    not_before h.0 h.1 (subst (λ a. IsBefore a h.1 h.0 h.1) (sym z.0) (subst (λ b. IsBefore k.0 b h.0 h.1) (sym z.1) k.3))

one_run : (f x c : ℕ) (runs : List ChildRun) → AreBefore f x c runs → (r q : ChildRun) → Among r runs → Among q runs → r.claim ≡ q.claim → r ≡ q
one_run f x c [] h r q m n e = elim m [ ]
one_run f x c (run ∷ runs) h r q here here e = refl
one_run f x c (run ∷ runs) h r q (later m) (later n) e = one_run f h.0 h.1 runs h.6 r q m n e
one_run f x c (run ∷ runs) h r q here (later n) e = absurd (apart_from f x c r runs h q n e)
one_run f x c (run ∷ runs) h r q (later m) here e = absurd (apart_from f x c q runs h r m (sym e))

are_apart : (f x c : ℕ) (runs : List ChildRun) → AreBefore f x c runs → AllPairs (λ (a b : ChildRun). a.claim ≢ b.claim) runs
are_apart f x c [] h = λ i j d less within. absurd (omega (arith, within))
are_apart f x c (run ∷ runs) h =
    AllPairs-cons (λ (a b : ChildRun). a.claim ≢ b.claim) run runs (all (λ (b : ChildRun). run.claim ≢ b.claim) runs (apart_from f x c run runs h)) (are_apart f h.0 h.1 runs h.6)

-- ---- the output of a run

-- the run of a task, where there is one
abbrev HasRunOf : List ChildRun → ℕ → Type 0
HasRunOf runs t = (run : ChildRun) × Among run runs × (run.task ≡ t)

abbrev HasNone : List ChildRun → ℕ → Type 0
HasNone runs t = (run : ChildRun) → Among run runs → run.task ≢ t

find_run : (t : ℕ) (runs : List ChildRun) → HasRunOf runs t ⊎ HasNone runs t
find_run t [] = inr (λ run m e. elim m [ ])
find_run t (r ∷ runs) = by_test (r.task == t) refl (find_run t runs)
  where
    by_among : (r.task == t) ≡ false → HasNone runs t → HasNone (r ∷ runs) t
    by_among h k run here e = eqb-false run.task t h e
    by_among h k run (later m) e = k run m e

    by_test : (b : Bool) → (r.task == t) ≡ b → HasRunOf runs t ⊎ HasNone runs t → HasRunOf (r ∷ runs) t ⊎ HasNone (r ∷ runs) t
    by_test true h k = inl (r, here, eqb-true r.task t h)
    by_test false h (inl k) = inl (k.0, later k.1, k.2)
    by_test false h (inr k) = inr (by_among h k)

some_run : (l : BotLog) (over : Bool) (runs : List ChildRun) (t n : ℕ) (chunk : Option Chunk) (last : Option Last) → CarriesSome l over runs t n chunk last → CarriesOne l runs t n chunk last
some_run l over [] t n chunk last h = absurd h
some_run l over (run ∷ runs) t n chunk last (inl h) = record { run = run; among = here; task = h.task; try_is = h.try_is; carries = h.carries }
some_run l over (run ∷ runs) t n chunk last (inr h) = record { run = h.run; among = later h.among; task = h.task; try_is = h.try_is; carries = h.carries }

-- chunks in a row that end below a length end there
row_within : (most from to : ℕ) (chunks : List Chunk) → AreInRow from chunks to → from ≤ most → ((c : Chunk) → Among c chunks → c.start + c.size ≤ most) → to ≤ most
row_within most from to [] h low each = omega (arith, h, low)
row_within most from to (c ∷ chunks) h low each =
    let e = h.0 in let k = each c here in row_within most (from + c.size) to chunks h.1 (omega (arith, e, k)) (λ x m. each x (later m))

-- an element has a place
place_of : {X : Type 0} (xs : List X) (x : X) → Among x xs → (i : ℕ) × (slice_get xs i ≡ Some x)
place_of [] x a = elim a [ ]
place_of (y ∷ xs) x here = (0, refl)
place_of (y ∷ xs) x (later a) = let k = place_of xs x a in (suc k.0, k.1)

abbrev Told : WorldState → ℕ → Attempt → Type 0
Told w t a = (started : ℕ) × (wrote : List ℕ) × Wrote w.runs a.claim t a.try_no started wrote × IsPrefix a started wrote

module _ (w : WorldState) (s : Stands w) (t : ℕ) (a : Attempt) (by : IsRunBy w t a) where
  abbrev l : BotLog
  l = log_of w

  sound : IsSound (rows_by l)
  sound = sound_replay l.start.rows l.log s.base.sound s.legal.caused

  row : Found (is_task t) (rows_by l).tasks by.task
  row = find_is (is_task t) (rows_by l).tasks by.task by.there

  numbered : by.task.no ≡ t
  numbered = eqb-true by.task.no t row.passes

  tells : TellsRun l.log t a
  tells =
      subst (λ k. TellsRun l.log k a) numbered
      (attempts_told l.start.rows l.log by.task a s.base.sound s.base.rows s.legal.caused (contains_of (rows_by l).tasks by.task row.among) by.run
      (new_names l.start.rows l.log a.bot l.name s.base.sound s.legal.caused s.stranger by.number))

  -- an entry of the bot is one of the run's bot
  of_bot : (b : ℕ) → IsNumber l b → b ≡ a.bot
  of_bot b h = one_number l sound b a.bot h by.number

  report_of : (n : ℕ) (chunk : Option Chunk) (last : Option Last) → HasReport l t n chunk last → HasEntry l.log (kind.Update a.bot t n chunk last)
  report_of n chunk last h = subst (λ b. HasEntry l.log (kind.Update b t n chunk last)) (of_bot h.b h.number) h.entry

  has_report : (n : ℕ) (chunk : Option Chunk) (last : Option Last) → HasEntry l.log (kind.Update a.bot t n chunk last) → HasReport l t n chunk last
  has_report n chunk last h = record { b = a.bot; number = by.number; entry = h }

  -- a report of the task that the log has carries what some run of the task wrote
  carried_by : (n : ℕ) (chunk : Option Chunk) (last : Option Last) → HasReport l t n chunk last → CarriesOne l w.runs t n chunk last
  carried_by n chunk last h = let k = s.log t n chunk last h in some_run l (is_over w.bot.phase) w.runs t n chunk last (s.sent k.0 k.1 t n chunk last k.2)

  claim_of : (run : ChildRun) → Among run w.runs → run.task ≡ t → run.claim ≡ a.claim
  claim_of run m e =
      let c = (s.runs run m).claimed in
      tells.only run.claim (subst (λ k. HasEntry l.log (kind.Claim a.bot k run.claim)) e (subst (λ b. HasEntry l.log (kind.Claim b run.task run.claim)) (of_bot c.b c.number) c.entry))

  try_of : (run : ChildRun) → Among run w.runs → run.task ≡ t → run.try_no ≡ a.try_no
  try_of run m e =
      let c = (s.runs run m).claimed in
      one_try l s.base.sound s.legal.caused by.task row.among a run.try_no by.run
      (subst (λ k. IsTryOf l k run.try_no a.bot) (e ∙ sym numbered) (subst (λ b. IsTryOf l run.task run.try_no b) (of_bot c.b c.number) c.is_try))

  module _ (run : ChildRun) (m : Among run w.runs) (e : run.task ≡ t) where
    carries : (n : ℕ) (chunk : Option Chunk) (last : Option Last) → HasReport l t n chunk last → CarriesPiece l run.wrote t n chunk last
    carries n chunk last h =
        let c = carried_by n chunk last h in
        let same : c.run ≡ run = one_run w.bot.first w.bot.session (w.bot.claim + 1) w.runs s.numbered.0 c.run run c.among m (claim_of c.run c.among c.task ∙ sym (claim_of run m e)) in
        subst (λ (r : ChildRun). CarriesPiece l r.wrote t n chunk last) same c.carries

    pieces : (c : Chunk) → Among c a.chunks → IsPiece run.wrote c
    pieces c k = let z = tells.chunks c (contains_of a.chunks c k) in (carries a.try_no (Some c) z.0 (has_report a.try_no (Some c) z.0 z.1)).piece

    within : a.length ≤ length run.wrote
    within = row_within (length run.wrote) 0 a.length a.chunks tells.in_row (omega arith) (λ c k. (pieces c k).within)

    -- each chunk that the log has lies within what is kept
    reached : (n : ℕ) (c : Chunk) (last : Option Last) → HasReport l t n (Some c) last → c.start + c.size ≤ a.length
    reached n c last h =
        let k = report_of n (Some c) last h in
        tells.reached c last (subst (λ j. HasEntry l.log (kind.Update a.bot t j (Some c) last)) (tells.tried n (Some c) last k) k)

    reported_within : (n end : ℕ) → IsReportedTo l t n end → end ≤ a.length
    reported_within n end (inl h) = omega (arith, h)
    reported_within n end (inr h) = let k = reached n h.0 h.1 h.2 in let z = h.3 in omega (arith, k, z)

    reaches : (n : ℕ) (chunk : Option Chunk) (last : Option Last) → HasReport l t n chunk last → Reaches l t n (length run.wrote) chunk → length run.wrote ≤ a.length
    reaches n None last k h = reported_within n (length run.wrote) h
    reaches n (Some c) last k h = let z = reached n c last k in omega (arith, z, h)

    whole : (last : Option Last) → IfSome last (λ report. HasEntry l.log (kind.Update a.bot t a.try_no a.last_chunk (Some report))) → IfSome last (λ report. report.dropped ≡ 0 → a.length ≡ length run.wrote)
    whole None h = tt
    whole (Some report) h = λ z.
        let r = has_report a.try_no a.last_chunk (Some report) h in
        let low = within in
        let high = reaches a.try_no a.last_chunk (Some report) r ((carries a.try_no a.last_chunk (Some report) r).whole z) in omega (arith, low, high)

    of_run : Told w t a
    of_run =
        let i = place_of w.runs run m in (
          run.started,
          run.wrote,
          inl (i.0, run, i.1, record { claim_is = claim_of run m e; task_is = e; try_is = try_of run m e; started_is = refl; wrote_is = refl }),
          record {
            pieces = all (IsPiece run.wrote) a.chunks pieces;
            within = within;
            empty = λ z. let none : length run.wrote ≡ 0 = ap (λ (x : List ℕ). length x) ((s.runs run m).idle z) in let k = within in omega (arith, none, k);
            whole = whole a.last tells.last;
          },
        )

  -- a run of which the bot was never told has no output
  module _ (none : HasNone w.runs t) where
    nothing : (c : Chunk) → Among c a.chunks → ⊥
    nothing c k =
        let z = tells.chunks c (contains_of a.chunks c k) in let y = carried_by a.try_no (Some c) z.0 (has_report a.try_no (Some c) z.0 z.1) in none y.run y.among y.task

    short : a.length ≤ 0
    short = row_within 0 0 a.length a.chunks tells.in_row (omega arith) (λ c k. absurd (nothing c k))

    no_last : (last : Option Last) → IfSome last (λ report. HasEntry l.log (kind.Update a.bot t a.try_no a.last_chunk (Some report))) → IfSome last (λ report. report.dropped ≡ 0 → a.length ≡ 0)
    no_last None h = tt
    no_last (Some report) h = λ z. absurd (let y = carried_by a.try_no a.last_chunk (Some report) (has_report a.try_no a.last_chunk (Some report) h) in none y.run y.among y.task)

    of_none : Told w t a
    of_none = (
      0,
      [],
      inr (all (λ (run : ChildRun). run.task ≡ t → run.try_no ≢ a.try_no) w.runs (λ run m e k. none run m e), refl, refl),
      record {
        pieces = all (IsPiece []) a.chunks (λ c k. absurd (nothing c k));
        within = short;
        empty = λ z. let k = short in omega (arith, k);
        whole = no_last a.last tells.last;
      },
    )

  output : Told w t a
  output = by_run (find_run t w.runs)
    where
      by_run : HasRunOf w.runs t ⊎ HasNone w.runs t → Told w t a
      by_run (inl h) = of_run h.0 h.1 h.2
      by_run (inr h) = of_none h

pub stands_output : (w : WorldState) → Stands w → OutputIsPrefix w
stands_output w s t a by = output w s t a by

pub stands_starts : (w : WorldState) → Stands w → StartsOnce w
stands_starts w s = record {
  apart = are_apart w.bot.first w.bot.session (w.bot.claim + 1) w.runs s.numbered.0;
  once = all (λ (run : ChildRun). run.started ≤ 1) w.runs (λ run m. (s.runs run m).once);
  claimed = all (λ (run : ChildRun). HasClaim (log_of w) run.task run.try_no run.claim) w.runs (λ run m. (s.runs run m).claimed);
}

-- ---- the begin

record IsBegun (limits : BotLimits) (t : BotState) : Type 0 where
  sent : t.run.sent ≡ 0
  over : is_over t.phase ≡ true
  limit : t.limits.steps ≡ limits.steps

begun : (limits : BotLimits) (m : ℕ) (t : BotState) → stepped (opening limits) event.Begin m ≡ Some t → IsBegun limits t
begun limits m t h = by_steps (nat_le limits.steps 0) h
  where
    u : BotState
    u = next_session (record (opening limits) { first = m })

    by_steps : (b : Bool) → ◌≡◌ {A = Option BotState} (Some (if b then enter_stop why.Steps u else record u { steps = u.steps + 1 })) (Some t) → IsBegun limits t
    by_steps true k = (let z : enter_stop why.Steps u ≡ t = cc (k) in subst (IsBegun limits) z (record { sent = refl; over = refl; limit = refl }))
    by_steps false k = (let z : record u { steps = u.steps + 1 } ≡ t = cc (k) in subst (IsBegun limits) z (record { sent = refl; over = refl; limit = refl }))

-- where no row has the name, no number has it
no_number : (l : BotLog) → IsSound (rows_by l) → bot_named (rows_by l) l.name ≡ None → (b : ℕ) → IsNumber l b → ⊥
no_number l o none b h =
    let k = (names_tell (rows_by l) b l.name o).1 h in
    let z = ap (λ (r : Option BotRow). option_map (λ (bot : BotRow). bot.no) r) none in cc (k, z)

-- and the base has no such row
is_stranger : (start : Base) (log : List Entry) (name : List ℕ) → IsStart start log name → bot_named start.rows name ≡ None
is_stranger start log name s = by_bot (bot_named start.rows name) refl
  where
    l : BotLog
    l = record { start = start; log = log; name = name }

    by_bot : (r : Option BotRow) → bot_named start.rows name ≡ r → r ≡ None
    by_bot None e = refl
    by_bot (Some bot) e =
        absurd
        (let was : name_of start.rows bot.no ≡ Some name = (names_tell start.rows bot.no name s.base.sound).0 (ap (λ (r : Option BotRow). option_map (λ (x : BotRow). x.no) r) e) in
        no_number l (sound_replay start.rows log s.base.sound s.legal.caused) s.unknown bot.no (names_last start.rows log bot.no name s.base.sound s.legal.caused was))

pub begins_stands : (limits : BotLimits) (m : ℕ) (start : Base) (log : List Entry) (name : List ℕ) (dims : BotDims) (w : WorldState) → limits.steps < 2 ^ 32 → IsStart start log name →
    Begins limits m start log name dims w → Stands w
begins_stands limits m start log name dims w small at b = subst Stands (sym b.is) (record {
  base = at.base;
  legal = at.legal;
  stranger = is_stranger start log name at;
  bot = bot;
  limit = let k = begun limits m b.bot b.steps in let n = k.limit in omega (arith, n, small);
  bounds = bounds_at (opening limits) b.bot event.Begin m (λ h. (record { steps = omega arith; session = omega arith; claim = omega arith; polls = omega arith; tasks = omega arith; run = record { pending = omega arith; output = omega arith; dropped = omega arith; duration = omega arith } })) b.steps;
  numbered = (tt, λ h. tt);
  newest = newest;
  runs = λ run k. elim k [ ];
  asking = asks_after b.bot name dims [] [] [] None tt;
  sent = λ x k t n chunk last u. by_ask (request_of name dims [] [] (action_of b.bot)) refl x k t n chunk last u;
  got = λ g k. elim k [ ];
  bounded = λ g k. elim k [ ];
  log = λ t n chunk last h. absurd (no_number l (sound_replay start.rows log at.base.sound at.legal.caused) at.unknown h.b h.number);
})
  where
    l : BotLog
    l = record { start = start; log = log; name = name }

    bot : IsBot b.bot [] []
    bot = record {
      limits = limits;
      events = (record { event = event.Begin; moment = m; bytes = [] }) ∷ [];
      steps = (record { bot = b.bot; waiting = []; wrote = [] }, record { has_bytes = tt; stepped = b.steps; waiting = refl; wrote = refl }, refl);
    }

    newest : HasNewest (record { start = start; log = log; name = name }) b.bot []
    newest = (let k = begun limits m b.bot b.steps in (k.sent, k.over))

    by_ask : (o : Option Sent) → request_of name dims [] [] (action_of b.bot) ≡ o → (x : Sent) → Among x (sent_after o None []) → (t n : ℕ) (chunk : Option Chunk) (last : Option Last) →
        IsReport (start_world start log name dims b.bot) t n chunk last x → CarriesSome (record { start = start; log = log; name = name }) (is_over b.bot.phase) [] t n chunk last
    by_ask None h x k t n chunk last u = elim k [ ]
    by_ask (Some q) h x k t n chunk last u =
        report_carries (record { start = start; log = log; name = name }) dims b.bot [] [] x t n chunk last bot newest (h ∙ ap (λ (y : Sent). Some y) (sym (among_one x q k))) u

-- ---- all turns

pub played_stands : (old new : WorldState) (turns : List Turn) → Stands old → Played old turns new → Stands new
played_stands old new [] s p = subst Stands (sym p) s
played_stands old new (t ∷ turns) s p = played_stands p.0 new turns (turned_stands old t p.0 s p.1) p.2

pub two_ends_hold : TwoEndsAgree
two_ends_hold limits m start log name dims turns w v small at b p =
    let s : Stands v = played_stands w v turns (begins_stands limits m start log name dims w small at b) p in (stands_output v s, stands_starts v s)
