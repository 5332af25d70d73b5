-- What the rows of tasks keep of requests and reports stays what these may hold.
use Rattle.std.proofs.Common.{◌≡◌, ℕ, ◌≤◌, true, List, length, refl, sym, subst, arith, Option, Some, None, IfSome, IsTrue, IsSomeAnd, is_some}
use Rattle.std.specs.List.{All}
use Rattle.std.specs.Option.{option_map, option_map_or}
use Rattle.std.proofs.lemmas.Bool.{and_parts, cond_both}
use Rattle.std.proofs.lemmas.List.Elements.{All-nil, All-push}
use Rattle.pool_laws.specs.Types.{TaskState, Pending, Attempt, Chunk, Last, Retried, PoolSettings, TaskRow, BotRow, PoolState, Entry, EntryKind, Outcome}
use Rattle.swarm_model.specs.declared.entry.EntryKind.TheVariants as kind
use Rattle.swarm_model.specs.declared.entry.Outcome.TheVariants as outcome
use Rattle.swarm_model.specs.Words.{is_between}
use Rattle.swarm_model.specs.Finding.{bot_of, is_state}
use Rattle.swarm_model.specs.Fits.{fits, fits_chunk, fits_last, is_name, is_task_number}
use Rattle.swarm_model.specs.Deadlines.{next_of}
use Rattle.swarm_model.specs.Entries.{Asked, claim_of, update_of}
use Rattle.swarm_model.specs.Effects.{no_of_bot, after, task_after, added_tasks, bot_after, added_bots, new_row, end_at, expired_slice, retried_from, lost_run, killed, started_run, with_chunk, with_last_report, ended_run}
use Rattle.swarm_model.specs.History.{MayFollow}
use Rattle.swarm_model.specs.Soundness.{IsSound}
use Rattle.swarm_model.specs.BaseRules.{IsKeptAttempt, IsKeptTask}
use Rattle.pool_laws.proofs.Lists.{Among, each, each_one, number_within}
use Rattle.pool_laws.proofs.Preconditions.{FindsClaim}
use Rattle.pool_laws.proofs.EntryPreconditions.{finds, fitting, IsFitting}
use Rattle.pool_laws.proofs.Bots.{settings_same}
use Rattle.pool_laws.proofs.Rows.{task_by, all_tasks, no_fewer, lost_is, IsReport}

-- ---- what the request of an entry may hold

abbrev MayAsk : PoolState → Option Asked → Type 0
MayAsk s o = IsSomeAnd o (λ asked. IsTrue (fits s.settings asked.request))

-- the id of a claim is a name
claim_name : (s : PoolState) (id : List ℕ) (r : Option BotRow) → MayAsk s (option_map (claim_of id) r) → is_name id ≡ true
claim_name s id None h = absurd h
claim_name s id (Some bot) h = (and_parts (is_name bot.name) (is_name id) h).1

-- a last report and its chunk are what these may be
record IsFitReport (chunk : Option Chunk) (last : Last) : Type 0 where
  chunk_fits : IfSome chunk (λ c. IsTrue (fits_chunk c))
  last_fits : fits_last last ≡ true

if_chunk : (chunk : Option Chunk) → option_map_or fits_chunk chunk true ≡ true → IfSome chunk (λ c. IsTrue (fits_chunk c))
if_chunk None e = tt
if_chunk (Some c) e = e

report_fits : (s : PoolState) (t try_no : ℕ) (chunk : Option Chunk) (last : Last) (r : Option BotRow) → MayAsk s (option_map (update_of t try_no chunk (Some last)) r) → IsFitReport chunk last
report_fits s t try_no chunk last None h = absurd h
report_fits s t try_no chunk last (Some bot) h =
    let numbered = and_parts (is_task_number t) _ (and_parts (is_name bot.name) _ h).1 in
    let tried = and_parts (is_between 1 2 try_no) _ numbered.1 in
    let both = and_parts (option_map_or fits_chunk chunk true) (fits_last last) tried.1 in
    record { chunk_fits = if_chunk chunk both.0; last_fits = both.1 }

-- ---- runs

module _ (now bots : ℕ) where
  -- what is kept of the run that is lost and tried again
  abbrev IsKeptLost : Retried → Type 0
  IsKeptLost lost = IsKeptAttempt now bots lost.attempt

  -- a change of a run, where there is one
  kept_map : (change : Attempt → Attempt) → ((a : Attempt) → IsKeptAttempt now bots a → IsKeptAttempt now bots (change a)) → (r : Option Attempt) → IfSome r (IsKeptAttempt now bots) →
      IfSome (option_map change r) (IsKeptAttempt now bots)
  kept_map change keeps None h = tt
  kept_map change keeps (Some a) h = keeps a h

  -- a run that is asked to stop
  kept_killed : (a : Attempt) → IsKeptAttempt now bots a → IsKeptAttempt now bots (killed a)
  kept_killed a h = record { bot_from = h.bot_from; bot_to = h.bot_to; claim = h.claim; begun = h.begun; chunks = h.chunks; last = h.last; tail = h.tail; ended = h.ended }

  -- whose output goes on
  kept_longer : (chunk : Chunk) → fits_chunk chunk ≡ true → (a : Attempt) → IsKeptAttempt now bots a → IsKeptAttempt now bots (with_chunk chunk a)
  kept_longer chunk fit a h =
      record {
        bot_from = h.bot_from;
        bot_to = h.bot_to;
        claim = h.claim;
        begun = h.begun;
        chunks = All-push (λ (c : Chunk). IsTrue (fits_chunk c)) a.chunks chunk h.chunks fit;
        last = h.last;
        tail = h.tail;
        ended = h.ended;
      }

  always_some : (chunk : Option Chunk) (last : Last) → IfSome chunk (λ c. IsTrue (is_some (Some last)))
  always_some None last = tt
  always_some (Some c) last = refl

  -- that ends by a report
  kept_closed : (chunk : Option Chunk) (last : Last) → IsFitReport chunk last → (a : Attempt) → IsKeptAttempt now bots a → IsKeptAttempt now bots (with_last_report chunk last a)
  kept_closed chunk last fit a h =
      record {
        bot_from = h.bot_from;
        bot_to = h.bot_to;
        claim = h.claim;
        begun = h.begun;
        chunks = h.chunks;
        last = fit.last_fits;
        tail = fit.chunk_fits;
        ended = always_some chunk last;
      }

  -- or that is lost and tried again
  kept_again : (m slice : ℕ) (r : Option Attempt) → IfSome r (IsKeptAttempt now bots) → IfSome (option_map (retried_from m slice) r) IsKeptLost
  kept_again m slice None h = tt
  kept_again m slice (Some a) h = h

-- later, and with more bots
module _ (now then bots more : ℕ) (l : now ≤ then) (b : bots ≤ more) where
  one_later : (a : Attempt) → IsKeptAttempt now bots a → IsKeptAttempt then more a
  one_later a h =
      let few = h.bot_to in
      let old = h.begun in
      record {
        bot_from = h.bot_from;
        bot_to = omega (arith, few, b);
        claim = h.claim;
        begun = omega (arith, old, l);
        chunks = h.chunks;
        last = h.last;
        tail = h.tail;
        ended = h.ended;
      }

  attempt_later : (r : Option Attempt) → IfSome r (IsKeptAttempt now bots) → IfSome r (IsKeptAttempt then more)
  attempt_later None h = tt
  attempt_later (Some a) h = one_later a h

  retried_later : (r : Option Retried) → IfSome r (IsKeptLost now bots) → IfSome r (IsKeptLost then more)
  retried_later None h = tt
  retried_later (Some lost) h = one_later lost.attempt h

  end_later : (r : Option ℕ) → IfSome r (λ m. m ≤ now) → IfSome r (λ m. m ≤ then)
  end_later None h = tt
  end_later (Some m) h = omega (arith, l, h)

-- ---- an entry

module _ (s : PoolState) (e : Entry) (o : IsSound s) (follows : MayFollow s e) where
  abbrev Kept : TaskRow → Type 0
  Kept = IsKeptTask s.settings e.moment (length (after s e).bots)

  more_bots : length s.bots ≤ length (after s e).bots
  more_bots = no_fewer (bot_after e.moment e.kind) s.bots (added_bots s e.moment e.kind)

  -- a row that stays as it is
  later_kept : (x : TaskRow) → IsKeptTask s.settings s.last (length s.bots) x → Kept x
  later_kept x h =
      let before = follows.not_before in
      let old = h.created in
      record {
        fits = h.fits;
        created = omega (arith, old, before);
        ended = end_later s.last e.moment (length s.bots) (length (after s e).bots) before more_bots x.ended h.ended;
        attempt = attempt_later s.last e.moment (length s.bots) (length (after s e).bots) before more_bots x.attempt h.attempt;
        retried = retried_later s.last e.moment (length s.bots) (length (after s e).bots) before more_bots x.retried h.retried;
      }

  -- whose slice ran out
  moved_kept : (x : TaskRow) (to : Outcome) → Kept x → Kept (expired_slice e.moment to x)
  moved_kept x (outcome.Slice place) h = record { fits = h.fits; created = h.created; ended = h.ended; attempt = h.attempt; retried = h.retried }
  moved_kept x (outcome.Ended state) h = record { fits = h.fits; created = h.created; ended = omega arith; attempt = h.attempt; retried = h.retried }

  -- whose run is lost
  lost_kept : (x : TaskRow) → Kept x → Kept (lost_run s.settings.retries e.moment x)
  lost_kept x h =
      lost_is Kept s.settings.retries e.moment x
      (λ t. record {
        fits = h.fits;
        created = h.created;
        ended = h.ended;
        attempt = tt;
        retried = kept_again e.moment (length (after s e).bots) e.moment x.slice x.attempt h.attempt;
      })
      (λ t. record { fits = h.fits; created = h.created; ended = omega arith; attempt = h.attempt; retried = h.retried })

  -- that a bot begins
  begun_kept : (x : TaskRow) (b t : ℕ) (id : List ℕ) → e.kind ≡ kind.Claim b t id → FindsClaim s b t id → Kept x → Kept (started_run e.moment b id x)
  begun_kept x b t id is f h =
      let named = f.named in
      let there = number_within no_of_bot 1 s.bots o.bots_numbered f.bot f.among in
      let low = there.0 in
      let high = there.1 in
      let more = more_bots in
      record {
        fits = h.fits;
        created = h.created;
        ended = h.ended;
        attempt = record {
          bot_from = omega (arith, low, named);
          bot_to = omega (arith, high, named, more);
          claim = claim_name s id (bot_of s b) (subst (IsFitting s) is (fitting s e follows));
          begun = omega arith;
          chunks = All-nil (λ (c : Chunk). IsTrue (fits_chunk c));
          last = tt;
          tail = tt;
          ended = tt;
        };
        retried = h.retried;
      }

  -- whose run ends by a report
  finished_kept : (chunk : Option Chunk) (last : Last) → IsReport e.kind chunk last → (y : TaskRow) → Kept y → Kept (ended_run e.moment chunk last y)
  finished_kept chunk last r y h =
      let fit : IsFitReport chunk last = report_fits s r.task r.try_no chunk last (bot_of s r.bot) (subst (IsFitting s) r.is (fitting s e follows)) in
      record {
        fits = h.fits;
        created = h.created;
        ended = omega arith;
        attempt = kept_map e.moment (length (after s e).bots) (with_last_report chunk last) (kept_closed e.moment (length (after s e).bots) chunk last fit) y.attempt h.attempt;
        retried = h.retried;
      }

  -- each row
  row_kept : (x : TaskRow) → Among x s.tasks → IsKeptTask s.settings s.last (length s.bots) x → Kept (task_after s e.moment e.kind x)
  row_kept x a was =
      let h : Kept x = later_kept x was in
      task_by Kept s e.moment o x a e.kind (finds s e follows) (record {
        same = h;
        moves = λ w. moved_kept x (next_of s x) h;
        loses = λ w. lost_kept x h;
        begins = λ b t id is f w own. begun_kept x b t id is f h;
        cancels = λ w. record { fits = h.fits; created = h.created; ended = omega arith; attempt = h.attempt; retried = h.retried };
        marks = λ w. record {
          fits = h.fits;
          created = h.created;
          ended = h.ended;
          attempt = kept_map e.moment (length (after s e).bots) killed (kept_killed e.moment (length (after s e).bots)) x.attempt h.attempt;
          retried = h.retried;
        };
        grows = λ chunk fresh g w. record {
          fits = h.fits;
          created = h.created;
          ended = h.ended;
          attempt = kept_map e.moment (length (after s e).bots) (with_chunk chunk) (kept_longer e.moment (length (after s e).bots) chunk g.fits) x.attempt h.attempt;
          retried = h.retried;
        };
        finishes = λ chunk last report y w k. finished_kept chunk last report y k;
      })

  end_now : (state : TaskState) → IfSome (end_at state e.moment) (λ n. n ≤ e.moment)
  end_now state = cond_both (is_state state Pending) None (Some e.moment) (λ (r : Option ℕ). IfSome r (λ n. n ≤ e.moment)) (λ t. tt) (λ t. omega arith)

  -- and a row that is added
  added_kept : (k : EntryKind) → IsFitting s k → (x : TaskRow) → Among x (added_tasks e.moment k) → Kept x
  added_kept (kind.New t who request state slice from) g x a =
      each_one Kept (new_row e.moment t who request state slice from) (record { fits = g; created = omega arith; ended = end_now state; attempt = tt; retried = tt }) x a
  added_kept k g x a = elim a [ ]

  pub tasks_kept : All (IsKeptTask s.settings s.last (length s.bots)) s.tasks → All (IsKeptTask (after s e).settings (after s e).last (length (after s e).bots)) (after s e).tasks
  tasks_kept h =
      subst (λ (p : PoolSettings). All (IsKeptTask p e.moment (length (after s e).bots)) (after s e).tasks) (sym (settings_same s e.moment e.kind))
      (all_tasks Kept s e.moment e.kind (λ x a. row_kept x a (each (IsKeptTask s.settings s.last (length s.bots)) s.tasks h x a)) (added_kept e.kind (fitting s e follows)))
