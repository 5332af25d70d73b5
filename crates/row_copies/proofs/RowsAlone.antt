-- The rows of a pool without its blobs.
use Rattle.std.proofs.Common.{◌≡◌, ◌≤◌, ℕ, List, [], ◌∷◌, ◌++◌, map, Option, Some, None, IsTrue, IfSome, refl, sym, ap, ◌∙◌, arith}
use Rattle.std.specs.List.{filter_map}
use Rattle.swarm_model.specs.declared.retried.Retried.{Retried}
use Rattle.swarm_model.specs.declared.task_row.TaskRow.{TaskRow}
use Rattle.swarm_model.specs.declared.bot_row.BotRow.{BotRow}
use Rattle.swarm_model.specs.declared.pool_state.PoolState.{PoolState}
use Rattle.swarm_model.specs.declared.deadline.Deadline.{Deadline}
use Rattle.swarm_model.specs.declared.entry.Entry.{Entry}
use Rattle.swarm_model.specs.declared.entry.EntryKind.{EntryKind}
use Rattle.swarm_model.specs.declared.entry.EntryKind.TheVariants as kind
use Rattle.swarm_model.specs.declared.request.Request.{Request}
use Rattle.swarm_model.specs.declared.request.Request.TheVariants as ask
use Rattle.swarm_model.specs.declared.answer.Decision.{Decision}
use Rattle.swarm_model.specs.Answers.{decide}
use Rattle.swarm_model.specs.Deadlines.{slice_end, silence_end, bot_end, blob_end, deadlines}
use Rattle.swarm_model.specs.Effects.{after, with_blobs, task_after, added_tasks, bot_after, added_bots}
use Rattle.swarm_model.specs.Soundness.{IsSound, IsSoundTask, IsSoundBot, IsSoundRetried}
use Rattle.pool_laws.proofs.Bots.{settings_same}
use Rattle.pool_laws.proofs.Lists.{Among, each, all}
use Rattle.pool_laws.proofs.Lists.Among.{here, later}
use Rattle.pool_views.specs.Views.{Query, reads_rows, reply_of}
use Rattle.row_copies.specs.Kept.{rows_alone}

-- what an entry does to a task doesn't depend on blobs
task_alike : (s : PoolState) (m : ℕ) (k : EntryKind) (task : TaskRow) → task_after s m k task ≡ task_after (rows_alone s) m k task
task_alike s m (kind.Silence t) task = refl
task_alike s m k task = refl

-- nor do the bots that come
bots_alike : (s : PoolState) (m : ℕ) (k : EntryKind) → added_bots s m k ≡ added_bots (rows_alone s) m k
bots_alike s m (kind.Handshake b id session dims q) = refl
bots_alike s m k = refl

-- the rows without blobs after an entry are told by those before it
pub rows_alone_after : (s : PoolState) (e : Entry) → rows_alone (after s e) ≡ rows_alone (after (rows_alone s) e)
rows_alone_after s e = λ i. let x : PoolState = record {
  settings = settings i;
  last = e.moment;
  tasks = map (λ task. task_alike s e.moment e.kind task i) s.tasks ++ added_tasks e.moment e.kind;
  bots = map (bot_after e.moment e.kind) s.bots ++ bots_alike s e.moment e.kind i;
  blobs = [];
  placed = 0;
} in x
  where
    settings : (with_blobs s e.moment e.kind).settings ≡ (with_blobs (rows_alone s) e.moment e.kind).settings
    settings = settings_same s e.moment e.kind ∙ sym (settings_same (rows_alone s) e.moment e.kind)

-- ---- replies

-- what only reads tasks and bots is decided the same
decided_alone : (s : PoolState) (who : List ℕ) (request : Request) → IsTrue (reads_rows request) → decide (rows_alone s) who s.last request ≡ decide s who s.last request
decided_alone s who (ask.Result task try_no) reads = refl
decided_alone s who (ask.List state limit below) reads = refl
decided_alone s who (ask.Count state) reads = refl
decided_alone s who (ask.Bots limit from) reads = refl
decided_alone s who (ask.Bot bot) reads = refl
decided_alone s who (ask.New _) reads = absurd (cc)
decided_alone s who (ask.Cancel _ _ _) reads = absurd (cc)
decided_alone s who (ask.Stdout _ _ _ _) reads = absurd (cc)
decided_alone s who (ask.Handshake _ _ _ _) reads = absurd (cc)
decided_alone s who (ask.Poll _ _ _) reads = absurd (cc)
decided_alone s who (ask.Claim _ _) reads = absurd (cc)
decided_alone s who (ask.Event _ _ _) reads = absurd (cc)
decided_alone s who (ask.Update _ _ _ _ _) reads = absurd (cc)
decided_alone s who (ask.Terminate _) reads = absurd (cc)
decided_alone s who (ask.PutBlob _ _ _) reads = absurd (cc)
decided_alone s who (ask.GetBlob _) reads = absurd (cc)
decided_alone s who (ask.FindMissing _) reads = absurd (cc)

-- and so it is answered
pub reply_of_rows_alone : (s : PoolState) (query : Query) → IsTrue (reads_rows query.request) → reply_of (rows_alone s) query ≡ reply_of s query
reply_of_rows_alone s query reads = ap (λ (d : Decision). d.reply) (decided_alone s query.caller query.request reads)

-- ---- soundness

-- what is among the first three lists is among all four
first_lists : {X : Type 0} (x : X) (a b c d : List X) → Among x (a ++ (b ++ (c ++ []))) → Among x (a ++ (b ++ (c ++ d)))
first_lists x [] [] [] d among = elim among [ ]
first_lists x [] [] (y ∷ c) d here = here
first_lists x [] [] (y ∷ c) d (later among) = later (first_lists x [] [] c d among)
first_lists x [] (y ∷ b) c d here = here
first_lists x [] (y ∷ b) c d (later among) = later (first_lists x [] b c d among)
first_lists x (y ∷ a) b c d here = here
first_lists x (y ∷ a) b c d (later among) = later (first_lists x a b c d among)

-- each deadline of the rows is one of the pool
deadline_of_pool : (s : PoolState) (d : Deadline) → Among d (deadlines (rows_alone s)) → Among d (deadlines s)
deadline_of_pool s d among = first_lists d (filter_map slice_end s.tasks) (filter_map (silence_end s) s.tasks) (filter_map (bot_end s) s.bots) (map blob_end s.blobs) among

retried_alone : (s : PoolState) (task : TaskRow) (lost : Option Retried) → IfSome lost (IsSoundRetried s task.request.task_slices) → IfSome lost (IsSoundRetried (rows_alone s) task.request.task_slices)
retried_alone s task None its = tt
retried_alone s task (Some lost) its = record {
  setting = its.setting;
  slice = its.slice;
  is_slice = its.is_slice;
  idempotent = its.idempotent;
  first = its.first;
  not_killed = its.not_killed;
  no_last = its.no_last;
  output = its.output;
  over = its.over;
}

task_alone : (s : PoolState) (task : TaskRow) → IsSoundTask s task → IsSoundTask (rows_alone s) task
task_alone s task its = record {
  checked = its.checked;
  has_slice = its.has_slice;
  since = its.since;
  state = its.state;
  has_bot = its.has_bot;
  output = its.output;
  retried = retried_alone s task task.retried its.retried;
  tries = its.tries;
}

bot_alone : (s : PoolState) (bot : BotRow) → IsSoundBot s bot → IsSoundBot (rows_alone s) bot
bot_alone s bot its = record { contact = its.contact; streak = its.streak; known = its.known; has_task = its.has_task }

-- the rows of a sound pool are those of a sound pool
pub sound_rows_alone : (s : PoolState) → IsSound s → IsSound (rows_alone s)
sound_rows_alone s sound = record {
  last = sound.last;
  tasks_numbered = sound.tasks_numbered;
  bots_numbered = sound.bots_numbered;
  few_tasks = sound.few_tasks;
  few_bots = sound.few_bots;
  tasks = λ k d low. task_alone s _ (sound.tasks k d low);
  bots = λ k d low. bot_alone s _ (sound.bots k d low);
  ahead = all (λ (d : Deadline). s.last ≤ d.moment) (deadlines (rows_alone s)) (λ d among. each (λ (d : Deadline). s.last ≤ d.moment) (deadlines s) sound.ahead d (deadline_of_pool s d among));
  runs = sound.runs;
  claims = sound.claims;
  sent = sound.sent;
  names = sound.names;
  few_blobs = omega arith;
  blobs = λ k d low. absurd (omega (arith, low));
  digests = λ digest. omega arith;
  numbers = λ number. omega arith;
  apart = λ i j d less low. absurd (omega (arith, low));
}
