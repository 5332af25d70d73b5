-- Which entry stands behind the reply to a bot.
use Rattle.std.proofs.Common.{◌≡◌, ◌⊎◌, inl, inr, ℕ, ◌≤◌, ◌==◌, ◌&&◌, ◌||◌, not, List, cond, Bool, true, false, Option, Some, None, option_map, IsTrue, is_some, refl, ap, sym, ◌∙◌, subst, eqb-true, arith}
use Rattle.std.specs.Prelude.{nat_lt, if◌then◌else◌}
use Rattle.std.specs.List.{Contains, list_any}
use Rattle.std.specs.Option.{option_map_or, option_and_then, option_eq}
use Rattle.std.proofs.lemmas.Bool.{and_parts, cond_both, eqb-false}
use Rattle.std.proofs.lemmas.Bool.Decides.{nat_tests}
use Rattle.std.proofs.lemmas.List.Elements.{All-contains_itself}
use Rattle.std.proofs.lemmas.Map.Views.{Contains-from_any}
use Rattle.dimensions.specs.Alike.{same}
use Rattle.dimensions.specs.Choosing.{when, ◌or_else◌}
use Rattle.log_laws.specs.Types.{Properties, Slice, Attempt, Chunk, Last, Retried, TaskRow, BotRow, PoolState, Decision, Entry, EntryKind}
use Rattle.swarm_model.specs.declared.rule.Rule.TheVariants as rule
use Rattle.swarm_model.specs.declared.reply.Reply.TheVariants as reply
use Rattle.swarm_model.specs.declared.entry.EntryKind.TheVariants as kind
use Rattle.swarm_model.specs.declared.request.Request.TheVariants as ask
use Rattle.swarm_model.specs.Alike.{same_chunk, same_last}
use Rattle.swarm_model.specs.Answers.{decide, entry_at, or_refuse, lost_row, named_task, try_of, is_claim, is_claimed, was_claimed, has_claim, as_claimed, claimed, run_from, run_again, claim_again, claims, claim, unfit_of, unfit_refusal, busy, run_on, is_kept, updates, chunk_rule, store_full, unplaced_chunk, is_first_report, report, report_again, report_running, report_on, not_claimant, update, update_row, refusal, file_missing}
use Rattle.swarm_model.specs.Blobs.{missing_file}
use Rattle.swarm_model.specs.Effects.{fresh_chunk, next_try}
use Rattle.swarm_model.specs.Finding.{is_final, bot_named}
use Rattle.swarm_model.specs.Fits.{fits}
use Rattle.swarm_model.specs.Slices.{current_slice, first}
use Rattle.swarm_model.specs.Views.{files_of}
use Rattle.pool_laws.proofs.Alike.{same_is}
use Rattle.pool_laws.proofs.Answering.{by_when, by_map}
use Rattle.pool_laws.proofs.EntryPreconditions.{not_not, update_fits}
use Rattle.pool_laws.proofs.Lists.{Among, Found, each, find_is}
use Rattle.log_laws.specs.Replies.{Adds, IsReportBy, UpdatesAreAsked, HasRun, IsToldRun, RunsAreTold, IsTakenChunk, ChunksAreTaken, with_chunk}
use Rattle.log_laws.proofs.GoingRuns.{going_row, going_try}
use Rattle.log_laws.proofs.NameLaw.{name_is}
use Rattle.log_laws.proofs.Own.{IsOwnReport, own_entry}

-- an element by its place
pub contains : {X : Type 0} (xs : List X) (x : X) → Among x xs → Contains xs x
contains xs x a = each (Contains xs) xs (All-contains_itself xs) x a

-- ---- an update

pub updates_asked : UpdatesAreAsked
updates_asked s who moment pass request entry b t try_no chunk last may e is = by_report (own_entry s who moment pass request entry (kind.Update b t try_no chunk last) e is)
  where
    by_report : IsOwnReport s request b t try_no chunk last → IsReportBy s request b t try_no chunk last
    by_report f =
        (let fitting : IsTrue (fits s.settings (ask.Update f.name t f.asked_try chunk last)) = subst (λ r. IsTrue (fits s.settings r)) f.asked may in
        let tried : f.attempt.try_no ≡ f.asked_try = going_try s t f.asked_try f.row f.attempt f.shown (update_fits s.settings f.name t f.asked_try chunk last fitting).0 f.attempted in
        let same_name : f.bot.name ≡ f.name = name_is s f.name f.bot f.named in
        record {
          bot = f.bot;
          named = ap (bot_named s) same_name ∙ f.named;
          number = f.is_bot;
          asked = f.asked ∙ ap (λ (n : ℕ). ask.Update f.name t n chunk last) (sym tried ∙ f.is_try) ∙ ap (λ (n : List ℕ). ask.Update n t try_no chunk last) (sym same_name);
        })

-- ---- a run that is told

-- the bot has the run under this id
abbrev HasClaimed : PoolState → ℕ → List ℕ → ℕ → ℕ → Type 0
HasClaimed s b id t try_no = (run : Attempt) × HasRun s b t try_no run × (run.claim ≡ id)

record IsRunReply (number tried : ℕ) (t try_no : ℕ) : Type 0 where
  task : number ≡ t
  is_try : tried ≡ try_no

run_of : (tried : ℕ) (task : TaskRow) (o : Option Slice) (t try_no slice tolerance : ℕ) (properties : Properties) → option_map_or (run_from tried task) o reply.Skip ≡ reply.Run t try_no slice tolerance properties → IsRunReply task.no tried t try_no
run_of tried task None t try_no slice tolerance properties h = absurd (cc (h))
run_of tried task (Some x) t try_no slice tolerance properties h = record { task = cc (h); is_try = cc (h) }

-- a row that shows a run of this claim that goes on is the task's own
claim_is : (s : PoolState) (b : ℕ) (id : List ℕ) (task : TaskRow) (t try_no : ℕ) → Among task s.tasks → has_claim b id task ≡ true → is_final (as_claimed b id task).state ≡ false → IsRunReply (as_claimed b id task).no (try_of (as_claimed b id task)) t try_no →
    HasClaimed s b id t try_no
claim_is s b id task t try_no a has going told = by_own (is_claimed b id task) refl has going told
  where
    by_attempt : (o : Option Attempt) → task.attempt ≡ o → option_map_or (is_claim b id) o false ≡ true → IsRunReply task.no (option_map_or (λ (x : Attempt). x.try_no) o 0) t try_no → HasClaimed s b id t try_no
    by_attempt None e p r = absurd (cc (p))
    by_attempt (Some x) e p r =
        (let parts = and_parts (x.bot == b) (same x.claim id) p in
        (x, record { task = task; among = contains s.tasks task a; number = r.task; attempt = e; by = eqb-true x.bot b parts.0; is_try = r.is_try }, same_is x.claim id parts.1))

    by_lost : (r : Option Retried) → option_map_or (λ (lost : Retried). is_claim b id lost.attempt) r false ≡ true → is_final (option_map_or (lost_row task) r task).state ≡ false → HasClaimed s b id t try_no
    by_lost None p g = absurd (cc (p))
    by_lost (Some lost) p g = absurd (cc (g))

    by_own : (c : Bool) → is_claimed b id task ≡ c → (c || was_claimed b id task) ≡ true → is_final (cond c task (option_map_or (lost_row task) task.retried task)).state ≡ false →
        IsRunReply (cond c task (option_map_or (lost_row task) task.retried task)).no (try_of (cond c task (option_map_or (lost_row task) task.retried task))) t try_no → HasClaimed s b id t try_no
    by_own true e p g r = by_attempt task.attempt refl e r
    by_own false e p g r = by_lost task.retried p g

module _ (s : PoolState) (id : List ℕ) (bot : BotRow) (t try_no : ℕ) where
  abbrev Tells : Decision → Type 0
  Tells d = (slice tolerance : ℕ) (properties : Properties) → d.reply ≡ reply.Run t try_no slice tolerance properties → HasClaimed s bot.no id t try_no ⊎ (d.entry ≡ Some (kind.Claim bot.no t id))

  again_tells : (task : TaskRow) → claimed s bot.no id ≡ Some task → Tells (run_again bot (as_claimed bot.no id task))
  again_tells task e =
      let f : Found (has_claim bot.no id) s.tasks task = find_is (has_claim bot.no id) s.tasks task e in
      cond_both (is_final (as_claimed bot.no id task).state) _ _ Tells (λ over slice tolerance properties h. absurd (cc (h))) (λ going slice tolerance properties h.
      inl (claim_is s bot.no id task t try_no f.among f.passes going
      (run_of (try_of (as_claimed bot.no id task)) (as_claimed bot.no id task) (current_slice (as_claimed bot.no id task)) t try_no slice tolerance properties h)))

  claim_tells : Tells (claim s id bot)
  claim_tells =
      by_map Tells (claim_again bot id) (claimed s bot.no id) _ again_tells (λ fresh.
      by_map Tells unfit_refusal (unfit_of bot) _ (λ why e slice tolerance properties h. absurd (cc (h))) (λ fit.
      by_map Tells busy (run_on s bot) _ (λ task e slice tolerance properties h. absurd (cc (h))) (λ idle.
      by_map Tells (claims bot id) (first s bot.no bot.dims) _ (λ task e slice tolerance properties h.
      inr (ap (λ (n : ℕ). Some (kind.Claim bot.no n id)) (run_of (next_try task) task (current_slice task) t try_no slice tolerance properties h).task)) (λ e slice tolerance properties h. absurd (cc (h))))))

-- an entry that a decision adds is that of the answer
adds : (moment pass : ℕ) (o : Option EntryKind) (k : EntryKind) → o ≡ Some k → Adds (option_map (entry_at moment pass) o) k
adds moment pass o k e = subst (λ (r : Option EntryKind). Adds (option_map (entry_at moment pass) r) k) (sym e) refl

pub runs_told : RunsAreTold
runs_told s who name id moment pass t try_no slice tolerance properties h = by_bot (bot_named s name) refl h
  where
    by_bot : (o : Option BotRow) → bot_named s name ≡ o → (or_refuse o rule.NoBot (claim s id)).reply ≡ reply.Run t try_no slice tolerance properties →
        IsToldRun s (option_map (entry_at moment pass) (or_refuse (bot_named s name) rule.NoBot (claim s id)).entry) name id t try_no
    by_bot None e k = absurd (cc (k))
    by_bot (Some bot) e k = record { bot = bot; named = e; by = by_case (claim_tells s id bot t try_no slice tolerance properties k) }
      where
        by_case : HasClaimed s bot.no id t try_no ⊎ ((claim s id bot).entry ≡ Some (kind.Claim bot.no t id)) →
            ((run : Attempt) × HasRun s bot.no t try_no run × (run.claim ≡ id)) ⊎ Adds (option_map (entry_at moment pass) (or_refuse (bot_named s name) rule.NoBot (claim s id)).entry) (kind.Claim bot.no t id)
        by_case (inl x) = inl x
        by_case (inr x) = inr (adds moment pass _ (kind.Claim bot.no t id) (ap (λ (o : Option BotRow). (or_refuse o rule.NoBot (claim s id)).entry) e ∙ x))

-- ---- a chunk that is taken

same_chunk_is : (a b : Chunk) → same_chunk a b ≡ true → a ≡ b
same_chunk_is a b h =
    let p = and_parts (a.start == b.start) _ h in
    let q = and_parts (a.size == b.size) _ p.1 in
    let e1 : a.start ≡ b.start = eqb-true a.start b.start p.0 in
    let e2 : a.size ≡ b.size = eqb-true a.size b.size q.0 in
    let e3 : a.digest ≡ b.digest = same_is a.digest b.digest q.1 in
    rw (e1, e2, e3) refl

-- a chunk that breaks no rule and doesn't go on from the output is one of those that are kept
pub old_chunk : (a : Attempt) (c : Chunk) → chunk_rule a c ≡ None → is_some (fresh_chunk (Some a) (Some c)) ≡ false → Contains a.chunks c
old_chunk a c in_turn stale =
    Contains-from_any {eq = same_chunk} same_chunk_is c a.chunks (by_tests (nat_lt a.length c.start) (nat_lt c.start a.length) (c.start == a.length) (list_any (same_chunk c) a.chunks) refl refl refl in_turn stale)
  where
    by_tests : (gap low at kept : Bool) → nat_lt a.length c.start ≡ gap → nat_lt c.start a.length ≡ low → (c.start == a.length) ≡ at →
        (when gap (rule.OutputGap a.length) or_else when (low && not kept) (rule.OutputOverlap c.start)) ≡ None → is_some (if at then Some c else None) ≡ false → kept ≡ true
    by_tests true low at kept g l i h k = absurd (cc)
    by_tests false true at true g l i h k = refl
    by_tests false true at false g l i h k = absurd (cc)
    by_tests false false true kept g l i h k = absurd (cc)
    by_tests false false false kept g l i h k = absurd (let x : c.start ≤ a.length = grind (arith, nat_tests) in let y : a.length ≤ c.start = grind (arith, nat_tests) in eqb-false c.start a.length i (omega (arith, x, y)))

-- the chunk is kept of the bot's run
abbrev HasChunk : PoolState → ℕ → ℕ → ℕ → Chunk → Type 0
HasChunk s b t try_no c = (run : Attempt) × HasRun s b t try_no run × Contains run.chunks c

module _ (s : PoolState) (bot : BotRow) (t try_no : ℕ) (c : Chunk) (row : TaskRow) (shown : named_task s t try_no ≡ Some row) (some_try : (try_no == 0) ≡ false) where
  abbrev Takes : Decision → Type 0
  Takes d = (must_stop : Bool) → d.reply ≡ reply.Updated must_stop → HasChunk s bot.no t try_no c ⊎ (d.entry ≡ Some (kind.Update bot.no t try_no (Some c) None))

  not_kept : (a : Attempt) → is_kept a (Some c) None ≡ true → ⊥
  not_kept a h = by_last a.last h
    where
      by_last : (l : Option Last) → (is_some l && (option_eq same_last l None && option_eq same_chunk a.last_chunk (Some c))) ≡ true → ⊥
      by_last None h = cc
      by_last (Some l) h = cc

  report_takes : (a : Attempt) → row.attempt ≡ Some a → Takes (report_on s bot row (Some c) None a)
  report_takes a has =
      by_when Takes (not (a.bot == bot.no)) (not_claimant s a) (report s bot row (Some c) None a) (λ b m h. absurd (cc (h))) (λ own.
      by_when Takes (is_final row.state) (report_again bot row (Some c) None a) (report_running s bot row (Some c) None a)
      (λ over. cond_both (is_kept a (Some c) None) _ _ Takes (λ k m h. absurd (not_kept a k)) (λ k m h. absurd (cc (h)))) (λ going.
      let whole = going_row s t try_no row shown going in
      let tried : a.try_no ≡ try_no = going_try s t try_no row a shown some_try has in
      by_map Takes refusal (option_and_then (chunk_rule a) (Some c)) _ (λ why e m h. absurd (cc (h))) (λ in_turn.
      by_map Takes file_missing (missing_file s (files_of None)) _ (λ file e m h. absurd (cc (h))) (λ has_files.
      by_map Takes (λ (x : Chunk). store_full s x.size) (unplaced_chunk s (fresh_chunk (Some a) (Some c))) _ (λ x e m h. absurd (cc (h))) (λ has_place.
      by_when Takes (is_first_report a (Some c) None) (updates a (kind.Update bot.no row.no a.try_no (Some c) None)) (updates a (kind.Contact bot.no))
      (λ l m h. inr (ap (λ (n : ℕ). Some (kind.Update bot.no n a.try_no (Some c) None)) whole.named ∙ ap (λ (n : ℕ). Some (kind.Update bot.no t n (Some c) None)) tried))
      (λ l m h. inl (
        a,
        record {
          task = row;
          among = contains s.tasks row whole.among;
          number = whole.named;
          attempt = has;
          by = eqb-true a.bot bot.no (not_not (a.bot == bot.no) own);
          is_try = tried;
        },
        old_chunk a c in_turn l,
      )))))))

pub chunks_taken : ChunksAreTaken
chunks_taken s who name moment pass t try_no c must_stop may h = by_bot (bot_named s name) refl h
  where
    some_try : (try_no == 0) ≡ false
    some_try = (update_fits s.settings name t try_no (Some c) None may).0

    added : Option Entry
    added = option_map (entry_at moment pass) (decide s who moment (with_chunk name t try_no c)).entry

    by_row : (bot : BotRow) (row : TaskRow) → bot_named s name ≡ Some bot → named_task s t try_no ≡ Some row → (o : Option Attempt) → row.attempt ≡ o → (or_refuse o rule.NoTask (report_on s bot row (Some c) None)).reply ≡ reply.Updated must_stop →
        IsTakenChunk s added name t try_no c
    by_row bot row e g None has k = absurd (cc (k))
    by_row bot row e g (Some a) has k = record { bot = bot; named = e; by = by_case (report_takes s bot t try_no c row g some_try a has must_stop k) }
      where
        by_case : HasChunk s bot.no t try_no c ⊎ ((report_on s bot row (Some c) None a).entry ≡ Some (kind.Update bot.no t try_no (Some c) None)) →
            ((run : Attempt) × HasRun s bot.no t try_no run × Contains run.chunks c) ⊎ Adds added (kind.Update bot.no t try_no (Some c) None)
        by_case (inl x) = inl x
        by_case (inr x) = inr (adds moment pass _ (kind.Update bot.no t try_no (Some c) None) (rw (e, g, has) x))

    by_task : (bot : BotRow) → bot_named s name ≡ Some bot → (o : Option TaskRow) → named_task s t try_no ≡ o → (or_refuse o rule.NoTask (update_row s bot (Some c) None)).reply ≡ reply.Updated must_stop → IsTakenChunk s added name t try_no c
    by_task bot e None g k = absurd (cc (k))
    by_task bot e (Some row) g k = by_row bot row e g row.attempt refl k

    by_bot : (o : Option BotRow) → bot_named s name ≡ o → (or_refuse o rule.NoBot (update s t try_no (Some c) None)).reply ≡ reply.Updated must_stop → IsTakenChunk s added name t try_no c
    by_bot None e k = absurd (cc (k))
    by_bot (Some bot) e k = by_task bot e (named_task s t try_no) refl k
