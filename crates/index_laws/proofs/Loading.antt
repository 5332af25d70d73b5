-- A row that is added brings what it has itself.
use Rattle.std.proofs.Common.{◌≡◌, ◌≢◌, ◌↔◌, ℕ, ◌+◌, ◌<◌, ◌≤◌, ◌==◌, Bool, true, false, cond, List, [], ◌∷◌, ◌++◌, map, find, set, length, length-append, ◌⊎◌, inl, inr, refl, sym, ap, ◌∙◌, subst, Option, Some, None, IfSome, MatchOption, eqb-true, arith}
use Rattle.std.specs.List.{Contains}
use Rattle.std.specs.Option.{option_map, option_and_then}
use Rattle.std.proofs.lemmas.Option.{same_Some}
use Rattle.std.proofs.lemmas.List.{map-append}
use Rattle.std.proofs.lemmas.List.Sums.{sum_by_push}
use Rattle.dimensions.specs.Rules.{is_empty}
use Rattle.index_laws.specs.Types.{Attempt, Retried, TaskRow, PoolState, Deadline, QueueSet, Waiting, ClaimLink}
use Rattle.swarm_model.specs.Numbers.{AreNumbered}
use Rattle.swarm_model.specs.Deadlines.{bot_end, blob_end}
use Rattle.swarm_model.specs.Effects.{no_of_task, no_of_bot}
use Rattle.swarm_model.specs.Soundness.{IsRightTry, key_of, claim_key, lost_key, sent_key, AreClaimedApart, AreSentApart}
use Rattle.swarm_model.specs.Soundness as soundness
use Rattle.pool_laws.proofs.Lists.{Among, here, each, each_append, each_one, among_left, among_right, number_finds, number_within, find_is, find_none, Found, has_number}
use Rattle.dim_queue.specs.Plain.{Enters, SameWaits}
use Rattle.pool_index.specs.Claims as claims
use Rattle.pool_index.specs.Uuids as uuids
use Rattle.pool_index.specs.Links.{links_with}
use Rattle.pool_index.specs.Sources.{newest_in}
use Rattle.pool_index.specs.Deadlines.{deadline_at}
use Rattle.index_laws.specs.Keys.{IsKnown, IsKey, HasKey, KeysGrow}
use Rattle.index_laws.specs.TaskQueues.{waiting_of, AreQueued}
use Rattle.index_laws.specs.TaskClaims.{Claimed, IsClaimOf, claim_link}
use Rattle.index_laws.specs.TaskUuids.{Sent, sent_of, uuid_link}
use Rattle.index_laws.specs.TaskSources.{source_of, last_source}
use Rattle.index_laws.specs.TaskUses.{uses_of}
use Rattle.index_laws.specs.RowDeadlines.{task_deadline, task_deadline_of, bot_deadline_of}
use Rattle.index_laws.specs.Loads.{with_task, with_bot, IsNextTask, claim_under, last_claim_link, QueueGains, QueueIsFree, ClaimsGain, ClaimsAreNew, UuidsGain, UuidIsNew, SourcesGain, UsesGain, CountsGain, TaskDeadlinesGain, BotDeadlinesGain, BlobDeadlinesGain}
use Rattle.index_laws.proofs.Keys.{among_of, contains_of}
use Rattle.index_laws.proofs.KeyLinks.{links_follow}
use Rattle.index_laws.proofs.NumberedRows.{deadlines_follow, none_past}
use Rattle.index_laws.proofs.QueuesFollow.{waiting_tells}
use Rattle.index_laws.proofs.CountsFollow.{counted}
use Rattle.index_laws.proofs.Greatest.{IsGreatestOf, one_greatest}
use Rattle.index_laws.proofs.ClaimLinks as claimed
use Rattle.index_laws.proofs.UuidLinks as sent
use Rattle.index_laws.proofs.SourcesFollow.{Sourced, last_source_greatest, followed}

-- ---- keys

-- rows with one more are known by what the old ones are known by, and by its own
pub known_push : {K : Type 0} (by : TaskRow → K → Type 0) (tasks : List TaskRow) (row : TaskRow) (k : K) → IsKnown by (tasks ++ row ∷ []) k ↔ (IsKnown by tasks k ⊎ by row k)
known_push {K = K} by tasks row k = (there, back)
  where
    of_row : (y : TaskRow) → Among y (tasks ++ row ∷ []) → by y k → IsKnown by tasks k ⊎ by row k
    of_row =
        each_append (λ (y : TaskRow). by y k → IsKnown by tasks k ⊎ by row k) tasks (row ∷ [])
        (λ y a e. inl (record { task = y; among = contains_of tasks y a; keyed = e }))
        (each_one (λ (y : TaskRow). by y k → IsKnown by tasks k ⊎ by row k) row (λ e. inr e))

    there : IsKnown by (tasks ++ row ∷ []) k → IsKnown by tasks k ⊎ by row k
    there h = of_row h.task (among_of (tasks ++ row ∷ []) h.task h.among) h.keyed

    back : IsKnown by tasks k ⊎ by row k → IsKnown by (tasks ++ row ∷ []) k
    back (inl h) = record { task = h.task; among = contains_of (tasks ++ row ∷ []) h.task (among_left h.task tasks (row ∷ []) (among_of tasks h.task h.among)); keyed = h.keyed }
    back (inr e) = record { task = row; among = contains_of (tasks ++ row ∷ []) row (among_right row tasks (row ∷ []) here); keyed = e }

-- so the keys of rows with one more are the old ones and its own
pub keys_push : {K : Type 0} (key : TaskRow → Option K) (tasks : List TaskRow) (row : TaskRow) → KeysGrow (IsKey key) (key row) tasks (tasks ++ row ∷ [])
keys_push key tasks row k = known_push (IsKey key) tasks row k

-- ---- queues

pub queue_gains : QueueGains
queue_gains tasks row old new queued is = by_place (waiting_of row) (keys_push waiting_of tasks row) is
  where
    by_place : (r : Option (Waiting × QueueSet)) → KeysGrow (IsKey waiting_of) r tasks (tasks ++ row ∷ []) → MatchOption r (SameWaits old new) (λ place. Enters place.0 place.1 old new) → AreQueued new (tasks ++ row ∷ [])
    by_place None grow same = record {
      each = λ w its. (
        λ h. (grow (w, its)).1 (inl ((queued.each w its).0 ((same w its).0 h))),
        λ k. elim ((grow (w, its)).0 k) [ inl h ↦ (same w its).1 ((queued.each w its).1 h) | inr e ↦ absurd (cc (e)) ],
      );
    }
    by_place (Some place) grow enters = record {
      each = λ w its. (
        λ h. elim ((enters w its).0 h) [
          | inl both ↦ (let w_is : place.0 ≡ w = sym both.0 in let its_is : place.1 ≡ its = sym both.1 in let is : place ≡ (w, its) = λ i. (w_is i, its_is i) in (grow (w, its)).1 (inr (ap (λ (p : Waiting × QueueSet). Some p) is)))
          | inr waits ↦ (grow (w, its)).1 (inl ((queued.each w its).0 waits))
        ],
        λ k. elim ((grow (w, its)).0 k) [
          | inl h ↦ (enters w its).1 (inr ((queued.each w its).1 h))
          | inr e ↦ (let is : place ≡ (w, its) = same_Some _ _ e in (enters w its).1 (inl (sym (ap (λ (p : Waiting × QueueSet). p.0) is), sym (ap (λ (p : Waiting × QueueSet). p.1) is))))
        ],
      );
    }

pub queue_is_free : QueueIsFree
queue_is_free s row queues next queued w its waits is =
    let k : HasKey waiting_of s.tasks (w, its) = (queued.each w its).0 waits in
    let low = (number_within no_of_task 1 s.tasks next.0 k.task (among_of s.tasks k.task k.among)).1 in
    let named : k.task.no ≡ w.number = waiting_tells k.task (w, its) k.keyed in
    let own = next.1 in
    absurd (omega (arith, low, named, is, own))

-- ---- claims

-- a claim of the row
abbrev claimed_under : TaskRow → ℕ × List ℕ → Claimed
claimed_under row key = (key.0, key.1, row.no)

-- the links with one of its claims, by what comes
with_claim : (row : TaskRow) (key : Option (ℕ × List ℕ)) (old new : List ClaimLink) → new ≡ links_with (option_map (claim_under row) key) old →
    MatchOption (option_map (claimed_under row) key) (new ≡ old) (λ c. new ≡ old ++ claim_link c ∷ [])
with_claim row None old new e = e
with_claim row (Some key) old new e = e

-- what a key of the row says of a claim
claim_has : (row : TaskRow) (key : Option (ℕ × List ℕ)) (c : Claimed) → key ≡ Some (c.0, c.1) → row.no ≡ c.2 → option_map (claimed_under row) key ≡ Some c
claim_has row key c e is = ap (option_map (claimed_under row)) e ∙ ap (λ (n : ℕ). Some (c.0, c.1, n)) is

claim_is : (row : TaskRow) (key : Option (ℕ × List ℕ)) (c : Claimed) → option_map (claimed_under row) key ≡ Some c → (key ≡ Some (c.0, c.1)) × (row.no ≡ c.2)
claim_is row None c e = absurd (cc (e))
claim_is row (Some key) c e = let is : claimed_under row key ≡ c = same_Some _ _ e in (ap (λ (d : Claimed). Some (d.0, d.1)) is, ap (λ (d : Claimed). d.2) is)

-- the claims of the rows, and the one of the last run of one row more
abbrev WithLast : List TaskRow → TaskRow → Claimed → Type 0
WithLast tasks row c = IsKnown IsClaimOf tasks c ⊎ (option_map (claimed_under row) (claim_key row) ≡ Some c)

claims_push : (tasks : List TaskRow) (row : TaskRow) (c : Claimed) → IsKnown IsClaimOf (tasks ++ row ∷ []) c ↔ (WithLast tasks row c ⊎ (option_map (claimed_under row) (lost_key row) ≡ Some c))
claims_push tasks row c = (λ h. there ((known_push IsClaimOf tasks row c).0 h), λ h. (known_push IsClaimOf tasks row c).1 (back h))
  where
    by_key : row.no ≡ c.2 → soundness.HasKey row (c.0, c.1) → WithLast tasks row c ⊎ (option_map (claimed_under row) (lost_key row) ≡ Some c)
    by_key is (inl e) = inl (inr (claim_has row (claim_key row) c e is))
    by_key is (inr e) = inr (claim_has row (lost_key row) c e is)

    there : IsKnown IsClaimOf tasks c ⊎ IsClaimOf row c → WithLast tasks row c ⊎ (option_map (claimed_under row) (lost_key row) ≡ Some c)
    there (inl k) = inl (inl k)
    there (inr own) = by_key own.1 own.0

    back : WithLast tasks row c ⊎ (option_map (claimed_under row) (lost_key row) ≡ Some c) → IsKnown IsClaimOf tasks c ⊎ IsClaimOf row c
    back (inl (inl k)) = inl k
    back (inl (inr e)) = let its = claim_is row (claim_key row) c e in inr (inl its.0, its.1)
    back (inr e) = let its = claim_is row (lost_key row) c e in inr (inr its.0, its.1)

pub claims_gain : ClaimsGain
claims_gain tasks row old mid new are first second =
    record { each = λ b id n. (λ h. (each_new (b, id, n)).0 (claimed.to_link new b id n h), λ k. claimed.of_link new b id n ((each_new (b, id, n)).1 k)) }
  where
    each_mid : (c : Claimed) → claimed.Holds mid c ↔ WithLast tasks row c
    each_mid =
        links_follow claim_link claimed.claim_in_link (λ x. refl) (IsKnown IsClaimOf tasks) (WithLast tasks row) (option_map (claimed_under row) (claim_key row)) (λ c. (λ h. h, λ h. h)) old mid
        (λ c. (λ h. (are.each c.0 c.1 c.2).0 (claimed.of_link old c.0 c.1 c.2 h), λ k. claimed.to_link old c.0 c.1 c.2 ((are.each c.0 c.1 c.2).1 k)))
        (with_claim row (claim_key row) old mid first)

    each_new : (c : Claimed) → claimed.Holds new c ↔ IsKnown IsClaimOf (tasks ++ row ∷ []) c
    each_new =
        links_follow claim_link claimed.claim_in_link (λ x. refl) (WithLast tasks row) (IsKnown IsClaimOf (tasks ++ row ∷ [])) (option_map (claimed_under row) (lost_key row)) (claims_push tasks row) mid new
        each_mid (with_claim row (lost_key row) mid new second)

-- a row of the next number is none of the others
not_next : (s : PoolState) (row x : TaskRow) → IsNextTask s row → Among x s.tasks → row.no ≡ x.no → ⊥
not_next s row x next a is = let low = (number_within no_of_task 1 s.tasks next.0 x a).1 in let own = next.1 in absurd (omega (arith, low, own, is))

-- the two runs of a row are by two bots
other_bots : (r : Option Attempt) (q : Option Retried) → IfSome r (IsRightTry q) → (a : Attempt) (lost : Retried) → r ≡ Some a → q ≡ Some lost → a.bot ≢ lost.attempt.bot
other_bots None q right a lost e f = absurd (cc (e))
other_bots (Some b) None right a lost e f = absurd (cc (f))
other_bots (Some b) (Some l) right a lost e f = λ is. right.1 (ap (λ (x : Attempt). x.bot) (same_Some _ _ e) ∙ is ∙ sym (ap (λ (x : Retried). x.attempt.bot) (same_Some _ _ f)))

-- a claim of another bot is not the link that comes
still_none : (links : List ClaimLink) (link : ClaimLink) (key : ℕ × List ℕ) → claims.HasNone links key → link.bot ≢ key.0 → claims.HasNone (links ++ link ∷ []) key
still_none links link key old apart =
    record {
      none = λ l c e f.
          each_append (λ (x : ClaimLink). x.bot ≡ key.0 → x.claim ≡ key.1 → ⊥) links (link ∷ []) (λ x a g h. old.none x (contains_of links x a) g h)
          (each_one (λ (x : ClaimLink). x.bot ≡ key.0 → x.claim ≡ key.1 → ⊥) link (λ g h. apart g)) l (among_of (links ++ link ∷ []) l c) e f;
    }

pub claims_are_new : ClaimsAreNew
claims_are_new s row links next apart right are = record { last = by_attempt row.attempt refl; lost = by_retried row.retried refl }
  where
    none_of : (key : ℕ × List ℕ) → soundness.HasKey row key → claims.HasNone links key
    none_of key own =
        claimed.none_from links key.0 key.1 (λ n held.
        let k : IsKnown IsClaimOf s.tasks (key.0, key.1, n) = (are.each key.0 key.1 n).0 (claimed.of_link links key.0 key.1 n held) in
        let among : Among k.task s.tasks = among_of s.tasks k.task k.among in
        not_next s row k.task next among (each (AreClaimedApart row) s.tasks apart k.task among key own k.keyed.0))

    by_attempt : (r : Option Attempt) → row.attempt ≡ r → IfSome (option_map (claim_under row) (option_map key_of r)) (λ link. claims.HasNone links (claims.key_of link))
    by_attempt None is = tt
    by_attempt (Some a) is = none_of (key_of a) (inl (ap (option_map key_of) is))

    with_last : (lost : Retried) → row.retried ≡ Some lost → claims.HasNone links (key_of lost.attempt) → (r : Option Attempt) → row.attempt ≡ r →
        claims.HasNone (links_with (option_map (claim_under row) (option_map key_of r)) links) (key_of lost.attempt)
    with_last lost f none None e = none
    with_last lost f none (Some a) e = still_none links (claim_under row (key_of a)) (key_of lost.attempt) none (other_bots row.attempt row.retried right a lost e f)

    by_retried : (q : Option Retried) → row.retried ≡ q →
        IfSome (option_map (claim_under row) (option_map (λ (lost : Retried). key_of lost.attempt) q)) (λ link. claims.HasNone (links_with (last_claim_link row) links) (claims.key_of link))
    by_retried None is = tt
    by_retried (Some lost) is = with_last lost is (none_of (key_of lost.attempt) (inr (ap (option_map (λ (l : Retried). key_of l.attempt)) is))) row.attempt refl

-- ---- uuids

pub uuids_gain : UuidsGain
uuids_gain tasks row old new are is = record { each = λ who uuid n. (λ h. (each_uuid (who, uuid, n)).0 (sent.to_link new who uuid n h), λ k. sent.of_link new who uuid n ((each_uuid (who, uuid, n)).1 k)) }
  where
    each_uuid : (c : Sent) → sent.Holds new c ↔ HasKey sent_of (tasks ++ row ∷ []) c
    each_uuid =
        links_follow uuid_link sent.sent_in_link (λ x. refl) (HasKey sent_of tasks) (HasKey sent_of (tasks ++ row ∷ [])) (sent_of row) (keys_push sent_of tasks row) old new
        (λ c. (λ h. (are.each c.0 c.1 c.2).0 (sent.of_link old c.0 c.1 c.2 h), λ k. sent.to_link old c.0 c.1 c.2 ((are.each c.0 c.1 c.2).1 k)))
        (sent.with_link (sent_of row) old new is)

sent_by : (x : TaskRow) → is_empty x.request.request_uuid ≡ false → sent_key x ≡ Some (x.creator, x.request.request_uuid)
sent_by x not_empty = rw not_empty refl

pub uuid_is_new : UuidIsNew
uuid_is_new s row links next apart are = by_test (is_empty row.request.request_uuid) refl
  where
    by_test : (c : Bool) → is_empty row.request.request_uuid ≡ c → IfSome (option_map uuid_link (cond {A = Option Sent} c None (Some (row.creator, row.request.request_uuid, row.no)))) (λ link. uuids.HasNone links (uuids.key_of link))
    by_test true is = tt
    by_test false is =
        sent.none_from links row.creator row.request.request_uuid (λ n held.
        let k : HasKey sent_of s.tasks (row.creator, row.request.request_uuid, n) = (are.each row.creator row.request.request_uuid n).0 (sent.of_link links row.creator row.request.request_uuid n held) in
        let among : Among k.task s.tasks = among_of s.tasks k.task k.among in
        let t = sent.sent_tells k.task row.creator row.request.request_uuid n k.keyed in
        not_next s row k.task next among (each (AreSentApart row) s.tasks apart k.task among (row.creator, row.request.request_uuid) (sent_by row is)
        (sent_by k.task t.not_empty ∙ ap (λ (w : List ℕ). Some (w, k.task.request.request_uuid)) t.by ∙ ap (λ (u : List ℕ). Some (row.creator, u)) t.under)))

-- ---- sources

numbered_push : {R : Type 0} (number_of : R → ℕ) (n : ℕ) (rows : List R) (row : R) → AreNumbered number_of n rows → number_of row ≡ n + length rows → AreNumbered number_of n (rows ++ row ∷ [])
numbered_push number_of n [] row are is = (omega (arith, is), tt)
numbered_push number_of n (x ∷ rows) row are is = (are.0, numbered_push number_of (n + 1) rows row are.1 (omega (arith, is)))

pub next_numbered : (s : PoolState) (row : TaskRow) → IsNextTask s row → AreNumbered no_of_task 1 (s.tasks ++ row ∷ [])
next_numbered s row next = let is = next.1 in numbered_push no_of_task 1 s.tasks row next.0 (omega (arith, is))

pub sources_gain : SourcesGain
sources_gain s row old new next are is =
    record {
      each = λ digest. one_greatest (Sourced (s.tasks ++ row ∷ []) digest) (newest_in new digest) (option_map no_of_task (last_source (s.tasks ++ row ∷ []) digest)) (greatest digest)
          (last_source_greatest (s.tasks ++ row ∷ []) (next_numbered s row next) digest);
    }
  where
    greatest : (digest : List ℕ) → IsGreatestOf (Sourced (s.tasks ++ row ∷ []) digest) (newest_in new digest)
    greatest =
        followed (HasKey source_of s.tasks) (HasKey source_of (s.tasks ++ row ∷ [])) old new
        (λ digest. subst (IsGreatestOf (Sourced s.tasks digest)) (sym (are.each digest)) (last_source_greatest s.tasks next.0 digest))
        (source_of row) (keys_push source_of s.tasks row) is

-- ---- sums

pub uses_gain : UsesGain
uses_gain s row digest = sum_by_push (uses_of digest) s.tasks row

pub counts_gain : CountsGain
counts_gain s row state = sum_by_push (counted state) s.tasks row

-- ---- deadlines

module _ {R D : Type 0} (no : R → ℕ) (h g : R → Option D) (rows : List R) (row : R) (old : AreNumbered no 1 rows) (new : AreNumbered no 1 (rows ++ row ∷ [])) where
  -- what is read of another number stays
  others_read : (n : ℕ) → (no row ≡ n → ⊥) → ((x : R) → g x ≡ h x) → option_and_then g (find (has_number no n) (rows ++ row ∷ [])) ≡ option_and_then h (find (has_number no n) rows)
  others_read n other same = by_old (find (has_number no n) rows) refl
    where
      none_new : ((x : R) → Among x rows → (no x == n) ≡ false) → (r : Option R) → find (has_number no n) (rows ++ row ∷ []) ≡ r → option_and_then g r ≡ None
      none_new absent None e = refl
      none_new absent (Some y) e =
          (let f : Found (has_number no n) (rows ++ row ∷ []) y = find_is (has_number no n) (rows ++ row ∷ []) y e in
          absurd (each_append (λ (z : R). (no z == n) ≡ true → ⊥) rows (row ∷ []) (λ z a t. let off = absent z a in cc (off, t)) (each_one (λ (z : R). (no z == n) ≡ true → ⊥) row (λ t. other (eqb-true (no row) n t))) y f.among f.passes))

      by_old : (r : Option R) → find (has_number no n) rows ≡ r → option_and_then g (find (has_number no n) (rows ++ row ∷ [])) ≡ option_and_then h r
      by_old None e = none_new (find_none (has_number no n) rows e) (find (has_number no n) (rows ++ row ∷ [])) refl
      by_old (Some x) e =
          (let f : Found (has_number no n) rows x = find_is (has_number no n) rows x e in
          ap (option_and_then g) (subst (λ (k : ℕ). find (has_number no k) (rows ++ row ∷ []) ≡ Some x) (eqb-true (no x) n f.passes) (number_finds no 1 (rows ++ row ∷ []) new x (among_left x rows (row ∷ []) f.among))) ∙ same x)

  own_read : option_and_then g (find (has_number no (no row)) (rows ++ row ∷ [])) ≡ g row
  own_read = ap (option_and_then g) (number_finds no 1 (rows ++ row ∷ []) new row (among_right row rows (row ∷ []) here))

pub task_deadlines_gain : TaskDeadlinesGain
task_deadlines_gain s row ends next are covered n =
    let numbered = next_numbered s row next in
    let own : task_deadline_of (with_task s row) row.no ≡ task_deadline s row = own_read no_of_task (task_deadline s) (task_deadline (with_task s row)) s.tasks row next.0 numbered in
    subst (λ (d : Option Deadline). deadline_at (set_at d) n ≡ task_deadline_of (with_task s row) n) own
    (deadlines_follow (task_deadline_of s) (task_deadline_of (with_task s row)) (Some row.no) ends are
    (λ k other. others_read no_of_task (task_deadline s) (task_deadline (with_task s row)) s.tasks row next.0 numbered k (λ e. other (ap (λ (i : ℕ). Some i) e)) (λ x. refl))
    (λ k far. none_past no_of_task (task_deadline (with_task s row)) (s.tasks ++ row ∷ []) numbered k (past k far)) n)
  where
    set_at : Option Deadline → List (Option Deadline)
    set_at d = set ends row.no d

    past : (k : ℕ) → length ends ≤ k → length (s.tasks ++ row ∷ []) < k
    past k far = let all = length-append s.tasks (row ∷ []) in let is = next.1 in omega (arith, all, is, far, covered)

pub bot_deadlines_gain : BotDeadlinesGain
bot_deadlines_gain s row ends next are covered n =
    subst (λ (d : Option Deadline). deadline_at (set ends row.no d) n ≡ bot_deadline_of (with_bot s row) n) own
    (deadlines_follow (bot_deadline_of s) (bot_deadline_of (with_bot s row)) (Some row.no) ends are
    (λ k other. others_read no_of_bot (bot_end s) (bot_end (with_bot s row)) s.bots row next.0 numbered k (λ e. other (ap (λ (i : ℕ). Some i) e)) (λ x. refl))
    (λ k far. none_past no_of_bot (bot_end (with_bot s row)) (s.bots ++ row ∷ []) numbered k (past k far)) n)
  where
    numbered : AreNumbered no_of_bot 1 (s.bots ++ row ∷ [])
    numbered = let is = next.1 in numbered_push no_of_bot 1 s.bots row next.0 (omega (arith, is))

    own : bot_deadline_of (with_bot s row) row.no ≡ bot_end s row
    own = own_read no_of_bot (bot_end s) (bot_end (with_bot s row)) s.bots row next.0 numbered

    past : (k : ℕ) → length ends ≤ k → length (s.bots ++ row ∷ []) < k
    past k far = let all = length-append s.bots (row ∷ []) in let is = next.1 in omega (arith, all, is, far, covered)

pub blob_deadlines_gain : BlobDeadlinesGain
blob_deadlines_gain s row old new are adds = record { each = λ d. (there d, back d) }
  where
    both : map blob_end (s.blobs ++ row ∷ []) ≡ map blob_end s.blobs ++ blob_end row ∷ []
    both = map-append blob_end s.blobs (row ∷ [])

    own : Among (blob_end row) (map blob_end s.blobs ++ blob_end row ∷ [])
    own = among_right (blob_end row) (map blob_end s.blobs) (blob_end row ∷ []) here

    there : (d : Deadline) → Contains new d → Contains (map blob_end (s.blobs ++ row ∷ [])) d
    there d c =
        subst (λ (l : List Deadline). Contains l d) (sym both) (contains_of (map blob_end s.blobs ++ blob_end row ∷ []) d (elim ((adds.each d).0 c) [
          | inl e ↦ subst (λ (z : Deadline). Among z (map blob_end s.blobs ++ blob_end row ∷ [])) (sym e) own
          | inr had ↦ among_left d (map blob_end s.blobs) (blob_end row ∷ []) (among_of (map blob_end s.blobs) d ((are.each d).0 had))
        ]))

    back : (d : Deadline) → Contains (map blob_end (s.blobs ++ row ∷ [])) d → Contains new d
    back d c =
        each_append (λ (z : Deadline). z ≡ d → Contains new d) (map blob_end s.blobs) (blob_end row ∷ [])
        (λ z a e. (adds.each d).1 (inr ((are.each d).1 (contains_of (map blob_end s.blobs) d (subst (λ (y : Deadline). Among y (map blob_end s.blobs)) e a)))))
        (each_one (λ (z : Deadline). z ≡ d → Contains new d) (blob_end row) (λ e. (adds.each d).1 (inl (sym e))))
        d (among_of (map blob_end s.blobs ++ blob_end row ∷ []) d (subst (λ (l : List Deadline). Contains l d) both c)) refl
