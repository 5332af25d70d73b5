-- The uuids that an index holds are those of the rows.
use Rattle.std.proofs.Common.{◌≡◌, ◌↔◌, ℕ, Bool, true, false, cond, List, [], ◌∷◌, ◌++◌, find, refl, sym, ap, ◌∙◌, subst, Option, Some, None, IfSome, MatchOption}
use Rattle.std.specs.Option.{option_map, option_and_then}
use Rattle.std.proofs.lemmas.Bool.{and_parts}
use Rattle.std.proofs.lemmas.Option.{same_Some}
use Rattle.dimensions.specs.Alike.{same}
use Rattle.dimensions.specs.Rules.{is_empty}
use Rattle.index_laws.specs.Types.{TaskRow, PoolState, EntryKind, UuidLink}
use Rattle.swarm_model.specs.declared.entry.EntryKind.TheVariants as kind
use Rattle.swarm_model.specs.Finding.{task_of}
use Rattle.swarm_model.specs.Reuse.{sent, is_sent}
use Rattle.swarm_model.specs.Effects.{after}
use Rattle.swarm_model.specs.Soundness.{IsSound}
use Rattle.pool_laws.proofs.Alike.{same_is}
use Rattle.pool_laws.proofs.Lists.{Among, Found, find_is}
use Rattle.pool_laws.proofs.Preconditions.{Finds}
use Rattle.pool_laws.proofs.EntryPreconditions.{finds}
use Rattle.pool_laws.proofs.Rows.{find_task}
use Rattle.pool_laws.proofs.UuidLaw.{sent_found}
use Rattle.pool_index.specs.Uuids.{HasUuid, HasNone, key_of, links_with}
use Rattle.index_laws.specs.Keys.{HasKey}
use Rattle.index_laws.specs.TaskUuids.{Sent, sent_of, uuid_to_come, uuid_link, AreUuids, UuidsFollow, UuidsAreFresh, UuidIsFound}
use Rattle.index_laws.proofs.Keys.{among_of, contains_of}
use Rattle.index_laws.proofs.KeysGrow.{uuids_grow}
use Rattle.index_laws.proofs.KeyLinks.{links_follow}

-- ---- links

-- some link is that of the uuid
abbrev pub Holds : List UuidLink → Sent → Type 0
Holds links c = Among (uuid_link c) links

pub to_link : (links : List UuidLink) (who uuid : List ℕ) (n : ℕ) → HasUuid links (who, uuid) n → Holds links (who, uuid, n)
to_link links who uuid n h =
    let its : Sent = (who, uuid, n) in
    let is : h.link ≡ uuid_link its = λ i. let l : UuidLink = record { creator = h.creator_is i; uuid = h.uuid_is i; task = h.task_is i } in l in
    subst (λ (l : UuidLink). Among l links) is (among_of links h.link h.among)

pub of_link : (links : List UuidLink) (who uuid : List ℕ) (n : ℕ) → Holds links (who, uuid, n) → HasUuid links (who, uuid) n
of_link links who uuid n a = let its : Sent = (who, uuid, n) in record { link = uuid_link its; among = contains_of links (uuid_link its) a; creator_is = refl; uuid_is = refl; task_is = refl }

-- where a caller sent nothing under a uuid, there is no link of such a task
none_holds : (links : List UuidLink) (who uuid : List ℕ) → HasNone links (who, uuid) → (n : ℕ) → Holds links (who, uuid, n) → ⊥
none_holds links who uuid h n a = let its : Sent = (who, uuid, n) in h.none (uuid_link its) (contains_of links (uuid_link its) a) refl refl

pub none_from : (links : List UuidLink) (who uuid : List ℕ) → ((n : ℕ) → Holds links (who, uuid, n) → ⊥) → HasNone links (who, uuid)
none_from links who uuid h = record { none = λ link c e f. h link.task (to_link links who uuid link.task (record { link = link; among = c; creator_is = e; uuid_is = f; task_is = refl })) }

-- the links with the one to come, by what comes
pub with_link : (come : Option Sent) (old new : List UuidLink) → new ≡ links_with (option_map uuid_link come) old → MatchOption come (new ≡ old) (λ y. new ≡ old ++ uuid_link y ∷ [])
with_link None old new e = e
with_link (Some y) old new e = e

-- what a link tells
abbrev pub sent_in_link : UuidLink → Sent
sent_in_link link = (link.creator, link.uuid, link.task)

pub uuids_follow : UuidsFollow
uuids_follow s e o follows old new are is = record { each = λ who uuid n. (λ h. (each (who, uuid, n)).0 (to_link new who uuid n h), λ k. of_link new who uuid n ((each (who, uuid, n)).1 k)) }
  where
    each : (c : Sent) → Holds new c ↔ HasKey sent_of (after s e).tasks c
    each =
        links_follow uuid_link sent_in_link (λ x. refl) (HasKey sent_of s.tasks) (HasKey sent_of (after s e).tasks) (uuid_to_come e.kind) (uuids_grow s e o follows) old new
        (λ c. (λ h. (are.each c.0 c.1 c.2).0 (of_link old c.0 c.1 c.2 h), λ k. to_link old c.0 c.1 c.2 ((are.each c.0 c.1 c.2).1 k)))
        (with_link (uuid_to_come e.kind) old new is)

-- ---- rows

-- a caller sent the row under a uuid that is not empty
pub record IsSentAs (x : TaskRow) (who uuid : List ℕ) (n : ℕ) : Type 0 where
  pub number : x.no ≡ n
  pub by : x.creator ≡ who
  pub under : x.request.request_uuid ≡ uuid
  pub not_empty : is_empty x.request.request_uuid ≡ false

pub sent_tells : (x : TaskRow) (who uuid : List ℕ) (n : ℕ) → sent_of x ≡ Some (who, uuid, n) → IsSentAs x who uuid n
sent_tells x who uuid n e = by_test (is_empty x.request.request_uuid) refl e
  where
    by_test : (c : Bool) → is_empty x.request.request_uuid ≡ c → cond {A = Option Sent} c None (Some (x.creator, x.request.request_uuid, x.no)) ≡ Some (who, uuid, n) → IsSentAs x who uuid n
    by_test true t g = absurd (cc (g))
    by_test false t g =
        (let own : Sent = (x.creator, x.request.request_uuid, x.no) in
        let its : Sent = (who, uuid, n) in
        let all : own ≡ its = same_Some _ _ g in
        record { number = ap (λ (p : Sent). p.2) all; by = ap (λ (p : Sent). p.0) all; under = ap (λ (p : Sent). p.1) all; not_empty = t })

-- a row that the caller sent under a uuid has it, where it is not empty
sent_has : (x : TaskRow) (who uuid : List ℕ) → is_empty uuid ≡ false → is_sent who uuid x ≡ true → sent_of x ≡ Some (who, uuid, x.no)
sent_has x who uuid not_empty e =
    let both = and_parts (same x.creator who) (same x.request.request_uuid uuid) e in
    let by : x.creator ≡ who = same_is x.creator who both.0 in
    let under : x.request.request_uuid ≡ uuid = same_is x.request.request_uuid uuid both.1 in
    rw (by, under, not_empty) refl

module _ (s : PoolState) (o : IsSound s) (links : List UuidLink) (are : AreUuids links s.tasks) (who uuid : List ℕ) where
  -- the row of a link is found by the caller and the uuid
  row_found : (n : ℕ) (k : HasKey sent_of s.tasks (who, uuid, n)) → sent s who uuid ≡ Some k.task
  row_found n k =
      let t : IsSentAs k.task who uuid n = sent_tells k.task who uuid n k.keyed in
      let own : sent s k.task.creator k.task.request.request_uuid ≡ Some k.task = sent_found s o k.task (among_of s.tasks k.task k.among) t.not_empty in
      subst (λ (u : List ℕ). sent s who u ≡ Some k.task) t.under (subst (λ (w : List ℕ). sent s w k.task.request.request_uuid ≡ Some k.task) t.by own)

  row_of_link : (n : ℕ) → HasUuid links (who, uuid) n → task_of s n ≡ sent s who uuid
  row_of_link n h =
      let k : HasKey sent_of s.tasks (who, uuid, n) = (are.each who uuid n).0 h in
      let t : IsSentAs k.task who uuid n = sent_tells k.task who uuid n k.keyed in
      find_task s o k.task n (among_of s.tasks k.task k.among) t.number ∙ sym (row_found n k)

  -- and where there is none, the caller sent none
  none_sent : HasNone links (who, uuid) → sent s who uuid ≡ None
  none_sent none = by_test (is_empty uuid) refl
    where
      by_found : is_empty uuid ≡ false → (r : Option TaskRow) → find (is_sent who uuid) s.tasks ≡ r → r ≡ None
      by_found not_empty None g = refl
      by_found not_empty (Some x) g =
          (let f : Found (is_sent who uuid) s.tasks x = find_is (is_sent who uuid) s.tasks x g in
          let h : HasUuid links (who, uuid) x.no = (are.each who uuid x.no).1 (record { task = x; among = contains_of s.tasks x f.among; keyed = sent_has x who uuid not_empty f.passes }) in
          absurd (none_holds links who uuid none x.no (to_link links who uuid x.no h)))

      by_test : (c : Bool) → is_empty uuid ≡ c → cond c None (find (is_sent who uuid) s.tasks) ≡ None
      by_test true t = refl
      by_test false t = by_found t (find (is_sent who uuid) s.tasks) refl

  found_is : (found : Option ℕ) → MatchOption found (HasNone links (who, uuid)) (HasUuid links (who, uuid)) → option_and_then (task_of s) found ≡ sent s who uuid
  found_is None none = sym (none_sent none)
  found_is (Some n) h = row_of_link n h

  -- a uuid under which the caller sent none has no link
  fresh_uuid : sent s who uuid ≡ None → HasNone links (who, uuid)
  fresh_uuid g = none_from links who uuid (λ n a. let k : HasKey sent_of s.tasks (who, uuid, n) = (are.each who uuid n).0 (of_link links who uuid n a) in cc (g, row_found n k))

pub uuid_is_found : UuidIsFound
uuid_is_found s o links are who uuid found h = found_is s o links are who uuid found h

pub uuids_are_fresh : UuidsAreFresh
uuids_are_fresh s e o follows links are = by_kind e.kind (finds s e follows)
  where
    by_kind : (k : EntryKind) → Finds s k → IfSome (option_map uuid_link (uuid_to_come k)) (λ link. HasNone links (key_of link))
    by_kind (kind.New t who request state slice from) f = by_test (is_empty request.request_uuid)
      where
        by_test : (c : Bool) → IfSome (option_map uuid_link (cond {A = Option Sent} c None (Some (who, request.request_uuid, t)))) (λ link. HasNone links (key_of link))
        by_test true = tt
        by_test false = fresh_uuid s o links are who request.request_uuid f.unsent
    by_kind k f = tt
