-- After an entry only the link of the touched row has to be noted.
use Rattle.std.proofs.Common.{◌≡◌, ◌↔◌, ℕ, ◌<◌, ◌≤◌, ◌&&◌, Bool, true, false, cond, List, ◌⊎◌, inl, inr, refl, sym, ap, ◌∙◌, subst, arith, Option, Some, None}
use Rattle.std.specs.Prelude.{nat_lt}
use Rattle.std.specs.Option.{option_map, option_map_or, option_and_then}
use Rattle.std.proofs.lemmas.Bool.{and_parts, and_from, cases_Bool, cond_both, cond-true, ltb-true, ltb-false}
use Rattle.std.proofs.lemmas.Option.{same_Some}
use Rattle.dimensions.specs.Alike.{same}
use Rattle.task_props.specs.Canonical.{hash}
use Rattle.index_laws.specs.Types.{Slice, TaskState, Completed, TaskRow, PoolState, Entry, SourceLink}
use Rattle.swarm_model.specs.Finding.{has_state, is_state, is_final}
use Rattle.swarm_model.specs.Slices.{current_slice}
use Rattle.swarm_model.specs.Reuse.{ended_well, has_hash, ran_hash}
use Rattle.swarm_model.specs.Effects.{no_of_task, after}
use Rattle.swarm_model.specs.History.{MayFollow}
use Rattle.swarm_model.specs.Numbers.{AreNumbered}
use Rattle.swarm_model.specs.Soundness.{IsSound}
use Rattle.pool_laws.proofs.Alike.{same_is, is_same}
use Rattle.pool_laws.proofs.EntryPreconditions.{finds}
use Rattle.pool_laws.proofs.Numbers.{tasks_numbered}
use Rattle.pool_index.specs.Sources.{newest_in, greater_of, IsNoted, AreWith}
use Rattle.index_laws.specs.Touched.{touched_task}
use Rattle.index_laws.specs.Keys.{IsKey, HasKey, KeysGrow}
use Rattle.index_laws.specs.TaskSources.{hash_of_slice, slice_hash_of, link_under, source_of, has_source_hash, last_source, source_link_to_come, SourcesFollow}
use Rattle.index_laws.proofs.Keys.{among_of, contains_of, keyed_after}
use Rattle.index_laws.proofs.TouchedRows.{touched_goes_on}
use Rattle.index_laws.proofs.Greatest.{IsGreatest, IsGreatestOf, Passes, one_greatest, same_greatest, last_is_greatest}

-- ---- what a row gives

-- a task that ended well has ended
well_final : (x : TaskRow) → ended_well x ≡ true → is_final x.state ≡ true
well_final x e = by_state x.state (and_parts (has_state Completed x) _ e).0
  where
    by_state : (state : TaskState) → is_state state Completed ≡ true → is_final state ≡ true
    by_state Completed g = refl
    by_state state g = absurd (cc (g))

-- the link of a row that gives one
record Gives (x : TaskRow) (link : SourceLink) : Type 0 where
  well : ended_well x ≡ true
  hash_is : slice_hash_of x ≡ Some link.hash
  task_is : x.no ≡ link.task

gives : (x : TaskRow) (link : SourceLink) → source_of x ≡ Some link → Gives x link
gives x link e = by_test (ended_well x) refl e
  where
    by_hash : ended_well x ≡ true → (r : Option (List ℕ)) → slice_hash_of x ≡ r → option_map (link_under x) r ≡ Some link → Gives x link
    by_hash t None h g = absurd (cc (g))
    by_hash t (Some digest) h g =
        (let is : link_under x digest ≡ link = same_Some _ _ g in
        record { well = t; hash_is = h ∙ ap (λ (l : SourceLink). Some l.hash) is; task_is = ap (λ (l : SourceLink). l.task) is })

    by_test : (c : Bool) → ended_well x ≡ c → option_map (link_under x) (cond c (slice_hash_of x) None) ≡ Some link → Gives x link
    by_test true t g = by_hash t (slice_hash_of x) refl g
    by_test false t g = absurd (cc (g))

-- a slice has a hash where it may stand for others
hash_told : (digest : List ℕ) (slice : Slice) → hash_of_slice slice ≡ Some digest → has_hash digest slice ≡ true
hash_told digest slice e = by_test slice.properties.idempotent refl e
  where
    by_test : (c : Bool) → slice.properties.idempotent ≡ c → cond c (Some (hash slice.properties)) None ≡ Some digest → (c && same (hash slice.properties) digest) ≡ true
    by_test true t g = is_same (hash slice.properties) digest (same_Some _ _ g)
    by_test false t g = absurd (cc (g))

has_told : (digest : List ℕ) (slice : Slice) → has_hash digest slice ≡ true → hash_of_slice slice ≡ Some digest
has_told digest slice e =
    let both = and_parts slice.properties.idempotent (same (hash slice.properties) digest) e in
    cond-true slice.properties.idempotent (Some (hash slice.properties)) None both.0 ∙ ap (λ (h : List ℕ). Some h) (same_is (hash slice.properties) digest both.1)

-- so has the slice of a row
ran_told : (digest : List ℕ) (x : TaskRow) → slice_hash_of x ≡ Some digest → ran_hash digest x ≡ true
ran_told digest x e = by_slice (current_slice x) e
  where
    by_slice : (r : Option Slice) → option_and_then hash_of_slice r ≡ Some digest → option_map_or (has_hash digest) r false ≡ true
    by_slice None g = absurd (cc (g))
    by_slice (Some slice) g = hash_told digest slice g

ran_has : (digest : List ℕ) (x : TaskRow) → ran_hash digest x ≡ true → slice_hash_of x ≡ Some digest
ran_has digest x e = by_slice (current_slice x) e
  where
    by_slice : (r : Option Slice) → option_map_or (has_hash digest) r false ≡ true → option_and_then hash_of_slice r ≡ Some digest
    by_slice None g = absurd (cc (g))
    by_slice (Some slice) g = has_told digest slice g

-- ---- rows

abbrev link_of : List ℕ → ℕ → SourceLink
link_of digest n = record { hash = digest; task = n }

-- some row has the number, and others of the hash may take its outcome
abbrev pub Sourced : List TaskRow → List ℕ → ℕ → Type 0
Sourced tasks digest n = HasKey source_of tasks (link_of digest n)

passes_key : (tasks : List TaskRow) (digest : List ℕ) (n : ℕ) → Passes (has_source_hash digest) tasks n → Sourced tasks digest n
passes_key tasks digest n p =
    let x : TaskRow = p.row in
    let both = and_parts (ended_well x) (ran_hash digest x) p.passes in
    record {
      task = x;
      among = contains_of tasks x p.among;
      keyed = ap (option_map (link_under x)) (cond-true (ended_well x) (slice_hash_of x) None both.0 ∙ ran_has digest x both.1) ∙ ap (λ (k : ℕ). Some (link_of digest k)) p.named;
    }

key_passes : (tasks : List TaskRow) (digest : List ℕ) (n : ℕ) → Sourced tasks digest n → Passes (has_source_hash digest) tasks n
key_passes tasks digest n h =
    let g : Gives h.task (link_of digest n) = gives h.task (link_of digest n) h.keyed in
    record { row = h.task; among = among_of tasks h.task h.among; passes = and_from (ended_well h.task) (ran_hash digest h.task) g.well (ran_told digest h.task g.hash_is); named = g.task_is }

-- the last of the rows of a hash has the greatest number
pub last_source_greatest : (tasks : List TaskRow) → AreNumbered no_of_task 1 tasks → (digest : List ℕ) → IsGreatestOf (Sourced tasks digest) (option_map no_of_task (last_source tasks digest))
last_source_greatest tasks are digest =
    same_greatest (Passes (has_source_hash digest) tasks) (Sourced tasks digest) (λ n. (passes_key tasks digest n, key_passes tasks digest n))
    (option_map no_of_task (last_source tasks digest)) (last_is_greatest (has_source_hash digest) tasks are)

-- no row ceases to be a source, and at most the touched one becomes one
sources_grow : (s : PoolState) (e : Entry) → IsSound s → MayFollow s e → KeysGrow (IsKey source_of) (source_link_to_come s e) s.tasks (after s e).tasks
sources_grow s e o follows link = (λ h. elim (keyed.0 h) [ inl both ↦ inl both.0 | inr c ↦ inr c ], λ h. keyed.1 (elim h [ inl k ↦ inl (k, untouched k) | inr c ↦ inr c ]))
  where
    keyed : HasKey source_of (after s e).tasks link ↔ ((HasKey source_of s.tasks link × (touched_task s e.kind ≡ Some link.task → ⊥)) ⊎ (source_link_to_come s e ≡ Some link))
    keyed = keyed_after s e o follows source_of (λ l. l.task) (λ x l h. (gives x l h).task_is) link

    untouched : HasKey source_of s.tasks link → touched_task s e.kind ≡ Some link.task → ⊥
    untouched k u =
        let g : Gives k.task link = gives k.task link k.keyed in
        let over : is_final k.task.state ≡ true = well_final k.task g.well in
        let on : is_final k.task.state ≡ false = touched_goes_on s o k.task (among_of s.tasks k.task k.among) e.kind (finds s e follows) (u ∙ ap (λ (n : ℕ). Some n) (sym g.task_is)) in
        cc (over, on)

-- ---- links

module _ (Old New : SourceLink → Type 0) (old new : List SourceLink) (are : (digest : List ℕ) → IsGreatestOf (λ n. Old (link_of digest n)) (newest_in old digest)) where
  -- where no number comes under a hash, the greatest stays
  unchanged : (digest : List ℕ) → ((n : ℕ) → New (link_of digest n) ↔ Old (link_of digest n)) → newest_in new digest ≡ newest_in old digest → IsGreatestOf (λ n. New (link_of digest n)) (newest_in new digest)
  unchanged digest same e =
      subst (IsGreatestOf (λ n. New (link_of digest n))) (sym e)
      (same_greatest (λ n. Old (link_of digest n)) (λ n. New (link_of digest n)) (λ n. ((same n).1, (same n).0)) (newest_in old digest) (are digest))

  -- where a number comes, the greater one is the greatest
  module _ (link : SourceLink) (grow : (l : SourceLink) → New l ↔ (Old l ⊎ (Some link ≡ Some l))) where
    abbrev OldNumber : ℕ → Type 0
    OldNumber n = Old (link_of link.hash n)

    abbrev NewNumber : ℕ → Type 0
    NewNumber n = New (link_of link.hash n)

    by_newest : (r : Option ℕ) → IsGreatestOf OldNumber r → IsGreatest NewNumber (greater_of r link.task)
    by_newest None g =
        record {
          has = (grow link).1 (inr refl);
          most = λ m q. elim ((grow (link_of link.hash m)).0 q) [ inl p ↦ absurd (g m p) | inr c ↦ (let is : link.task ≡ m = ap (λ (l : SourceLink). l.task) (same_Some _ _ c) in omega (arith, is)) ];
        }
    by_newest (Some k) g =
        cond_both (nat_lt k link.task) link.task k (IsGreatest NewNumber)
        (λ t. let less : k < link.task = ltb-true k link.task t in record {
          has = (grow link).1 (inr refl);
          most = λ m q. elim ((grow (link_of link.hash m)).0 q) [
            | inl p ↦ (let high = g.most m p in omega (arith, high, less))
            | inr c ↦ (let is : link.task ≡ m = ap (λ (l : SourceLink). l.task) (same_Some _ _ c) in omega (arith, is))
          ];
        })
        (λ f. let more : link.task ≤ k = ltb-false k link.task f in record {
          has = (grow (link_of link.hash k)).1 (inl g.has);
          most = λ m q. elim ((grow (link_of link.hash m)).0 q) [
            | inl p ↦ g.most m p
            | inr c ↦ (let is : link.task ≡ m = ap (λ (l : SourceLink). l.task) (same_Some _ _ c) in omega (arith, is, more))
          ];
        })

    noted : IsNoted link old new → (digest : List ℕ) → IsGreatestOf (λ n. New (link_of digest n)) (newest_in new digest)
    noted is digest = elim (cases_Bool (same digest link.hash)) [
      | inl t ↦ subst (λ (d : List ℕ). IsGreatestOf (λ n. New (link_of d n)) (newest_in new d)) (sym (same_is digest link.hash t))
          (subst (IsGreatestOf NewNumber) (sym is.own) (by_newest (newest_in old link.hash) (are link.hash)))
      | inr f ↦ other (λ e. let t : same digest link.hash ≡ true = is_same digest link.hash e in cc (t, f))
    ]
      where
        other : (digest ≡ link.hash → ⊥) → IsGreatestOf (λ n. New (link_of digest n)) (newest_in new digest)
        other ne =
            unchanged digest (λ n. (
              λ q. elim ((grow (link_of digest n)).0 q) [
                | inl p ↦ p
                | inr c ↦ absurd (ne (sym (ap (λ (l : SourceLink). l.hash) (same_Some _ _ c))))
              ],
              λ p. (grow (link_of digest n)).1 (inl p),
            )) (is.others digest ne)

  pub followed : (come : Option SourceLink) → ((l : SourceLink) → New l ↔ (Old l ⊎ (come ≡ Some l))) → AreWith come old new → (digest : List ℕ) → IsGreatestOf (λ n. New (link_of digest n)) (newest_in new digest)
  followed None grow is digest =
      unchanged digest (λ n. (λ q. elim ((grow (link_of digest n)).0 q) [ inl p ↦ p | inr c ↦ absurd (cc (c)) ], λ p. (grow (link_of digest n)).1 (inl p)))
      (ap (λ (links : List SourceLink). newest_in links digest) is)
  followed (Some link) grow is digest = noted link grow is digest

pub sources_follow : SourcesFollow
sources_follow s e o follows old new are is = record { each = λ digest. one_greatest (Sourced (after s e).tasks digest) (newest_in new digest) (option_map no_of_task (last_source (after s e).tasks digest)) (greatest digest) (last_source_greatest (after s e).tasks (tasks_numbered s e o follows) digest) }
  where
    greatest : (digest : List ℕ) → IsGreatestOf (Sourced (after s e).tasks digest) (newest_in new digest)
    greatest =
        followed (HasKey source_of s.tasks) (HasKey source_of (after s e).tasks) old new
        (λ digest. subst (IsGreatestOf (Sourced s.tasks digest)) (sym (are.each digest)) (last_source_greatest s.tasks o.tasks_numbered digest))
        (source_link_to_come s e) (sources_grow s e o follows) is
