-- Workers that end one after another, and their passes, joined.
use Rattle.std.proofs.Common.{◌≡◌, ℕ, zero, suc, ◌+◌, ◌<◌, ◌≤◌, ◌==◌, if◌then◌else◌, slice_index_or, List, [], ◌∷◌, ◌++◌, length, map, flat_map, Option, Some, None, IfSome, All, refl, sym, ap, subst, ◌∙◌, arith, append-nil, append_assoc}
use Rattle.std.proofs.lemmas.Grind.{flat_map-append}
use Rattle.std.proofs.lemmas.List.{get_or_past, length-map, length_push, map-append}
use Rattle.std.proofs.lemmas.List.Elements.{All-push}
use Rattle.sw_base.specs.Acceptors.{AcceptorState}
use Rattle.sw_base.specs.Listeners.{ListenerState, Shuts}
use Rattle.sw_base.specs.Told.{Adds, IsOut}
use Rattle.swarm_workers.specs.Types.{Entry, PoolSettings, PoolView}
use Rattle.pool_doors.specs.Doors.{DoorState}
use Rattle.turnstile.specs.Numbers.{times, own}
use Rattle.shared_doors.specs.Joined.{by, Joins}
use Rattle.shared_doors.specs.SharedDoors.{shared_door}
use Rattle.shared_doors.specs.Views.{nothing, view_at}
use Rattle.swarm_workers.specs.declared.worked.WorkStop.{WorkStop}
use Rattle.swarm_workers.specs.declared.worked.WorkStop.TheVariants as stop
use Rattle.swarm_workers.specs.Crews.{IsFirst, IsJoined, ShutsAll, graver, gravest, stop_of}

times_append : (k : ℕ) (xs ys : List ℕ) → times k (xs ++ ys) ≡ times k xs + times k ys
times_append k [] ys = omega arith
times_append k (n ∷ xs) ys = let rest = times_append k xs ys in omega (arith, rest)

-- a number that one of the doors has is one of all
pub times_all : (k place : ℕ) (doors : List DoorState) (i : ℕ) (d : DoorState) → i < length doors → 0 < times k ((slice_index_or doors i d).writer.joined place)
    → 0 < times k (flat_map (λ (door : DoorState). door.writer.joined place) doors)
times_all k place [] i d low has = absurd (omega (arith, low))
times_all k place (x ∷ doors) zero d low has = let sum = times_append k (x.writer.joined place) (flat_map (λ (door : DoorState). door.writer.joined place) doors) in omega (arith, has, sum)
times_all k place (x ∷ doors) (suc i) d low has =
    let sum = times_append k (x.writer.joined place) (flat_map (λ (door : DoorState). door.writer.joined place) doors) in
    let rest = times_all k place doors i d (omega (arith, low)) has in
    omega (arith, rest, sum)

-- what a pass knows, told by its door
pub record Tells (place : ℕ) (door : DoorState) (v : PoolView) : Type 0 where
  pub seen : door.seen place ≡ v.seen
  pub joined : door.writer.joined place ≡ v.numbers
  pub number : door.writer.numbers place ≡ v.number
  pub made : door.writer.made place ≡ v.made

number_at : (vs : List PoolView) (p : ℕ) → slice_index_or (map (λ (v : PoolView). v.number) vs) p 0 ≡ (view_at vs p).number
number_at [] p = get_or_past [] p 0 (omega arith) ∙ sym (ap (λ (v : PoolView). v.number) (get_or_past [] p nothing (omega arith)))
number_at (v ∷ vs) zero = refl
number_at (v ∷ vs) (suc p) = number_at vs p

pub tells : (store : Option (List ℕ)) (pools : List PoolSettings) (logs : ℕ → List ℕ) (vs : List PoolView) (door : DoorState) → door ≡ shared_door store pools logs vs
    → (place : ℕ) → Tells place door (view_at vs place)
tells store pools logs vs door is place = subst (λ (d : DoorState). Tells place d (view_at vs place)) (sym is) (record { seen = refl; joined = refl; number = number_at vs place; made = refl })

-- the pass of one door alone
pub joined_one : (place : ℕ) (door : DoorState) (v : PoolView) → Tells place door v → IsJoined place (door ∷ []) v
joined_one place door v t = record {
  numbers = sym t.joined ∙ sym (append-nil (door.writer.joined place));
  begins = All-push (λ (d : DoorState). (rest : List Entry) × (v.seen ≡ d.seen place ++ rest)) [] door (λ i d low. absurd (omega (arith, low))) ([], sym t.seen ∙ sym (append-nil (door.seen place)));
  own = All-push (λ (d : DoorState). (k : ℕ) → 0 < times k (d.writer.joined place) → own by k v.seen ≡ own by k (d.seen place)) [] door (λ i d low. absurd (omega (arith, low))) (λ k has. ap (own by k) (sym t.seen));
}

-- the pass of one door more is joined
pub joined_more : (place : ℕ) (doors : List DoorState) (door : DoorState) (v w n : PoolView) → IsJoined place doors v → Tells place door w → Joins v w n → IsJoined place (doors ++ door ∷ []) n
joined_more place doors door v w n old t j = record {
  numbers = j.numbers ∙ ap (λ (ns : List ℕ). ns ++ w.numbers) old.numbers ∙ ap (λ (ns : List ℕ). flat_map (λ (d : DoorState). d.writer.joined place) doors ++ ns) (sym t.joined ∙ sym (append-nil (door.writer.joined place)))
      ∙ sym (flat_map-append (λ (d : DoorState). d.writer.joined place) doors (door ∷ []));
  begins = All-push (λ (d : DoorState). (rest : List Entry) × (n.seen ≡ d.seen place ++ rest)) doors door
      (λ i d low. let b = old.begins i d low in (b.0 ++ j.begins_one.0, j.begins_one.1 ∙ ap (λ (s : List Entry). s ++ j.begins_one.0) b.1 ∙ append_assoc ((slice_index_or doors i d).seen place) b.0 j.begins_one.0))
      (j.begins_two.0, j.begins_two.1 ∙ ap (λ (s : List Entry). s ++ j.begins_two.0) (sym t.seen));
  own = All-push (λ (d : DoorState). (k : ℕ) → 0 < times k (d.writer.joined place) → own by k n.seen ≡ own by k (d.seen place)) doors door
      (λ i d low k has. j.own_one k (subst (λ (ns : List ℕ). 0 < times k ns) (sym old.numbers) (times_all k place doors i d low has)) ∙ old.own i d low k has)
      (λ k has. j.own_two k (subst (λ (ns : List ℕ). 0 < times k ns) t.joined has) ∙ ap (own by k) (sym t.seen));
}

pub first_one : (place : ℕ) (door : DoorState) (v : PoolView) → Tells place door v → IsFirst place (door ∷ []) v
first_one place door v t = λ is. (sym t.number ∙ is, sym t.made)

pub first_more : (place : ℕ) (doors : List DoorState) (door : DoorState) (v w n : PoolView) → 0 < length doors → IsFirst place doors v → Joins v w n → IsFirst place (doors ++ door ∷ []) n
first_more place [] door v w n some old j = absurd (omega (arith, some))
first_more place (d ∷ doors) door v w n some old j = λ is.
    let was = old is in
    (omega (arith, j.number, was.0), j.made ∙ ap (λ m. if m == 0 then v.made else w.made) was.0 ∙ was.1)

pub shuts_more : (acceptors : List AcceptorState) (acceptor : AcceptorState) (before now after : ListenerState) → ShutsAll acceptors before now → Shuts acceptor now after
    → ShutsAll (acceptors ++ acceptor ∷ []) before after
shuts_more [] acceptor before now after all one = (after, subst (λ (s : ListenerState). Shuts acceptor s after) all one, refl)
shuts_more (a ∷ acceptors) acceptor before now after all one = (all.0, all.1, shuts_more acceptors acceptor all.0 now after all.2 one)

pub stop_more : (first : WorkStop) (stops : List WorkStop) (next : WorkStop) → gravest first (stops ++ next ∷ []) ≡ graver (gravest first stops) next
stop_more first [] next = refl
stop_more first (s ∷ stops) next = stop_more (graver first s) stops next

-- while as many are out as are left, one more can be shut
pub is_out : (out : Option ℕ) (n : ℕ) → 0 < n → IfSome out (λ m. n ≤ m) → IsOut out
is_out None n some enough = tt
is_out (Some m) n some enough = omega (arith, some, enough)

pub out_less : (out left : Option ℕ) (m n : ℕ) → m ≡ n + 1 → Adds left out 1 → IfSome out (λ k. m ≤ k) → IfSome left (λ k. n ≤ k)
out_less out None m n less shut enough = tt
out_less None (Some l) m n less shut enough = absurd (cc)
out_less (Some k) (Some l) m n less shut enough = let same : k ≡ l + 1 = cc in omega (arith, same, less, enough)

pub first_of_all : {W : Type 0} (all rest : List W) (w : W) (P : W → Type 0) → all ≡ w ∷ rest → All P all → P w
first_of_all all rest w P is each = let there = subst (All P) is each in there 0 w (omega arith)

pub others_of_all : {W : Type 0} (all rest : List W) (w : W) (P : W → Type 0) → all ≡ w ∷ rest → All P all → All P rest
others_of_all all rest w P is each = let there = subst (All P) is each in λ i d low. there (suc i) d (omega (arith, low))

-- The first of these workers have ended, and the rest have not. It is known what the pass of each place knows, what the listener tells,
-- and how the work ended so far.
pub record HasEnded {W : Type 0} (all rest : List W) (door : W → DoorState) (acceptor : W → AcceptorState) (stopped : W → WorkStop) (n : ℕ) (before now : ListenerState) (so_far : WorkStop) (vs : List PoolView) : Type 0 where
  pub done : List W
  pub some : 0 < length done
  pub parts : all ≡ done ++ rest
  pub joined : (p : ℕ) → p < n → IsJoined p (map door done) (view_at vs p)
  pub first : (p : ℕ) → p < n → IsFirst p (map door done) (view_at vs p)
  pub shuts : ShutsAll (map acceptor done) before now
  pub stop_is : so_far ≡ stop_of (map stopped done)

-- the first has ended
pub ended_one : {W : Type 0} (all rest : List W) (w : W) (door : W → DoorState) (acceptor : W → AcceptorState) (stopped : W → WorkStop) (n : ℕ) (before now : ListenerState) (so_far : WorkStop) (vs : List PoolView)
    → all ≡ w ∷ rest → ((p : ℕ) → Tells p (door w) (view_at vs p)) → Shuts (acceptor w) before now → so_far ≡ stopped w
    → HasEnded all rest door acceptor stopped n before now so_far vs
ended_one all rest w door acceptor stopped n before now so_far vs is told shut stop_is = record {
  done = w ∷ [];
  some = omega arith;
  parts = is;
  joined = λ p low. joined_one p (door w) (view_at vs p) (told p);
  first = λ p low. first_one p (door w) (view_at vs p) (told p);
  shuts = (now, shut, refl);
  stop_is = stop_is;
}

-- one more has ended
pub ended_more : {W : Type 0} (all old rest : List W) (w : W) (door : W → DoorState) (acceptor : W → AcceptorState) (stopped : W → WorkStop) (n : ℕ) (before now after : ListenerState) (so_far next new : WorkStop) (vs ws us : List PoolView)
    → old ≡ w ∷ rest → ((p : ℕ) → Tells p (door w) (view_at ws p)) → ((p : ℕ) → p < n → Joins (view_at vs p) (view_at ws p) (view_at us p)) → Shuts (acceptor w) now after → next ≡ stopped w → new ≡ graver so_far next
    → HasEnded all old door acceptor stopped n before now so_far vs → HasEnded all rest door acceptor stopped n before after new us
ended_more all old rest w door acceptor stopped n before now after so_far next new vs ws us is told joins shut next_is new_is e = record {
  done = e.done ++ w ∷ [];
  some = omega (arith, e.some, length_push e.done w);
  parts = e.parts ∙ ap (λ (l : List _). e.done ++ l) is ∙ sym (append_assoc e.done (w ∷ []) rest);
  joined = λ p low. subst (λ (ds : List DoorState). IsJoined p ds (view_at us p)) (sym (map-append door e.done (w ∷ [])))
      (joined_more p (map door e.done) (door w) (view_at vs p) (view_at ws p) (view_at us p) (e.joined p low) (told p) (joins p low));
  first = λ p low. subst (λ (ds : List DoorState). IsFirst p ds (view_at us p)) (sym (map-append door e.done (w ∷ [])))
      (first_more p (map door e.done) (door w) (view_at vs p) (view_at ws p) (view_at us p) (omega (arith, e.some, length-map e.done door)) (e.first p low) (joins p low));
  shuts = subst (λ (states : List AcceptorState). ShutsAll states before after) (sym (map-append acceptor e.done (w ∷ []))) (shuts_more (map acceptor e.done) (acceptor w) before now after e.shuts shut);
  stop_is = new_is ∙ ap (λ (s : WorkStop). graver s next) e.stop_is ∙ ap (graver (stop_of (map stopped e.done))) next_is
      ∙ sym (stop_more stop.Done (map stopped e.done) (stopped w)) ∙ sym (ap stop_of (map-append stopped e.done (w ∷ [])));
}

-- all have ended
pub ended_all : {W : Type 0} (all rest : List W) (door : W → DoorState) (acceptor : W → AcceptorState) (stopped : W → WorkStop) (n : ℕ) (before now : ListenerState) (so_far : WorkStop) (vs : List PoolView)
    → rest ≡ [] → HasEnded all rest door acceptor stopped n before now so_far vs
    → ((p : ℕ) → p < n → IsJoined p (map door all) (view_at vs p)) × ((p : ℕ) → p < n → IsFirst p (map door all) (view_at vs p)) × ShutsAll (map acceptor all) before now × (so_far ≡ stop_of (map stopped all))
ended_all {W = W} all rest door acceptor stopped n before now so_far vs none e =
    let are : e.done ≡ all = sym (e.parts ∙ ap (λ (l : List W). e.done ++ l) none ∙ append-nil e.done) in (
      λ p low. subst (λ (ws : List W). IsJoined p (map door ws) (view_at vs p)) are (e.joined p low),
      λ p low. subst (λ (ws : List W). IsFirst p (map door ws) (view_at vs p)) are (e.first p low),
      subst (λ (ws : List W). ShutsAll (map acceptor ws) before now) are e.shuts,
      e.stop_is ∙ ap (λ (ws : List W). stop_of (map stopped ws)) are,
    )
