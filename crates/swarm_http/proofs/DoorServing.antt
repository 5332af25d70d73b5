-- The exchanges of requests that a door answered, one after another.
use Rattle.std.proofs.Common.{◌≡◌, ℕ, ◌+◌, List, [], ◌∷◌, ◌++◌, length, arith, refl, sym, ap, ◌∙◌, length-append, Option, subst}
use Rattle.std.specs.List.{flat_map, count_by}
use Rattle.std.specs.Io.KnownBytes.{Consumes}
use Rattle.std.proofs.KnownBytes.{Consumes-nil, Consumes-trans}
use Rattle.std.specs.Prelude.{cond}
use Rattle.std.proofs.lemmas.List.{length-map}
use Rattle.std.proofs.lemmas.List.Folds.{fold-map}
use Rattle.sw_base.specs.Clock.{HandsIn}
use Rattle.sw_base.specs.Link.{LinkState}
use Rattle.swarm_model.specs.declared.pool_settings.Settings.{Settings}
use Rattle.pool_doors.specs.Doors.{DoorState, Writer}
use Rattle.swarm_http.specs.declared.connection_counts.ConnectionCounts.{ConnectionCounts}
use Rattle.swarm_http.specs.Replies.{Shown}
use Rattle.swarm_http.specs.Served.{Served, IsRequest}
use Rattle.swarm_http.specs.Served as requests
use Rattle.swarm_http.specs.Endings.{Transfers, EndsAs}
use Rattle.swarm_http.specs.Conversing.{DoesEach, Converses}
use Rattle.swarm_http.specs.Exchange.{Exchange, served_of, served, moments_of, is_accepted, Chain}
use Rattle.swarm_http.specs.Answered.{IsAnswered, KeepersFailed, KeepsDoor}
use Rattle.swarm_http.specs.Counting.{IsCounted}
use Rattle.swarm_http.specs.Steps.{AnswersByDoor}
use Rattle.swarm_http.proofs.Keepers.{none_failed, one_failed, KeepersFailed-trans}
use Rattle.swarm_http.proofs.Once.{chain_once}

abbrev Ahead : Type 0
Ahead = ℕ → Option (List ℕ)

pub HandsIn-nil : (a : ℕ → Option (List ℕ)) → HandsIn a a []
HandsIn-nil a more = let e : 0 + more ≡ more = omega arith in subst (λ k. Consumes (a k) (a more) []) (sym e) (Consumes-nil (a more))

HandsIn-trans : (a b c : ℕ → Option (List ℕ)) (xs ys : List ℕ) → HandsIn a b xs → HandsIn b c ys → HandsIn a c (xs ++ ys)
HandsIn-trans a b c xs ys p q more =
    let e : length xs + (length ys + more) ≡ length (xs ++ ys) + more = omega (arith, length-append xs ys) in
    subst (λ k. Consumes (a k) (c more) (xs ++ ys)) e
    (Consumes-trans (a (length xs + (length ys + more))) (b (length ys + more)) (c more) xs ys (p (length ys + more)) (q more))

-- the exchanges of these requests, and what they did to the clock and the door
record Exchanged (xs : List Served) (a b : Ahead) (old new : DoorState) : Type 0 where
  exchanges : List Exchange
  are : served exchanges ≡ xs
  moments : HandsIn a b (flat_map moments_of exchanges)
  chain : Chain old.settings old.writer old.seen exchanges new.seen
  keepers : KeepersFailed exchanges old new
  keeps : KeepsDoor (length exchanges) old new

none_exchanged : (a : Ahead) (door : DoorState) → Exchanged [] a a door door
none_exchanged a door = record {
  exchanges = [];
  are = refl;
  moments = HandsIn-nil a;
  chain = refl;
  keepers = none_failed door;
  keeps = record { settings = refl; writer = refl; kept = record { lines = λ p has. has; bases = refl }; no_other_blobs = λ p none. none; faults = omega arith; calls = omega arith };
}

-- a request with another status and other bytes of the reply that are the same
same_served : (x : Served) (status : ℕ) (shown : Shown) → x.status ≡ status → x.shown ≡ shown → record x { status = status; shown = shown } ≡ x
same_served x status shown s b = sym (ap (λ (n : ℕ). record x { status = n }) s ∙ ap (λ (it : Shown). record x { status = status; shown = it }) b)

-- one exchange, and then more
first_exchanged : (x : Served) (xs : List Served) (a b c : Ahead) (d e f : DoorState) → IsRequest x.text x.body x.head → AnswersByDoor x.head x.body x.status x.shown a b d e
    → Exchanged xs b c e f → Exchanged (x ∷ xs) a c d f
first_exchanged x xs a b c d e f request by rest =
    let z = by.answers in
    let k = by.door in
    let one : Exchange = record { text = x.text; body = x.body; head = x.head; outcome = z.outcome } in
    record {
      exchanges = one ∷ rest.exchanges;
      are = ap (λ (y : Served). y ∷ served rest.exchanges) (same_served x (served_of one).status (served_of one).shown z.status_is z.shown_is) ∙ ap (λ (ys : List Served). x ∷ ys) rest.are;
      moments = HandsIn-trans a b c (moments_of one) (flat_map moments_of rest.exchanges) z.moments rest.moments;
      chain = (
        e.seen,
        record { request = request; acts = z.acts },
        subst (λ (s : Settings). Chain s d.writer e.seen rest.exchanges f.seen) k.settings (subst (λ (n : Writer). Chain e.settings n e.seen rest.exchanges f.seen) k.writer rest.chain),
      );
      keepers = KeepersFailed-trans (one ∷ []) rest.exchanges d e f (one_failed one d e z.keeper) rest.keepers;
      keeps = record {
        settings = rest.keeps.settings ∙ k.settings;
        writer = rest.keeps.writer ∙ k.writer;
        kept = record { lines = λ p has. rest.keeps.kept.lines p (k.kept.lines p has); bases = rest.keeps.kept.bases ∙ k.kept.bases };
        no_other_blobs = λ p none. rest.keeps.no_other_blobs p (k.no_other_blobs p none);
        faults = omega (arith, rest.keeps.faults, k.faults);
        calls = omega (arith, rest.keeps.calls, k.calls);
      };
    }

exchanged : {S : Type 0} (ahead : S → ℕ → Option (List ℕ)) (door : S → DoorState) (old new : S) (xs : List Served)
    → DoesEach (λ head body status shown a b. AnswersByDoor head body status shown (ahead a) (ahead b) (door a) (door b)) old xs new → Exchanged xs (ahead old) (ahead new) (door old) (door new)
exchanged {S = S} ahead door old new [] same = subst (λ (s : S). Exchanged [] (ahead old) (ahead s) (door old) (door s)) (sym same) (none_exchanged (ahead old) (door old))
exchanged ahead door old new (x ∷ xs) each =
    first_exchanged x xs (ahead old) (ahead each.0) (ahead new) (door old) (door each.0) (door new) each.1 each.2 (exchanged ahead door each.0 new xs each.3)

accepted_served : (xs : List Exchange) → count_by requests.is_accepted (served xs) ≡ count_by is_accepted xs
accepted_served xs = fold-map (λ (n : ℕ) (x : Served). n + cond (requests.is_accepted x) 1 0) served_of 0 xs

-- ---- the whole connection

abbrev answered_by_door : {S : Type 0} (ahead : S → ℕ → Option (List ℕ)) (door : S → DoorState) {old new : S} {s t : LinkState} {counted : ConnectionCounts}
    → Converses (λ head body status shown a b. AnswersByDoor head body status shown (ahead a) (ahead b) (door a) (door b)) old new s t counted
    → IsAnswered (record { link = s; clock = ahead old; door = door old }) (record { link = t; clock = ahead new; door = door new }) counted.ended
answered_by_door ahead door {old = old} {new = new} {s = s} {t = t} {counted = counted} k =
    let x = exchanged ahead door old new k.xs k.each in
    record {
      xs = x.exchanges;
      rest = k.rest;
      sent = k.sent;
      serves = record { transfers = subst (λ (l : List Served). Transfers l [] k.rest k.sent s t) (sym x.are) k.transfers; moments = x.moments; chain = x.chain };
      ends = subst (λ (l : List Served). EndsAs 65536 counted.ended l k.rest k.sent s t) (sym x.are) k.ends;
      few = omega (arith, k.few, ap length x.are, length-map x.exchanges served_of);
      once = chain_once (door old).settings (door old).writer (door old).seen x.exchanges (door new).seen x.chain;
      keepers = x.keepers;
      faults = k.faults;
    }

pub counted_by_door : {S : Type 0} (ahead : S → ℕ → Option (List ℕ)) (door : S → DoorState) {old new : S} {s t : LinkState} {counted : ConnectionCounts}
    → Converses (λ head body status shown a b. AnswersByDoor head body status shown (ahead a) (ahead b) (door a) (door b)) old new s t counted
    → IsCounted (record { link = s; clock = ahead old; door = door old }) (record { link = t; clock = ahead new; door = door new }) counted
counted_by_door ahead door {old = old} {new = new} k =
    let x = exchanged ahead door old new k.xs k.each in
    record {
      answered = answered_by_door ahead door k;
      requests = k.requests ∙ ap length (sym x.are) ∙ length-map x.exchanges served_of;
      accepted = k.accepted ∙ ap (count_by requests.is_accepted) (sym x.are) ∙ accepted_served x.exchanges;
    }

pub door_kept : {S : Type 0} (ahead : S → ℕ → Option (List ℕ)) (door : S → DoorState) {old new : S} {s t : LinkState} {counted : ConnectionCounts}
    → Converses (λ head body status shown a b. AnswersByDoor head body status shown (ahead a) (ahead b) (door a) (door b)) old new s t counted → KeepsDoor 65536 (door old) (door new)
door_kept ahead door {old = old} {new = new} k =
    let x = exchanged ahead door old new k.xs k.each in
    let kept = x.keeps in
    record {
      settings = kept.settings;
      writer = kept.writer;
      kept = kept.kept;
      no_other_blobs = kept.no_other_blobs;
      faults = kept.faults;
      calls = omega (arith, kept.calls, k.few, ap length x.are, length-map x.exchanges served_of);
    }
