-- What sessions add to the logs, one after another.
use Rattle.std.proofs.Common.{◌≡◌, ℕ, Bool, List, [], ◌∷◌, ◌++◌, filter, Option, refl, sym, ap, ◌∙◌, append_assoc, append-nil, subst}
use Rattle.std.specs.List.{flat_map}
use Rattle.std.proofs.lemmas.List.Concat.{flat_map-append}
use Rattle.std.proofs.lemmas.List.Elements.{filter-append}
use Rattle.swarm_model.specs.declared.entry.Entry.{Entry}
use Rattle.pool_doors.specs.Doors.{DoorState, Writer}
use Rattle.swarm_http.specs.Exchange.{GainsOnce, AreOnce, entries_of, has_pass}
use Rattle.swarm_workers.specs.Works.{ServedLink, Sessions}
use Rattle.swarm_workers.specs.Shared.{exchanges}

-- nothing is added
gains_none : (pass : ℕ) (alone : Bool) (old new : List Entry) → new ≡ old → GainsOnce pass alone old new []
gains_none pass alone old new same = record { gained = []; grown = same ∙ sym (append-nil old); exactly = refl; no_others = λ t. refl }

-- what is added in two steps
gains_both : (pass : ℕ) (alone : Bool) (a b c xs ys : List Entry) → GainsOnce pass alone a b xs → GainsOnce pass alone b c ys → GainsOnce pass alone a c (xs ++ ys)
gains_both pass alone a b c xs ys g h = record {
  gained = g.gained ++ h.gained;
  grown = h.grown ∙ ap (λ (l : List Entry). l ++ h.gained) g.grown ∙ append_assoc a g.gained h.gained;
  exactly = filter-append (has_pass pass) g.gained h.gained ∙ ap (λ (l : List Entry). l ++ filter (has_pass pass) h.gained) g.exactly ∙ ap (λ l. xs ++ l) h.exactly;
  no_others = λ t. ap (λ (l : List Entry). l ++ h.gained) (g.no_others t) ∙ ap (λ l. xs ++ l) (h.no_others t);
}

-- along sessions each log gains the entries of their requests once, under the numbers of the door, whose writer stays
pub sessions_once : (a b : ℕ → Option (List ℕ)) (old new : DoorState) (visits : List ServedLink) (so : Sessions a b old new visits)
    → AreOnce old.writer old.seen (exchanges a b old new visits so) new.seen
sessions_once a b old new [] so = λ p. gains_none (old.writer.numbers p) old.writer.alone (old.seen p) (new.seen p) (ap (λ (d : DoorState). d.seen p) so.1)
sessions_once a b old new (v ∷ visits) so = λ p.
    let rest = exchanges v.ahead b v.door new visits so.2 in
    let later = subst (λ (w : Writer). GainsOnce (w.numbers p) w.alone (v.door.seen p) (new.seen p) (flat_map (entries_of p) rest)) so.1.writer (sessions_once v.ahead b v.door new visits so.2 p) in
    subst (λ l. GainsOnce (old.writer.numbers p) old.writer.alone (old.seen p) (new.seen p) l) (sym (flat_map-append (entries_of p) so.0.xs rest))
    (gains_both (old.writer.numbers p) old.writer.alone (old.seen p) (v.door.seen p) (new.seen p) (flat_map (entries_of p) so.0.xs) (flat_map (entries_of p) rest) (so.0.once p) later)

-- a log of which nothing was seen at first
pub gained_all : {pass : ℕ} {alone : Bool} {old new entries : List Entry} → old ≡ [] → GainsOnce pass alone old new entries → filter (has_pass pass) new ≡ entries
gained_all {pass = pass} {old = old} {new = new} none g = ap (filter (has_pass pass)) (g.grown ∙ ap (λ (l : List Entry). l ++ g.gained) none) ∙ g.exactly
