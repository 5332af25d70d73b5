-- Sessions, one after another, whatever holds them.
use Rattle.std.proofs.Common.{◌≡◌, ℕ, ◌+◌, ◌-◌, ◌^◌, ◌<◌, ◌≤◌, min, List, [], ◌∷◌, ◌++◌, length, map, Option, Some, None, option_map, refl, sym, ap, ◌∙◌, arith, append_assoc, append-nil, length-append, subst}
use Rattle.std.specs.List.{AllByRecursion}
use Rattle.std.proofs.lemmas.List.{map-append}
use Rattle.sw_base.specs.Faults.{Rose}
use Rattle.sw_base.specs.Link.{LinkState}
use Rattle.sw_base.specs.Told.{Loses, Gains, IsNoMore}
use Rattle.sw_base.specs.Acceptors.{AcceptorState, Comes, Ends}
use Rattle.swarm_http.specs.declared.ended.Ended.{Ended}
use Rattle.swarm_workers.specs.declared.worked.WorkStop.TheVariants as stop
use Rattle.swarm_workers.specs.Visits.{Visit, TellsFault, IsFaultCounted, Follow, HasServed, IsServed, IsIdle}

pub add_injective : (a b : Option ℕ) → option_map (λ n. n + 1) a ≡ option_map (λ n. n + 1) b → a ≡ b
add_injective None None e = refl
add_injective None (Some n) e = absurd (cc)
add_injective (Some m) None e = absurd (cc)
add_injective (Some m) (Some n) e = let k : m + 1 ≡ n + 1 = cc in ap Some (omega arith)

all_more : {A : Type 0} (P : A → Type 0) (xs : List A) (x : A) → AllByRecursion P xs → P x → AllByRecursion P (xs ++ x ∷ [])
all_more P [] x all holds = (holds, tt)
all_more P (y ∷ xs) x all holds = (all.0, all_more P xs x all.1 holds)

loses_more : {A : Type 0} (a b c : Option (List A)) (xs ys : List A) → Loses a b xs → Loses b c ys → Loses a c (xs ++ ys)
loses_more a b None xs ys p q = p ∙ ap (option_map (λ l. xs ++ l)) q
loses_more a b (Some l) xs ys p q = p ∙ ap (option_map (λ l. xs ++ l)) q ∙ ap Some (sym (append_assoc xs ys l))

gains_more : {A : Type 0} (a b c : Option (List A)) (xs ys : List A) → Gains a b xs → Gains b c ys → Gains a c (xs ++ ys)
gains_more None b c xs ys p q = q ∙ ap (option_map (λ l. l ++ ys)) p
gains_more (Some l) b c xs ys p q = q ∙ ap (option_map (λ l. l ++ ys)) p ∙ ap Some (append_assoc l xs ys)

loses_none : {A : Type 0} (a : Option (List A)) → Loses a a []
loses_none None = refl
loses_none (Some l) = refl

gains_none : {A : Type 0} (a : Option (List A)) → Gains a a []
gains_none None = refl
gains_none (Some l) = ap Some (sym (append-nil l))

pub rose_above : (m n : ℕ) → m ≡ 0 → Rose m n → 0 < n
rose_above m n e r = let k : min (0 + 1) (2 ^ 64 - 1) ≤ n = subst (λ x. min (x + 1) (2 ^ 64 - 1) ≤ n) e r in omega arith

module _ {S : Type 0} (does : LinkState → LinkState → Ended → S → S → Type 0) where
  -- a link came, was served, and ended
  abbrev pub served_one : {first last : LinkState} {s m t : AcceptorState} {old new : S} {ending : Ended}
      → Comes first s m → m.served ≡ s.served → does first last ending old new → TellsFault first last ending → Ends last m t → IsServed does s t old new
  served_one {first = first} {last = last} {s = s} {m = m} {t = t} {ending = ending} comes same held tells ends = record {
    first = first;
    last = last;
    ending = ending;
    held = held;
    counted = record {
      fresh = comes.fresh;
      reads = λ e. rose_above first.read_faults last.read_faults comes.fresh.reads (tells.reads e);
      writes = λ e. rose_above first.write_faults last.write_faults comes.fresh.writes (tells.writes e);
    };
    coming = comes.coming ∙ ap (option_map (λ left. first ∷ [] ++ left)) (sym ends.coming);
    served = ends.served ∙ ap (option_map (λ all. all ++ last ∷ [])) same;
    out = add_injective t.out s.out (sym ends.out ∙ comes.out);
    faults = ends.faults ∙ comes.faults;
  }

  -- the session that came
  abbrev visit : {s t : AcceptorState} {old new : S} → IsServed does s t old new → Visit S
  visit {new = new} x = record { first = x.first; last = x.last; ending = x.ending; after = new }

  follow_more : (a b c : S) (visits : List (Visit S)) (first last : LinkState) (ending : Ended) → Follow does a b visits → does first last ending b c
      → Follow does a c (visits ++ record { first = first; last = last; ending = ending; after = c } ∷ [])
  follow_more a b c [] first last ending so held = (subst (λ (k : S). does first last ending k c) so held, refl)
  follow_more a b c (v ∷ visits) first last ending so held = (so.0, follow_more v.after b c visits first last ending so.1 held)

  -- so many links were served
  pub record SoFar (n : ℕ) (s t : AcceptorState) (d e : S) : Type 0 where
    pub visits : List (Visit S)
    pub number : length visits ≡ n
    pub coming : Loses s.coming t.coming (map (λ v. v.first) visits)
    pub served : Gains s.served t.served (map (λ v. v.last) visits)
    pub out : t.out ≡ s.out
    pub faults : t.faults ≡ s.faults
    pub counted : AllByRecursion (λ v. IsFaultCounted v.first v.last v.ending) visits
    pub sessions : Follow does d e visits

  pub begun : (s : AcceptorState) (d : S) → SoFar 0 s s d d
  begun s d = record {
    visits = [];
    number = refl;
    coming = loses_none s.coming;
    served = gains_none s.served;
    out = refl;
    faults = refl;
    counted = tt;
    sessions = refl;
  }

  -- one more was served
  pub one_more : {n : ℕ} {s t u : AcceptorState} {d e f : S} → SoFar n s t d e → (x : IsServed does t u e f) → SoFar (n + 1) s u d f
  one_more {s = s} {t = t} {u = u} {d = d} {e = e} {f = f} so x = record {
    visits = so.visits ++ visit x ∷ [];
    number = length-append so.visits (visit x ∷ []) ∙ ap (λ k. k + 1) so.number;
    coming = subst (Loses s.coming u.coming) (sym (map-append (λ v. v.first) so.visits (visit x ∷ []))) (loses_more s.coming t.coming u.coming _ _ so.coming x.coming);
    served = subst (Gains s.served u.served) (sym (map-append (λ v. v.last) so.visits (visit x ∷ []))) (gains_more s.served t.served u.served _ _ so.served x.served);
    out = x.out ∙ so.out;
    faults = x.faults ∙ so.faults;
    counted = all_more (λ v. IsFaultCounted v.first v.last v.ending) so.visits (visit x) so.counted x.counted;
    sessions = follow_more d e f so.visits x.first x.last x.ending so.sessions x.held;
  }

  -- there was no memory to begin
  pub no_memory : (most : ℕ) (s : AcceptorState) (d : S) → HasServed does s s d d most (record { sessions = 0; stop = stop.Memory })
  no_memory most s d = record {
    visits = [];
    number = refl;
    few = omega arith;
    coming = loses_none s.coming;
    served = gains_none s.served;
    out = refl;
    counted = tt;
    sessions = refl;
    stops = (refl, refl);
  }

  -- nothing more was served
  pub no_more : {n most : ℕ} {s t u : AcceptorState} {d e f : S} → SoFar n s t d e → n < most → IsIdle t u e f → IsNoMore u.coming → u.faults ≡ t.faults
      → HasServed does s u d f most (record { sessions = n; stop = stop.NoMore })
  no_more {s = s} {d = d} so less idle none same = record {
    visits = so.visits;
    number = so.number;
    few = omega (arith, so.number, less);
    coming = subst (λ k. Loses s.coming k (map (λ v. v.first) so.visits)) (sym idle.coming) so.coming;
    served = subst (λ k. Gains s.served k (map (λ v. v.last) so.visits)) (sym idle.served) so.served;
    out = idle.out ∙ so.out;
    counted = so.counted;
    sessions = subst (λ (k : S). Follow does d k so.visits) (sym idle.same) so.sessions;
    stops = (less, none, same ∙ so.faults);
  }

  pub failed : {n most : ℕ} {s t u : AcceptorState} {d e f : S} → SoFar n s t d e → n < most → IsIdle t u e f → Rose t.faults u.faults
      → HasServed does s u d f most (record { sessions = n; stop = stop.Failed })
  failed {s = s} {u = u} {d = d} so less idle rose = record {
    visits = so.visits;
    number = so.number;
    few = omega (arith, so.number, less);
    coming = subst (λ k. Loses s.coming k (map (λ v. v.first) so.visits)) (sym idle.coming) so.coming;
    served = subst (λ k. Gains s.served k (map (λ v. v.last) so.visits)) (sym idle.served) so.served;
    out = idle.out ∙ so.out;
    counted = so.counted;
    sessions = subst (λ (k : S). Follow does d k so.visits) (sym idle.same) so.sessions;
    stops = (less, subst (λ k. Rose k u.faults) so.faults rose);
  }

  pub all_served : {most : ℕ} {s t : AcceptorState} {d e : S} → SoFar most s t d e → HasServed does s t d e most (record { sessions = most; stop = stop.Done })
  all_served so = record {
    visits = so.visits;
    number = so.number;
    few = omega (arith, so.number);
    coming = so.coming;
    served = so.served;
    out = so.out;
    counted = so.counted;
    sessions = so.sessions;
    stops = (refl, so.faults);
  }

-- ---- what is told of the sessions in other words

-- the same session, where only this much is told of what it left
abbrev pub visit_told : {S T : Type 0} (look : S → T) → Visit S → Visit T
visit_told look v = record { first = v.first; last = v.last; ending = v.ending; after = look v.after }

pub all_mapped : {A B : Type 0} (P : A → Type 0) (Q : B → Type 0) (f : A → B) (xs : List A) → ((x : A) → P x → Q (f x)) → AllByRecursion P xs → AllByRecursion Q (map f xs)
all_mapped P Q f [] so all = tt
all_mapped P Q f (x ∷ xs) so all = (so x all.0, all_mapped P Q f xs so all.1)
