-- Pools opened one after another, from the first.
use Rattle.std.proofs.Common.{◌≡◌, ℕ, ◌+◌, ◌<◌, ◌≤◌, List, [], ◌∷◌, ◌++◌, map, take, length, get_or, refl, arith, ap, sym, subst, ◌∙◌, Option, Some, None, Result, Ok, Err, IfOk, IsTrue, is_some}
use Rattle.std.specs.List.{All, list_all}
use Rattle.std.proofs.lemmas.Bool.{and_parts}
use Rattle.std.proofs.lemmas.List.{get_or_push, length-map, length_push, map_push, take_all, take_more}
use Rattle.std.proofs.lemmas.List.Elements.{All-push}
use Rattle.std.proofs.lemmas.List.Sums.{AllPass-from_list_all}
use mathlib.Core.Logic.{dite}
use native.Mathlib.Decide.{ℕ_discrete}
use Rattle.shared_doors.specs.Types.{Entry, PoolSettings, Settings, Pass, Turnstile}
use Rattle.swarm_model.specs.Bases.{empty_base}
use Rattle.swarm_model.specs.Bytes.{nothing_held}
use Rattle.swarm_model.specs.Effects.{opening as new_pool}
use Rattle.swarm_model.specs.MachineState.{MachineState}
use Rattle.swarm_model.specs.Settings.{are_settings, keeps_rules}
use Rattle.swarm_model.specs.Words.{is_between}
use Rattle.turnstile.specs.Passes.{IsPassOf, fixed_of, opening, seen, number, numbers, made, told, turns}
use Rattle.shared_doors.specs.declared.view.Lasting.{Lasting}
use Rattle.shared_doors.specs.Lasting.{first_lasting, lasting_of, IsStanding}
use Rattle.shared_doors.specs.Opened.{AreOpened}
use Rattle.shared_doors.specs.Views.{AreOf, first_view, look, nothing, view_at, view_or, views}
use Rattle.shared_doors.proofs.ByPlace.{at_push, push_views, some_is}
use Rattle.shared_doors.proofs.Joining.{known_same}

-- ---- one pool

-- what a new machine keeps
abbrev pub new_state : PoolSettings → MachineState
new_state pool = record { start = empty_base pool; pool = new_pool pool; log = []; ready = None; held = nothing_held }

pub new_log : (kept : MachineState) (pool : PoolSettings) → kept ≡ new_state pool → kept.log ≡ []
new_log kept pool is = ap (λ (k : MachineState). k.log) is

new_lasting : (kept : MachineState) (copy pool : PoolSettings) → kept ≡ new_state copy → copy ≡ pool → lasting_of kept ≡ first_lasting pool
new_lasting kept copy pool is same = ap lasting_of is ∙ ap first_lasting same

-- the rules of one of the pools
pub rules_at : (settings : Settings) (pools : List PoolSettings) (i : ℕ) (pool : PoolSettings) → IsTrue (are_settings settings) → pools ≡ settings.pools → i < length pools → pool ≡ get_or pools i pool → IsTrue (keeps_rules pool)
rules_at settings pools i pool rules same low is =
    let counted = and_parts (is_between 1 4 (length settings.pools)) _ rules in
    let each = and_parts (list_all keeps_rules settings.pools) _ counted.1 in
    subst (λ (p : PoolSettings). IsTrue (keeps_rules p)) (sym (is ∙ ap (λ (l : List PoolSettings). get_or l i pool) same))
    (AllPass-from_list_all keeps_rules settings.pools each.0 i pool (omega (arith, low, ap length same)))

module _ {V E : Type 0} where
  pub opened_lasting : (fixed : V → Lasting) (r : Result (Turnstile V Entry Lasting × Pass V Entry Lasting) E) (kept : MachineState) (copy pool : PoolSettings)
      → kept ≡ new_state copy → copy ≡ pool → IfOk r (λ o. fixed_of fixed o.0 ≡ lasting_of kept) → IfOk r (λ o. fixed_of fixed o.0 ≡ first_lasting pool)
  opened_lasting fixed (Ok o) kept copy pool is same h = h ∙ new_lasting kept copy pool is same
  opened_lasting fixed (Err e) kept copy pool is same h = h

  pub opened_empty : (log : V → List Entry) (r : Result (Turnstile V Entry Lasting × Pass V Entry Lasting) E) (kept : MachineState) (pool : PoolSettings)
      → kept ≡ new_state pool → IfOk r (λ o. opening log o.0 ≡ kept.log) → IfOk r (λ o. opening log o.0 ≡ [])
  opened_empty log (Ok o) kept pool is h = h ∙ new_log kept pool is
  opened_empty log (Err e) kept pool is h = h

  pub opened_fresh : (r : Result (Turnstile V Entry Lasting × Pass V Entry Lasting) E) (kept : MachineState) (pool : PoolSettings)
      → kept ≡ new_state pool → IfOk r (λ o. seen o.1 ≡ kept.log)
      → IfOk r (λ o. (number o.1 ≡ 0) × (numbers o.1 ≡ 0 ∷ []) × (made o.1 ≡ 1) × (told o.1 ≡ 0) × (turns o.1 ≡ 0))
      → IfOk r (λ o. look o.1 ≡ first_view)
  opened_fresh (Ok o) kept pool is s h =
      known_same 0 (number o.1) 0 (turns o.1) (0 ∷ []) (numbers o.1) 1 (made o.1) 0 (told o.1) [] (seen o.1) h.0 h.4 h.1 h.2 h.3 (s ∙ new_log kept pool is)
  opened_fresh (Err e) kept pool is s h = h

-- ---- one pool more

pub all_push : {A : Type 0} (P : A → Type 0) (xs more : List A) (x : A) → more ≡ xs ++ x ∷ [] → All P xs → P x → All P more
all_push P xs more x is all one = subst (All P) (sym is) (All-push P xs x all one)

none_of : {A : Type 0} (P : A → Type 0) (xs : List A) → xs ≡ [] → All P xs
none_of P xs is = λ i d low. absurd (omega (arith, low, ap length is))

map_next : {A B : Type 0} (f : A → B) (xs more : List A) (x : A) (ys : List B) (i : ℕ) (y : B) → more ≡ xs ++ x ∷ [] → i < length ys → y ≡ get_or ys i y → f x ≡ y
    → map f xs ≡ take i ys → map f more ≡ take (i + 1) ys
map_next f xs more x ys i y is low at one so_far =
    ap (map f) is ∙ map_push f xs x ∙ ap (λ l. l ++ f x ∷ []) so_far ∙ ap (λ z. take i ys ++ z ∷ []) (one ∙ at) ∙ sym (take_more ys i y low)

module _ {V : Type 0} (fixed : V → Lasting) where
  own_none : (ts : List (Turnstile V Entry Lasting)) (ps : List (Option (Pass V Entry Lasting))) → ts ≡ [] → ps ≡ [] → AreOf fixed ts ps
  own_none ts ps is_t is_p = record {
    count = ap length is_p ∙ sym (ap length is_t);
    whole = none_of (λ o. IsTrue (is_some o)) ps is_p;
    each = λ i t p low at here. absurd (omega (arith, low, ap length is_t));
  }

  own_push : (ts more : List (Turnstile V Entry Lasting)) (ps all : List (Option (Pass V Entry Lasting))) (t : Turnstile V Entry Lasting) (p : Pass V Entry Lasting)
      → more ≡ ts ++ t ∷ [] → all ≡ ps ++ Some p ∷ [] → AreOf fixed ts ps → IsPassOf fixed t p → AreOf fixed more all
  own_push ts more ps all t p is_t is_p own one = record {
    count = omega (arith, own.count, ap length is_t, length_push ts t, ap length is_p, length_push ps (Some p));
    whole = all_push (λ o. IsTrue (is_some o)) ps all (Some p) is_p own.whole refl;
    each = λ i u q low at here. dite (ℕ_discrete i (length ts))
        (λ same.
        let there : Some q ≡ Some p = here ∙ (ap (λ l. get_or l i (Some q)) is_p ∙ get_or_push ps (Some p) (Some q) i (own.count ∙ sym same)) in
        let whose : u ≡ t = at ∙ (ap (λ l. get_or l i u) is_t ∙ get_or_push ts t u i (sym same)) in
        subst (λ z. IsPassOf fixed z q) (sym whose) (subst (IsPassOf fixed t) (sym (some_is q p there)) one))
        (λ other.
        let inside : i < length ts = omega (arith, low, other, ap length is_t, length_push ts t) in
        own.each i u q inside (at ∙ (ap (λ l. get_or l i u) is_t ∙ at_push ts t u i inside))
        (here ∙ (ap (λ l. get_or l i (Some q)) is_p ∙ at_push ps (Some p) (Some q) i (omega (arith, inside, own.count)))));
  }

  standing_one : (t : Turnstile V Entry Lasting) (pool : PoolSettings) → fixed_of fixed t ≡ first_lasting pool → IsTrue (keeps_rules pool) → IsStanding (fixed_of fixed t)
  standing_one t pool is rules = subst IsStanding (sym is) (rules, refl, refl)

  pub opened_none : (log : V → List Entry) (pools : List PoolSettings) (ts : List (Turnstile V Entry Lasting)) (ps : List (Option (Pass V Entry Lasting)))
      → pools ≡ [] → ts ≡ [] → ps ≡ [] → AreOpened fixed log pools ts ps
  opened_none log pools ts ps none is_t is_p = record {
    own = own_none ts ps is_t is_p;
    standing = none_of (λ t. IsStanding (fixed_of fixed t)) ts is_t;
    settings_are = ap (map (λ t. (fixed_of fixed t).settings)) is_t ∙ sym none;
    empty = none_of (λ t. opening log t ≡ []) ts is_t;
    fresh = none_of (λ v. v ≡ first_view) (views ps) (ap views is_p);
  }

  pub opened_more : (log : V → List Entry) (pools : List PoolSettings) (i : ℕ) (pool : PoolSettings)
      (ts more : List (Turnstile V Entry Lasting)) (ps all : List (Option (Pass V Entry Lasting))) (t : Turnstile V Entry Lasting) (p : Pass V Entry Lasting)
      → i < length pools → pool ≡ get_or pools i pool → IsTrue (keeps_rules pool)
      → more ≡ ts ++ t ∷ [] → all ≡ ps ++ Some p ∷ []
      → IsPassOf fixed t p → fixed_of fixed t ≡ first_lasting pool → opening log t ≡ [] → look p ≡ first_view
      → AreOpened fixed log (take i pools) ts ps → AreOpened fixed log (take (i + 1) pools) more all
  opened_more log pools i pool ts more ps all t p low at rules is_t is_p own lasting empty fresh so_far = record {
    own = own_push ts more ps all t p is_t is_p so_far.own own;
    standing = all_push (λ u. IsStanding (fixed_of fixed u)) ts more t is_t so_far.standing (standing_one t pool lasting rules);
    settings_are =
        map_next (λ u. (fixed_of fixed u).settings) ts more t pools i pool is_t low at (ap (λ (l : Lasting). l.settings) lasting) so_far.settings_are;
    empty = all_push (λ u. opening log u ≡ []) ts more t is_t so_far.empty empty;
    fresh = all_push (λ v. v ≡ first_view) (views ps) (views all) (look p) (push_views ps all p is_p) so_far.fresh fresh;
  }

  -- the pools so far are all
  pub opened_all : (log : V → List Entry) (pools settings : List PoolSettings) (n : ℕ) (ts : List (Turnstile V Entry Lasting)) (ps : List (Option (Pass V Entry Lasting)))
      → pools ≡ settings → length pools ≤ n → AreOpened fixed log (take n pools) ts ps → AreOpened fixed log settings ts ps
  opened_all log pools settings n ts ps same over opened = subst (λ l. AreOpened fixed log l ts ps) (take_all n pools over ∙ same) opened

  -- each turnstile's pool has its blobs whole
  pub opened_whole : (log : V → List Entry) (pools : List PoolSettings) (ts : List (Turnstile V Entry Lasting)) (ps : List (Option (Pass V Entry Lasting)))
      → AreOpened fixed log pools ts ps → All (λ t. IsTrue (fixed_of fixed t).is_whole) ts
  opened_whole log pools ts ps opened = λ i d low. (opened.standing i d low).1

  -- there are as many as pools
  pub opened_count : (log : V → List Entry) (pools : List PoolSettings) (ts : List (Turnstile V Entry Lasting)) (ps : List (Option (Pass V Entry Lasting)))
      → AreOpened fixed log pools ts ps → length ts ≡ length pools
  opened_count log pools ts ps opened = sym (length-map ts (λ t. (fixed_of fixed t).settings)) ∙ ap length opened.settings_are

  -- each first pass knows nothing but its number
  pub opened_fresh_at : (log : V → List Entry) (pools : List PoolSettings) (ts : List (Turnstile V Entry Lasting)) (ps : List (Option (Pass V Entry Lasting)))
      → AreOpened fixed log pools ts ps → (n : ℕ) → n < length ts → view_at (views ps) n ≡ first_view
  opened_fresh_at log pools ts ps opened n low = opened.fresh n nothing (omega (arith, low, opened.own.count, length-map ps view_or))
