-- One line, or one pool, more.
use Rattle.std.proofs.Common.{◌≡◌, ℕ, zero, suc, ◌+◌, ◌<◌, List, [], ◌∷◌, ◌++◌, take, get_or, length, map, Option, Some, arith, refl, sym, ap, ◌∙◌, append_assoc, append-nil, add-one, slice_index_or, IfSome, None}
use Rattle.std.specs.Prelude.{slice_get}
use Rattle.std.specs.Option.{option_map_or}
use Rattle.std.specs.List.{flat_map}
use Rattle.std.proofs.lemmas.List.{length-map}
use Rattle.std.proofs.lemmas.Option.{same_Some}
use Rattle.swarm_model.specs.declared.pool_settings.PoolSettings.{PoolSettings}
use Rattle.swarm_model.specs.declared.entry.Entry.{Entry}
use Rattle.swarm_model.specs.Bases.{Base}
use Rattle.swarm_model.specs.MachineState.{MachineState}
use Rattle.pool_summaries.specs.declared.summaries.Report.{Report}
use Rattle.pool_summaries.specs.Summaries.{told_of, first_told}

-- the base of each machine of a list, and where there is none this one
abbrev pub starts_in : {M : Type 0} → (M → Base) → Base → List M → ℕ → Base
starts_in start none machines place = slice_index_or (map start machines) place none

-- the log of each, and where there is none no entries
abbrev pub logs_in : {M : Type 0} → (M → List Entry) → List M → ℕ → List Entry
logs_in log machines place = slice_index_or (map log machines) place []

flat_map-next : {A : Type 0} (f : A → List ℕ) (xs : List A) (i : ℕ) (d : A) → i < length xs → flat_map f (take (suc i) xs) ≡ flat_map f (take i xs) ++ f (get_or xs i d)
flat_map-next f [] i d low = absurd (omega arith)
flat_map-next f (x ∷ xs) zero d low = append-nil (f x)
flat_map-next f (x ∷ xs) (suc i) d low = ap (λ (l : List ℕ). f x ++ l) (flat_map-next f xs i d (omega arith)) ∙ sym (append_assoc (f x) (flat_map f (take i xs)) (f (get_or xs i d)))

flat_map-more : {A : Type 0} (f : A → List ℕ) (xs : List A) (i : ℕ) (d : A) → i < length xs → flat_map f (take (i + 1) xs) ≡ flat_map f (take i xs) ++ f (get_or xs i d)
flat_map-more f xs i d low = rw add-one (flat_map-next f xs i d low)

pub lines_more : {A : Type 0} (line : A → ℕ → List ℕ) (count : A → ℕ) (xs : List A) (i : ℕ) (d : A) (n : ℕ) (old before after : List ℕ) → i < length xs → n ≡ count (get_or xs i d)
    → before ≡ old ++ flat_map (λ x. line x (count x)) (take i xs) → after ≡ before ++ line (get_or xs i d) n
    → after ≡ old ++ flat_map (λ x. line x (count x)) (take (i + 1) xs)
lines_more line count xs i d n old before after low counted so more =
    more ∙ ap (λ (m : ℕ). before ++ line (get_or xs i d) m) counted ∙ ap (λ (l : List ℕ). l ++ line (get_or xs i d) (count (get_or xs i d))) so
    ∙ append_assoc old (flat_map (λ x. line x (count x)) (take i xs)) (line (get_or xs i d) (count (get_or xs i d)))
    ∙ ap (λ (l : List ℕ). old ++ l) (sym (flat_map-more (λ x. line x (count x)) xs i d low))

got_place : (pools : List PoolSettings) (n : ℕ) (x : PoolSettings) → n < length pools → x ≡ get_or pools n x → slice_get pools n ≡ Some x
got_place [] n x low is = absurd (omega arith)
got_place (p ∷ pools) zero x low is = ap Some (sym is)
got_place (p ∷ pools) (suc n) x low is = got_place pools n x (omega arith) is

at_place : {A B : Type 0} (f : A → B) (xs : List A) (n : ℕ) (x : A) (d : B) → n < length xs → x ≡ get_or xs n x → slice_index_or (map f xs) n d ≡ f x
at_place f [] n x d low is = absurd (omega arith)
at_place f (y ∷ xs) zero x d low is = ap f (sym is)
at_place f (y ∷ xs) (suc n) x d low is = at_place f xs n x d (omega arith) is

kept_place : {A B : Type 0} (f : A → B) (xs : List A) (n : ℕ) (x : A) → n < length xs → x ≡ get_or xs n x → f x ≡ get_or (map f xs) n (f x)
kept_place f [] n x low is = absurd (omega arith)
kept_place f (y ∷ xs) zero x low is = ap f is
kept_place f (y ∷ xs) (suc n) x low is = kept_place f xs n x (omega arith) is

first_told-more : (what : Report) (pools : List PoolSettings) (starts : ℕ → Base) (logs : ℕ → List Entry) (n : ℕ)
    → first_told what pools starts logs (n + 1) ≡ first_told what pools starts logs n ++ option_map_or (λ pool. told_of what pool (starts n) (logs n)) (slice_get pools n) []
unfolding first_told
first_told-more what pools starts logs n = rw add-one refl

pub nothing_told : (what : Report) (pools : List PoolSettings) (starts : ℕ → Base) (logs : ℕ → List Entry) → first_told what pools starts logs 0 ≡ []
unfolding first_told
nothing_told what pools starts logs = refl

-- of pools that begin from the same bases the same is told
pub same_starts : (what : Report) (pools : List PoolSettings) (starts others : ℕ → Base) (logs : ℕ → List Entry) → ((p : ℕ) → IfSome (slice_get pools p) (λ pool. starts p ≡ others p))
    → (n : ℕ) → first_told what pools starts logs n ≡ first_told what pools others logs n
unfolding first_told
same_starts what pools starts others logs same zero = refl
same_starts what pools starts others logs same (suc n) =
    ap (λ (l : List ℕ). l ++ option_map_or (λ pool. told_of what pool (starts n) (logs n)) (slice_get pools n) []) (same_starts what pools starts others logs same n)
    ∙ ap (λ (l : List ℕ). first_told what pools others logs n ++ l) (one_pool (slice_get pools n) (same n))
  where
    one_pool : (found : Option PoolSettings) → IfSome found (λ pool. starts n ≡ others n)
        → option_map_or (λ pool. told_of what pool (starts n) (logs n)) found [] ≡ option_map_or (λ pool. told_of what pool (others n) (logs n)) found []
    one_pool None h = refl
    one_pool (Some pool) h = ap (λ (start : Base). told_of what pool start (logs n)) h

-- the bases and the logs are those that a list of machines keeps
pub told_more : {M : Type 0} (what : Report) (start : M → Base) (none : Base) (log : M → List Entry) (pools : List PoolSettings) (machines : List M) (n : ℕ) (pool : PoolSettings) (machine : M) (before after : List ℕ)
    → length machines ≡ length pools → n < length pools → pool ≡ get_or pools n pool → machine ≡ get_or machines n machine
    → before ≡ first_told what pools (starts_in start none machines) (logs_in log machines) n → after ≡ before ++ told_of what pool (start machine) (log machine)
    → after ≡ first_told what pools (starts_in start none machines) (logs_in log machines) (n + 1)
told_more what start none log pools machines n pool machine before after same low pool_is machine_is so more =
    let starts = starts_in start none machines in
    let logs = logs_in log machines in
    more ∙ ap (λ (l : List ℕ). l ++ told_of what pool (start machine) (log machine)) so
    ∙ ap (λ (b : Base). first_told what pools starts logs n ++ told_of what pool b (log machine)) (sym (at_place start machines n machine none (omega (arith, low, same)) machine_is))
    ∙ ap (λ (l : List Entry). first_told what pools starts logs n ++ told_of what pool (starts n) l) (sym (at_place log machines n machine [] (omega (arith, low, same)) machine_is))
    ∙ ap (λ (found : Option PoolSettings). first_told what pools starts logs n ++ option_map_or (λ pool. told_of what pool (starts n) (logs n)) found []) (sym (got_place pools n pool low pool_is))
    ∙ sym (first_told-more what pools starts logs n)

-- where the settings of the machines are those of the pools, there are as many
pub as_many : {M : Type 0} (kept : M → MachineState) (pools : List PoolSettings) (machines : List M) → map (λ m. m.pool.settings) (map kept machines) ≡ pools → length machines ≡ length pools
as_many kept pools machines same = sym (length-map machines kept) ∙ sym (length-map (map kept machines) (λ (m : MachineState). m.pool.settings)) ∙ ap length same

-- and the settings of each machine are those of the pool at its place
pub settings_at : {M : Type 0} (kept : M → MachineState) (pools : List PoolSettings) (machines : List M) (n : ℕ) (pool : PoolSettings) (machine : M)
    → map (λ m. m.pool.settings) (map kept machines) ≡ pools → n < length pools → pool ≡ get_or pools n pool → machine ≡ get_or machines n machine → (kept machine).pool.settings ≡ pool
settings_at kept pools machines n pool machine same low pool_is machine_is =
    let count = as_many kept pools machines same in
    let own = (kept machine).pool.settings in
    let low_machine : n < length machines = omega (arith, count) in
    let low_kept : n < length (map kept machines) = omega (arith, count, length-map machines kept) in
    let at : own ≡ get_or pools n own =
    kept_place (λ (m : MachineState). m.pool.settings) (map kept machines) n (kept machine) low_kept (kept_place kept machines n machine low_machine machine_is)
    ∙ ap (λ (l : List PoolSettings). get_or l n own) same in
    same_Some own pool (sym (got_place pools n own low at) ∙ got_place pools n pool low pool_is)

-- the same, over what a machine keeps
pub told_of_machines : {M : Type 0} (what : Report) (kept : M → MachineState) (none : Base) (pools : List PoolSettings) (machines : List M) (n : ℕ) (pool : PoolSettings) (machine : M) (before after : List ℕ)
    → length machines ≡ length pools → n < length pools → pool ≡ get_or pools n pool → machine ≡ get_or machines n machine
    → before ≡ first_told what pools (starts_in (λ m. m.start) none (map kept machines)) (logs_in (λ m. m.log) (map kept machines)) n
    → after ≡ before ++ told_of what pool (kept machine).start (kept machine).log
    → after ≡ first_told what pools (starts_in (λ m. m.start) none (map kept machines)) (logs_in (λ m. m.log) (map kept machines)) (n + 1)
told_of_machines what kept none pools machines n pool machine before after same low pool_is machine_is so more =
    told_more what (λ (m : MachineState). m.start) none (λ (m : MachineState). m.log) pools (map kept machines) n pool (kept machine) before after (length-map machines kept ∙ same) low pool_is
    (kept_place kept machines n machine (omega (arith, low, same)) machine_is) so more
