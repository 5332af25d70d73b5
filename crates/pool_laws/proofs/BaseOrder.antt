-- Rows are created one after another, since moments never fall.
use Rattle.std.proofs.Common.{◌≡◌, ℕ, suc, ◌≤◌, List, [], ◌∷◌, ◌++◌, map, length, refl, ap, arith}
use Rattle.std.specs.List.{All}
use Rattle.std.proofs.lemmas.List.Kept.{AllPairs-cons}
use Rattle.std.proofs.lemmas.List.Elements.{All-from_get_or}
use Rattle.pool_laws.specs.Types.{TaskRow, PoolState, Entry, EntryKind}
use Rattle.swarm_model.specs.declared.entry.EntryKind.TheVariants as kind
use Rattle.swarm_model.specs.Effects.{task_after, added_tasks, new_row, after}
use Rattle.swarm_model.specs.History.{MayFollow}
use Rattle.swarm_model.specs.Soundness.{IsSound}
use Rattle.swarm_model.specs.BaseRules.{IsKeptTask, AreCreatedInOrder}
use Rattle.pool_laws.proofs.Lists.{Among, here, later, each, all, each_append, each_map, each_one}
use Rattle.pool_laws.proofs.EntryPreconditions.{finds}
use Rattle.pool_laws.proofs.Origins.{Origin, origin_same}

abbrev NoLater : TaskRow → TaskRow → Type 0
NoLater a b = a.created ≤ b.created

-- the first of rows in order was created no later than each other
pub first_in_order : (x : TaskRow) (xs : List TaskRow) → AreCreatedInOrder (x ∷ xs) → (y : TaskRow) → Among y xs → x.created ≤ y.created
first_in_order x xs h y a = each (NoLater x) xs (All-from_get_or (NoLater x) xs x (λ i low. h 0 (suc i) x (omega arith) (omega (arith, low)))) y a

-- and the others are in order
pub rest_in_order : (x : TaskRow) (xs : List TaskRow) → AreCreatedInOrder (x ∷ xs) → AreCreatedInOrder xs
rest_in_order x xs h = λ i j d less low. h (suc i) (suc j) d (omega (arith, less)) (omega (arith, low))

pub none_in_order : AreCreatedInOrder []
none_in_order = λ i j d less low. absurd (omega (arith, less, low))

one_in_order : (x : TaskRow) → AreCreatedInOrder (x ∷ [])
one_in_order x = λ i j d less low. absurd (omega (arith, less, low))

-- rows that were created when they were, and later ones after them
in_order_more : (f : TaskRow → TaskRow) (xs added : List TaskRow) → ((x : TaskRow) → Among x xs → (f x).created ≡ x.created) → ((x : TaskRow) → Among x xs → (y : TaskRow) → Among y added → x.created ≤ y.created) →
    AreCreatedInOrder added → AreCreatedInOrder xs → AreCreatedInOrder (map f xs ++ added)
in_order_more f [] added keeps before new old = new
in_order_more f (x ∷ xs) added keeps before new old =
    AllPairs-cons NoLater (f x) (map f xs ++ added)
    (all (NoLater (f x)) (map f xs ++ added)
    (each_append (NoLater (f x)) (map f xs) added
    (each_map (NoLater (f x)) f xs (λ y a. let first = first_in_order x xs old y a in let own = keeps x here in let its = keeps y (later a) in omega (arith, first, own, its)))
    (λ y a. let first = before x here y a in let own = keeps x here in omega (arith, first, own))))
    (in_order_more f xs added (λ y a. keeps y (later a)) (λ y a. before y (later a)) new (rest_in_order x xs old))

-- a row that is added is created at the moment of the entry
added_at : (m : ℕ) (k : EntryKind) → (x : TaskRow) → Among x (added_tasks m k) → x.created ≡ m
added_at m (kind.New t who request state slice from) x a = each_one (λ (y : TaskRow). y.created ≡ m) (new_row m t who request state slice from) refl x a
added_at m k x a = elim a [ ]

added_in_order : (m : ℕ) (k : EntryKind) → AreCreatedInOrder (added_tasks m k)
added_in_order m (kind.New t who request state slice from) = one_in_order (new_row m t who request state slice from)
added_in_order m k = none_in_order

-- so rows that were created by now stay in order
pub order_after : (s : PoolState) (e : Entry) → IsSound s → MayFollow s e → All (IsKeptTask s.settings s.last (length s.bots)) s.tasks → AreCreatedInOrder s.tasks → AreCreatedInOrder (after s e).tasks
order_after s e o follows kept old =
    let same = λ (x : TaskRow) (a : Among x s.tasks). ap (λ (z : Origin). z.created) (origin_same s e.moment e.kind o (finds s e follows) x a) in
    let fall = follows.not_before in
    in_order_more (task_after s e.moment e.kind) s.tasks (added_tasks e.moment e.kind) same
    (λ x a y b. let past = (each (IsKeptTask s.settings s.last (length s.bots)) s.tasks kept x a).created in let new = added_at e.moment e.kind y b in omega (arith, past, new, fall))
    (added_in_order e.moment e.kind) old
