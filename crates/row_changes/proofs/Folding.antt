-- A fold over what a list gives, one element further.
use Rattle.std.proofs.Common.{◌≡◌, ℕ, ◌+◌, ◌<◌, List, [], length, get_or, take, refl, ap, Option, Some, None}
use Rattle.std.specs.List.{fold, filter_map, cons_option}
use Rattle.std.specs.Option.{option_to_list}
use Rattle.std.proofs.lemmas.List.{take_more}
use Rattle.std.proofs.lemmas.List.Elements.{filter_map-append}
use Rattle.std.proofs.lemmas.List.Sums.{fold-append}

cons_nil : {Y : Type 0} (o : Option Y) → cons_option o [] ≡ option_to_list o
cons_nil None = refl
cons_nil (Some y) = refl

pub fold-filter_map_more : {X Y B : Type 0} (f : B → Y → B) (h : X → Option Y) (b : B) (xs : List X) (i : ℕ) (x : X) → i < length xs →
    x ≡ get_or xs i x →
    fold f b (filter_map h (take (i + 1) xs)) ≡ fold f (fold f b (filter_map h (take i xs))) (option_to_list (h x))
fold-filter_map_more f h b xs i x low is =
    rw (take_more xs i x low, filter_map-append, fold-append, ← is) (ap (fold f (fold f b (filter_map h (take i xs)))) (cons_nil (h x)))
