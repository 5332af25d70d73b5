-- Items that go from one list to another, one after another.
use Rattle.std.proofs.Common.{◌≡◌, List, [], ◌∷◌, ◌++◌, length, map, sym, ap, ◌∙◌, append_assoc, append-nil}
use Rattle.std.proofs.lemmas.List.{map-append}
use Rattle.swarm_workers.proofs.NewDoors.{no_items}

-- the next of those that are left goes to those that were done
pub moved : {B V : Type 0} (has : B → V) (done more : List B) (b : B) (old rest all : List V) → more ≡ done ++ b ∷ [] → old ≡ has b ∷ rest → map has done ++ old ≡ all → map has more ++ rest ≡ all
moved has done more b old rest all pushed is so =
    ap (λ (l : List _). map has l ++ rest) pushed ∙ ap (λ (l : List _). l ++ rest) (map-append has done (b ∷ [])) ∙ append_assoc (map has done) (has b ∷ []) rest
    ∙ ap (λ (l : List _). map has done ++ l) (sym is) ∙ so

pub moved_all : {B V : Type 0} (has : B → V) (done : List B) (rest all : List V) → length rest ≡ 0 → map has done ++ rest ≡ all → map has done ≡ all
moved_all has done rest all none so = sym (append-nil (map has done)) ∙ ap (λ (l : List _). map has done ++ l) (sym (no_items rest none)) ∙ so
