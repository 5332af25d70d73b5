-- Where no state is named, each task is counted.
use Rattle.std.proofs.Common.{◌≡◌, true, List, [], ◌∷◌, length, count_by, refl, sym, ◌∙◌, arith}
use Rattle.dimensions.proofs.Counting.{count-pass}
use Rattle.row_copies.proofs.sound_copy.SoundCopyReadQueries.count.Goals as goal

count_all : {X : Type 0} (xs : List X) → count_by (λ x. true) xs ≡ length xs
count_all [] = refl
count_all {X = X} (x ∷ xs) = let rest = count_all xs in let first = count-pass {X = X} (λ y. true) x xs refl in omega (arith, rest, first)

pub returns-in-None : goal.returns-in-None
returns-in-None c = rw (← c.self.view_is, c.in-None.is) (c.count.ensures ∙ sym (count_all c.self.inside.copy.now.tasks.rows))
