-- What was read of a reader, piece by piece.
use Rattle.std.proofs.Common.{◌≡◌, ◌∙◌, ℕ, List, [], ◌++◌, Option, Some, None, IfSome, sym, ap, append-nil}
use Rattle.std.specs.Io.KnownBytes.{Consumes, Keeps, IsAtEnd}
use Rattle.std.proofs.KnownBytes.{Consumes-nil, Consumes-trans, Consumes-kept}

pub none_yet : (a : Option (List ℕ)) → Consumes a a []
none_yet a = Consumes-nil a

pub one_more : (a b c : Option (List ℕ)) (bs cs : List ℕ) → Consumes a b bs → Consumes b c cs → Consumes a c (bs ++ cs)
one_more a b c bs cs p q = Consumes-trans a b c bs cs p q

pub none_more : (a b c : Option (List ℕ)) (bs : List ℕ) → Consumes a b bs → Keeps b c → Consumes a c bs
none_more a b c bs p q = Consumes-kept a b c bs p q

-- what was read up to the end is all that was left
pub all_of_it : (a b c : Option (List ℕ)) (bs : List ℕ) → Consumes a b bs → Consumes b c [] → IsAtEnd c → IfSome a (λ all. bs ≡ all)
all_of_it None b c bs p q r = tt
all_of_it (Some x) None c bs p q r = absurd p
all_of_it (Some x) (Some y) None bs p q r = absurd q
all_of_it (Some x) (Some y) (Some z) bs p q r = sym (p ∙ ap (λ l. bs ++ l) (q ∙ r) ∙ append-nil bs)
