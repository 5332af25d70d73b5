-- What begins a list.
use Rattle.std.proofs.Common.{List, [], ◌++◌, sym, ap, ◌∙◌}
use Rattle.std.specs.List.{All}
use Rattle.std.proofs.lemmas.List.{append-nil, append_assoc}
use Rattle.std.proofs.lemmas.List.Elements.{All-weaker}
use mathlib.Core.List.{IsPrefix}

module _ {A : Type 0} where
  pub begins_itself : (xs : List A) → IsPrefix xs xs
  begins_itself xs = ([], append-nil xs)

  -- what begins a list begins each longer one
  pub begins_longer : (xs ys more : List A) → IsPrefix xs ys → IsPrefix xs (ys ++ more)
  begins_longer xs ys more p = (p.0 ++ more, sym (append_assoc xs p.0 more) ∙ ap (λ zs. zs ++ more) p.1)

  pub all_begin_longer : (list more : List A) (told : List (List A)) → All (λ front. IsPrefix front list) told → All (λ front. IsPrefix front (list ++ more)) told
  all_begin_longer list more told h = All-weaker (λ front. IsPrefix front list) (λ front. IsPrefix front (list ++ more)) (λ front. begins_longer front list more) told h
