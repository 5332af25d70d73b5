use Rattle.std.proofs.Common.{◌≡◌, ◌∷◌, []}
use Rattle.httparse.proofs.GrammarLemmas.{request_prefix_free}
use Rattle.base_examples.proofs.head_examples.a_head_has_nothing_behind_it.Goals as goal

pub returns : goal.returns
returns c text more byte head is_head other is_other =
    let none : byte ∷ more ≡ [] = (request_prefix_free text (byte ∷ more) head other [] [] is_head.read is_other.read).1 in
    cc
