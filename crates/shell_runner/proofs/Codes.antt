-- A line has one text in front of its end.
use Rattle.std.proofs.Common.{◌≡◌, ℕ, List, [], ◌∷◌, ◌++◌, Option, Result, ℤ, sym, ◌∙◌, subst}
use Rattle.std.proofs.lemmas.List.{append_cancel_right}
use Rattle.std.specs.declared.io.Error.{Error}
use Rattle.shell_runner.specs.Children.{ReadsCode}

pub code_is_said : {line : List ℕ} (before : List ℕ) (found : Result (Option ℤ) Error) → line ≡ before ++ 10 ∷ [] → ReadsCode before found → (text : List ℕ) → line ≡ text ++ 10 ∷ [] → ReadsCode text found
code_is_said before found e h text is = subst (λ t. ReadsCode t found) (append_cancel_right before text (10 ∷ []) (sym e ∙ is)) h
