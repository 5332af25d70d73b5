-- The kinds of a log's entries, as it grows.
use Rattle.std.proofs.Common.{◌≡◌, ◌⊎◌, inl, inr, List, [], ◌∷◌, ◌++◌, ap, ◌∙◌}
use Rattle.std.proofs.lemmas.List.Elements.{Contains-append_left, Contains-append_right, Contains-push, Contains-push_cases}
use Rattle.std.specs.List.{Contains}
use Rattle.log_laws.specs.Types.{Entry, EntryKind}
use Rattle.log_laws.specs.Runs.{HasEntry}

pub has_left : (log more : List Entry) (k : EntryKind) → HasEntry log k → HasEntry (log ++ more) k
has_left log more k h = record { entry = h.entry; among = Contains-append_left log more h.entry h.among; is = h.is }

pub has_right : (log more : List Entry) (k : EntryKind) → HasEntry more k → HasEntry (log ++ more) k
has_right log more k h = record { entry = h.entry; among = Contains-append_right log more h.entry h.among; is = h.is }

pub has_last : (log : List Entry) (e : Entry) (k : EntryKind) → e.kind ≡ k → HasEntry (log ++ e ∷ []) k
has_last log e k is = record { entry = e; among = Contains-push log e; is = is }

pub has_cases : (log : List Entry) (e : Entry) (k : EntryKind) → HasEntry (log ++ e ∷ []) k → HasEntry log k ⊎ (e.kind ≡ k)
has_cases log e k h = by_case (Contains-push_cases log e h.entry h.among)
  where
    by_case : Contains log h.entry ⊎ (e ≡ h.entry) → HasEntry log k ⊎ (e.kind ≡ k)
    by_case (inl c) = inl (record { entry = h.entry; among = c; is = h.is })
    by_case (inr c) = inr (ap (λ (y : Entry). y.kind) c ∙ h.is)
