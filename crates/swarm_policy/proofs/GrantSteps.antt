-- Grants that are read one by one: what those so far keep.
use Rattle.std.proofs.Common.{◌≡◌, ℕ, ◌+◌, ◌≤◌, List, [], ◌∷◌, length, refl, ◌∙◌, Bool, true, false, arith, length-append}
use Rattle.std.specs.Prelude.{Result, Ok, Err, nat_le, IfOk, if◌then◌else◌}
use Rattle.std.specs.List.{list_all}
use Rattle.std.proofs.lemmas.Bool.{and_from, le-leb, leb-true}
use Rattle.std.proofs.lemmas.List.Folds.{list_all-append}
use Rattle.toml.specs.Data.{Data}
use Rattle.swarm_model.specs.declared.pool_settings.Grant.{Grant}
use Rattle.swarm_model.specs.Settings.{is_grant}
use Rattle.swarm_policy.specs.declared.settings_rule.SettingsRule.{SettingsRule}
use Rattle.swarm_policy.specs.declared.settings_rule.SettingsRule.TheVariants.{Count}
use Rattle.swarm_policy.specs.Grants.{and_grant, are_grants, none_yet}

-- of a list so long, so many are read, and each keeps its rules
abbrev pub AreRead : ℕ → ℕ → Result (List Grant) SettingsRule → Type 0
AreRead all read (Ok grants) = (all ≤ 256) × (length grants ≡ read) × (list_all is_grant grants ≡ true)
AreRead all read (Err rule) = Unit {0}

few-none : (all : ℕ) (few : Bool) → nat_le all 256 ≡ few → AreRead all 0 (if few then Ok [] else Err Count)
few-none all true e = (leb-true all 256 e, refl, refl)
few-none all false e = tt

pub read-none : (ds : List Data) → AreRead (length ds) 0 (none_yet ds)
read-none ds = few-none (length ds) (nat_le (length ds) 256) refl

pub read-more : (all read : ℕ) (so_far : Result (List Grant) SettingsRule) (grant : Result Grant SettingsRule) → AreRead all read so_far → IfOk grant (λ g. is_grant g ≡ true) → AreRead all (read + 1) (and_grant so_far grant)
read-more all read (Ok grants) (Ok grant) r keeps =
    let shown = length-append grants (grant ∷ []) in
    let counted = r.1 in
    (r.0, omega (arith, shown, counted), list_all-append is_grant grants (grant ∷ []) ∙ and_from _ _ r.2 (and_from _ _ keeps refl))
read-more all read (Ok grants) (Err rule) r keeps = tt
read-more all read (Err earlier) (Ok grant) r keeps = tt
read-more all read (Err earlier) (Err rule) r keeps = tt

pub read-all : (all : ℕ) (grants : List Grant) → AreRead all all (Ok grants) → are_grants grants ≡ true
read-all all grants r = and_from _ _ (le-leb (length grants) 256 (omega (arith, r.0, r.1))) r.2
