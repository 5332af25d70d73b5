-- Grants. All of a list are at one place, so of the rules that they break the first is told, whichever grant breaks it.
use Rattle.std.specs.Prelude.{ℕ, Bool, ◌&&◌, nat_le, List, [], ◌∷◌, ◌++◌, length, codes, Option, Some, None, if◌then◌else◌, Result, Ok, Err}
use Rattle.std.specs.List.{list_all}
use Rattle.toml.specs.Data.{Data, get}
use Rattle.dimensions.specs.Rules.{has_length_to}
use Rattle.swarm_model.specs.declared.permission.Permission.{Permission}
use Rattle.swarm_model.specs.declared.pool_settings.Grant.{Grant}
use Rattle.swarm_model.specs.Permissions.{permission_named}
use Rattle.swarm_model.specs.Settings.{is_grant}
use Rattle.swarm_model.specs.Words.{is_between}
use Rattle.json_fields.specs.Readings.{◌>>=◌}
use Rattle.swarm_policy.specs.declared.settings_rule.SettingsRule.{SettingsRule}
use Rattle.swarm_policy.specs.declared.settings_rule.SettingsRule.TheVariants as rule
use Rattle.swarm_policy.specs.declared.settings_fault.SettingsFault.{SettingsFault}
use Rattle.swarm_policy.specs.Fields.{is_table, is_text, or_default, required, text_of, unknown_key, values_of}
use Rattle.swarm_policy.specs.Readings.{at, keeping}
use Rattle.swarm_policy.specs.Rules.{first_rule}

-- a name that no permission has breaks the rule `grammar`
abbrev pub or_unnamed : Option Permission → Result Permission SettingsRule
or_unnamed None = Err rule.Grammar
or_unnamed (Some permission) = Ok permission

abbrev pub permission_of : Data → Result Permission SettingsRule
permission_of d = text_of d >>= (λ name. or_unnamed (permission_named name))

-- the permissions of the names of a list, in their order
abbrev pub permissions_of : List Data → Result (List Permission) SettingsRule
permissions_of [] = Ok []
permissions_of (d ∷ ds) = permission_of d >>= (λ p. permissions_of ds >>= (λ ps. Ok (p ∷ ps)))

abbrev pub grant_keys : List (List ℕ)
grant_keys = codes "caller" ∷ codes "permissions" ∷ []

-- another key of a grant breaks the rule `unknown`
abbrev pub unless_other : {A : Type 0} → A → Option (List ℕ) → Result A SettingsRule
unless_other x None = Ok x
unless_other x (Some key) = Err rule.Unknown

-- one grant, or the first rule that it breaks
unfoldable pub grant_of : Data → Result Grant SettingsRule
grant_of d = do
  table ← keeping rule.WrongType is_table d
  known ← unless_other table (unknown_key grant_keys table)
  who ← required Ok (get (codes "caller") known)
  what ← required Ok (get (codes "permissions") known)
  caller ← text_of who
  listed ← values_of what
  names ← keeping rule.WrongType (list_all is_text) listed
  short ← keeping rule.Count (has_length_to 128) caller
  visible ← keeping rule.Grammar (list_all (is_between 33 126)) short
  permissions ← permissions_of names
  Ok (record { caller = visible; permissions = permissions })

-- the grants so far and one more, or the first of the rules that they break
abbrev pub and_grant : Result (List Grant) SettingsRule → Result Grant SettingsRule → Result (List Grant) SettingsRule
and_grant (Ok grants) (Ok grant) = Ok (grants ++ grant ∷ [])
and_grant (Ok grants) (Err b) = Err b
and_grant (Err a) (Ok grant) = Err a
and_grant (Err a) (Err b) = Err (first_rule a b)

-- the grants so far and those that follow
abbrev pub grants_from : Result (List Grant) SettingsRule → List Data → Result (List Grant) SettingsRule
grants_from so_far [] = so_far
grants_from so_far (d ∷ ds) = grants_from (and_grant so_far (grant_of d)) ds

-- more than 256 grants break the rule `count`
abbrev pub none_yet : List Data → Result (List Grant) SettingsRule
none_yet ds = if nat_le (length ds) 256 then Ok [] else Err rule.Count

-- the grants of a list
unfoldable pub grants_of : List Data → Result (List Grant) SettingsRule
grants_of ds = grants_from (none_yet ds) ds

-- the grants of a value that may be absent
abbrev pub grants_in : Option Data → Result (List Grant) SettingsRule
grants_in found = or_default [] (λ d. values_of d >>= grants_of) found

-- the grants of a pool's table
unfoldable pub grants_at : Data → Result (List Grant) SettingsFault
grants_at d = at (codes "grants") (grants_in (get (codes "grants") d))

-- at most 256 grants, each of which keeps its rules
abbrev pub are_grants : List Grant → Bool
are_grants grants = nat_le (length grants) 256 && list_all is_grant grants
