-- Readings of settings: a value, or the first rule that is broken, with its place.
use Rattle.std.specs.Prelude.{◌≡◌, ◌≢◌, ℕ, List, ◌++◌, Bool, if◌then◌else◌, Option, Some, None, Result, Ok, Err, codes}
use Rattle.swarm_policy.specs.declared.settings_rule.SettingsRule.{SettingsRule}
use Rattle.swarm_policy.specs.declared.settings_rule.SettingsRule.TheVariants.{WrongType}
use Rattle.swarm_policy.specs.declared.settings_fault.SettingsFault.{SettingsFault}
use Rattle.swarm_policy.specs.declared.settings_fault.SettingsFault.TheVariants as fault
use Rattle.swarm_policy.specs.declared.value_fault.ValueFault.{ValueFault}
use Rattle.swarm_policy.specs.declared.value_fault.ValueFault.TheVariants as value_fault

-- what a function gave, seen by a view, is what the reading gives, but for want of memory
abbrev pub GivesUnlessMemory : {X Y : Type 0} → (X → Y) → Result X SettingsFault → Result Y SettingsFault → Type 0
GivesUnlessMemory view (Ok x) reading = reading ≡ Ok (view x)
GivesUnlessMemory view (Err e) reading = e ≢ fault.Memory → reading ≡ Err e

-- the same of a value that is what it is seen as
abbrev pub Reads : {A : Type 0} → Result A SettingsFault → Result A SettingsFault → Type 0
Reads result reading = GivesUnlessMemory (λ x. x) result reading

-- what a function gave is what the reading gives, but for want of memory; the place of a broken rule is told later
abbrev pub ReadsValue : {A : Type 0} → Result A ValueFault → Result A SettingsRule → Type 0
ReadsValue (Ok x) reading = reading ≡ Ok x
ReadsValue (Err value_fault.Memory) reading = Unit {0}
ReadsValue (Err (value_fault.Broken rule)) reading = reading ≡ Err rule

-- a value that keeps a rule
abbrev pub keeping : {A : Type 0} → SettingsRule → (A → Bool) → A → Result A SettingsRule
keeping rule test x = if test x then Ok x else Err rule

-- a value, which has the wanted type where there is one
abbrev pub or_wrong : {A : Type 0} → Option A → Result A SettingsRule
or_wrong None = Err WrongType
or_wrong (Some x) = Ok x

-- a rule that is broken at a key
abbrev pub at : {A : Type 0} → List ℕ → Result A SettingsRule → Result A SettingsFault
at key (Ok x) = Ok x
at key (Err rule) = Err (fault.Broken key rule)

-- a rule that is broken below a key: the place goes on after a dot
abbrev pub below : List ℕ → SettingsFault → SettingsFault
below key fault.Memory = fault.Memory
below key (fault.Broken place rule) = fault.Broken (key ++ (codes "." ++ place)) rule

-- a reading of what is below a key
abbrev pub inside : {A : Type 0} → List ℕ → Result A SettingsFault → Result A SettingsFault
inside key (Ok x) = Ok x
inside key (Err e) = Err (below key e)
