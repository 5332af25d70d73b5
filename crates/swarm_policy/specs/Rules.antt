-- The rules of the settings: the order in which they are told, and their names.
use Rattle.std.specs.Prelude.{ℕ, List, nat_le, if◌then◌else◌, codes}
use Rattle.swarm_policy.specs.declared.settings_rule.SettingsRule.{SettingsRule}
use Rattle.swarm_policy.specs.declared.settings_rule.SettingsRule.TheVariants.{Toml, Unknown, Missing, WrongType, Count, Grammar, Range, Repeated}

-- the place of a rule in their order
abbrev pub order_of : SettingsRule → ℕ
order_of Toml = 0
order_of Unknown = 1
order_of Missing = 2
order_of WrongType = 3
order_of Count = 4
order_of Grammar = 5
order_of Range = 6
order_of Repeated = 7

-- which of two rules is told
abbrev pub first_rule : SettingsRule → SettingsRule → SettingsRule
first_rule a b = if nat_le (order_of a) (order_of b) then a else b

-- the name of a rule, as it is printed
abbrev pub rule_name : SettingsRule → List ℕ
rule_name Toml = codes "toml"
rule_name Unknown = codes "unknown"
rule_name Missing = codes "missing"
rule_name WrongType = codes "type"
rule_name Count = codes "count"
rule_name Grammar = codes "grammar"
rule_name Range = codes "range"
rule_name Repeated = codes "repeated"
