-- What is printed of a fault.
use Rattle.std.specs.Prelude.{ℕ, List, ◌++◌, codes}
use Rattle.swarm_policy.specs.declared.settings_fault.SettingsFault.{SettingsFault}
use Rattle.swarm_policy.specs.declared.settings_fault.SettingsFault.TheVariants as fault
use Rattle.swarm_policy.specs.Rules.{rule_name}

-- the place of a broken rule and its name, with a space between them
abbrev pub fault_text : SettingsFault → List ℕ
fault_text fault.Memory = codes "want of memory"
fault_text (fault.Broken place rule) = place ++ (codes " " ++ rule_name rule)
