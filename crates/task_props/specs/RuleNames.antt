-- The names of the rules, as answers show them.
use Rattle.std.specs.Prelude.{ℕ, List, codes}
use Rattle.task_props.specs.Types.{PropRule, Missing, WrongType, Unknown, Count, Grammar, Range, Repeated, Alternative, Pool, Id}

abbrev pub rule_name : PropRule → List ℕ
rule_name Missing = codes "missing"
rule_name WrongType = codes "type"
rule_name Unknown = codes "unknown"
rule_name Count = codes "count"
rule_name Grammar = codes "grammar"
rule_name Range = codes "range"
rule_name Repeated = codes "repeated"
rule_name Alternative = codes "alternative"
rule_name Pool = codes "pool"
rule_name Id = codes "id"
