-- Digests, as texts.
use Rattle.std.specs.Prelude.{ℕ, List, Option, Some, None, Result, Ok, Err}
use Rattle.task_props.specs.declared.prop_rule.PropRule.{PropRule}
use Rattle.task_props.specs.declared.prop_rule.PropRule.TheVariants.{Grammar}
use Rattle.task_props.specs.declared.prop_fault.PropFault.{PropFault}
use Rattle.task_props.specs.Digests.{digest_in}
use Rattle.json_fields.specs.Readings.{at}

abbrev pub or_no_digest : Option (List ℕ) → Result (List ℕ) PropRule
or_no_digest None = Err Grammar
or_no_digest (Some digest) = Ok digest

-- the digest of which a text is the 64 hexadecimal digits in lower case
abbrev pub digest_at : List ℕ → List ℕ → Result (List ℕ) PropFault
digest_at key text = at key (or_no_digest (digest_in text))
