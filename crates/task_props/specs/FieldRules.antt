-- The rule of each field of a request for a task: the first one that a value breaks.
use Rattle.std.specs.Prelude.{ℕ, ◌+◌, ℤ, pos, int_le, if◌then◌else◌, Bool, not, ◌&&◌, ◌||◌, ◌==◌, nat_le, nat_lt, List, [], ◌∷◌, length, Option, None, is_none}
use Rattle.std.specs.Ordering.{int_eq}
use Rattle.std.specs.List.{list_any, list_all}
use Rattle.std.specs.Option.{option_map}
use Rattle.std.specs.Char.{is_ascii_control, is_ascii_alphanumeric}
use Rattle.task_props.specs.Types.{Text, PropRule, SliceField}
use Rattle.dimensions.specs.declared.dim_fault.DimRule.{DimRule}
use Rattle.dimensions.specs.declared.dim_fault.DimRule.TheVariants as dim_rule
use Rattle.dimensions.specs.Choosing.{when, ◌or_else◌}
use Rattle.dimensions.specs.Rules.{first_broken}
use Rattle.task_props.specs.declared.prop_rule.PropRule.TheVariants as prop_rule
use Rattle.task_props.specs.declared.task_field.SliceField.TheVariants as slice_field
use Rattle.task_props.specs.Digests.{digest_in}

-- 0 to 256 bytes without control characters
abbrev pub name_rule : Text → Option PropRule
name_rule name =
    when (nat_lt 256 (length name)) prop_rule.Count
    or_else when (list_any is_ascii_control name) prop_rule.Grammar

-- from the low to the high number
abbrev pub range_rule : ℕ → ℕ → ℤ → Option PropRule
range_rule low high number = when (not (int_le (pos low) number && int_le number (pos high))) prop_rule.Range

abbrev pub priority_rule : ℤ → Option PropRule
priority_rule number = range_rule 0 255 number

-- 0 means 1200
abbrev pub meant_tolerance : ℤ → ℤ
meant_tolerance seconds = if int_eq seconds (pos 0) then pos 1200 else seconds

abbrev pub tolerance_rule : ℤ → Option PropRule
tolerance_rule seconds = range_rule 60 1200 seconds

abbrev pub expiration_rule : ℤ → Option PropRule
expiration_rule seconds = range_rule 1 604800 seconds

-- 0 means none
abbrev pub timeout_rule : ℤ → Option PropRule
timeout_rule seconds = range_rule 0 604800 seconds

abbrev pub grace_rule : ℤ → Option PropRule
grace_rule seconds = range_rule 0 3600 seconds

-- an ASCII letter or digit, or '-'
abbrev pub is_uuid_byte : ℕ → Bool
is_uuid_byte byte = is_ascii_alphanumeric byte || byte == 45

-- 64 hexadecimal digits in lower case
abbrev pub digest_rule : Text → Option PropRule
digest_rule text = when (is_none (digest_in text)) prop_rule.Grammar

-- a content of at most 16777216 bytes
abbrev pub size_rule : ℤ → Option PropRule
size_rule bytes = range_rule 0 16777216 bytes

-- at most 64 letters, digits and '-'; empty where a request has none
abbrev pub uuid_rule : Text → Option PropRule
uuid_rule uuid =
    when (nat_lt 64 (length uuid)) prop_rule.Count
    or_else when (not (list_all is_uuid_byte uuid)) prop_rule.Grammar

-- a list of 1 to so many items
abbrev pub count_rule : ℕ → ℕ → Option PropRule
count_rule most count = when (not (nat_le 1 count && nat_le count most)) prop_rule.Count

abbrev pub is_nul : ℕ → Bool
is_nul byte = byte == 0

-- a text of a command, at a place: the first is not empty, each has at most 4096 bytes and no NUL
abbrev pub text_rule : ℕ → Text → Option PropRule
text_rule place text =
    when (place == 0 && length text == 0) prop_rule.Count
    or_else when (nat_lt 4096 (length text)) prop_rule.Count
    or_else when (list_any is_nul text) prop_rule.Grammar

abbrev pub broken_at : {F : Type 0} → F → PropRule → F × PropRule
broken_at field rule = (field, rule)

-- the first text that breaks its rule, where the list begins at a place
abbrev pub first_broken_text : ℕ → List Text → Option (SliceField × PropRule)
first_broken_text place [] = None
first_broken_text place (text ∷ texts) =
    option_map (broken_at (slice_field.CommandText place)) (text_rule place text)
    or_else first_broken_text (place + 1) texts

-- 1 to 64 texts
abbrev pub broken_command : List Text → Option (SliceField × PropRule)
broken_command texts =
    option_map (broken_at slice_field.Command) (count_rule 64 (length texts))
    or_else first_broken_text 0 texts

-- what a rule on dimensions is among the rules on fields
abbrev pub rule_of : DimRule → PropRule
rule_of dim_rule.TooMany = prop_rule.Count
rule_of dim_rule.BadKey = prop_rule.Grammar
rule_of dim_rule.BadValue = prop_rule.Grammar
rule_of dim_rule.EmptyAlternative = prop_rule.Alternative
rule_of dim_rule.Repeated = prop_rule.Repeated
rule_of dim_rule.Pool = prop_rule.Pool
rule_of dim_rule.Id = prop_rule.Id

-- a rule on one pair is told at the pair, a rule on all of them at the list
abbrev pub field_of : DimRule → ℕ → SliceField
field_of dim_rule.TooMany place = slice_field.Dimensions
field_of dim_rule.Pool place = slice_field.Dimensions
field_of dim_rule.Id place = slice_field.Dimensions
field_of dim_rule.BadKey place = slice_field.Dimension place
field_of dim_rule.BadValue place = slice_field.Dimension place
field_of dim_rule.EmptyAlternative place = slice_field.Dimension place
field_of dim_rule.Repeated place = slice_field.Dimension place

abbrev pub as_field : DimRule × ℕ → SliceField × PropRule
as_field broken = (field_of broken.0 broken.1, rule_of broken.0)

abbrev pub broken_dimensions : List (Text × Text) → Option (SliceField × PropRule)
broken_dimensions pairs = option_map as_field (first_broken pairs)
