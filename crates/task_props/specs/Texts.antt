-- What the canonical text of checked properties tells.
use Rattle.std.specs.Prelude.{◌≡◌, ◌↔◌, true}
use Rattle.task_props.specs.declared.properties.Properties.{Properties}
use Rattle.task_props.specs.Canonical.{canonical}
use Rattle.task_props.specs.Checked.{are_sound}

-- two checked properties have one canonical text exactly where they are equal
abbrev pub HaveOneTextEach : Type 0
HaveOneTextEach = (a b : Properties) → are_sound a ≡ true → are_sound b ≡ true → (canonical a ≡ canonical b) ↔ (a ≡ b)
