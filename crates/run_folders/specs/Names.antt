-- The names of what stands in a folder, and the keys of an environment.
use Rattle.std.specs.Prelude.{Bool, not, ◌&&◌, ◌++◌, codes, nat_lt, length}
use Rattle.std.specs.List.{list_any, list_all}
use Rattle.dimensions.specs.declared.text.Text.{Text}
use Rattle.dimensions.specs.Rules.{begins_with_digit}
use Rattle.task_props.specs.Paths.{is_slash, names_nothing}
use Rattle.task_props.specs.ItemRules.{is_env_byte}

-- it names something, and not by a way through another folder
abbrev pub is_name : Text → Bool
is_name name = not (names_nothing name) && not (list_any is_slash name)

-- the path of what has a name, or a path, in a folder
abbrev pub below : Text → Text → Text
below folder name = folder ++ (codes "/" ++ name)

-- letters, digits and '_', 1 at least, the first no digit
abbrev pub is_env_key : Text → Bool
is_env_key key = nat_lt 0 (length key) && (not (begins_with_digit key) && list_all is_env_byte key)
