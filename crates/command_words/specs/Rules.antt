-- The arguments of a command, as clap's definitions read them.
use Rattle.std.specs.Prelude.{ℕ, List, [], ◌∷◌, Some, true, codes}
use Rattle.clap.specs.Words.{App, Rule, new_rule, with_rule}
use Rattle.clap.specs.declared.builder.value_parser.ValueParser.TheVariants as vp
use Rattle.clap.specs.declared.builder.ArgAction.TheVariants.{Set, SetTrue}

-- a long option that takes one text
abbrev pub text_rule : List ℕ → Rule
text_rule name = record (new_rule name) { long = Some name; action = Some Set; value_names = 1 }

-- a long option that must be there
abbrev pub required_rule : List ℕ → Rule
required_rule name = record (text_rule name) { required = true }

-- a long option with a default
abbrev pub default_rule : List ℕ → List ℕ → Rule
default_rule name default = record (text_rule name) { defaults = default ∷ [] }

-- a long option that takes a whole number from least to most, with a default
abbrev pub number_rule : List ℕ → ℕ → ℕ → List ℕ → Rule
number_rule name least most default = record (text_rule name) { parser = Some (vp.Unsigned least most); defaults = default ∷ [] }

-- a long option that takes no value
abbrev pub flag_rule : List ℕ → Rule
flag_rule name = record (new_rule name) { long = Some name; action = Some SetTrue }

-- a word that must be there
abbrev pub place_rule : List ℕ → Rule
place_rule name = record (new_rule name) { required = true }

-- the command, with the server and the caller that each command of a client needs
abbrev pub with_server : App → App
with_server a = with_rule (with_rule a (required_rule (codes "server"))) (required_rule (codes "caller"))
