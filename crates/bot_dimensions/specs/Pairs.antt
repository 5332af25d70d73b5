-- The pairs that a text says, where the server takes a bot with them.
use Rattle.std.specs.Prelude.{ℕ, Bool, not, ◌&&◌, ◌||◌, ◌==◌, nat_le, List, [], ◌∷◌, length, map, Option, Some, None, is_none, if◌then◌else◌, codes}
use Rattle.std.specs.List.{list_any, list_all, slice_split, before_first, after_first}
use Rattle.dimensions.specs.declared.text.Text.{Text}
use Rattle.dimensions.specs.BotRules.{first_bot_broken}
use Rattle.bot_dimensions.specs.Groups.{has_key, groups_of, groups_with_bot}

abbrev pub is_semicolon : ℕ → Bool
is_semicolon byte = byte == 59

abbrev pub is_equals : ℕ → Bool
is_equals byte = byte == 61

-- the items of a text, with `;` between them; the empty text has none
abbrev pub items_of : Text → List Text
items_of [] = []
items_of (byte ∷ bytes) = slice_split is_semicolon (byte ∷ bytes)

abbrev pub is_pair : Text → Bool
is_pair item = list_any is_equals item

-- the key before the first `=`, and the value after it
abbrev pub pair_of : Text → Text × Text
pair_of item = (before_first is_equals item, after_first is_equals item)

-- a key that the bot itself adds
abbrev pub has_reserved_key : List (Text × Text) → Bool
has_reserved_key pairs = has_key (codes "pool") pairs || (has_key (codes "id") pairs || has_key (codes "caches") pairs)

-- no reserved key, at most 61 keys, which with the three reserved ones make the 64 of a bot, and no broken rule of the server
abbrev pub are_fitting : Text → Text → List (Text × Text) → Bool
are_fitting name pool pairs =
    not (has_reserved_key pairs)
    && (nat_le (length (groups_of pairs)) 61 && is_none (first_bot_broken name (groups_with_bot name pool (groups_of pairs))))

-- the pairs of a text, where it fits a bot of this name and pool
abbrev pub fitting_pairs : Text → Text → Text → Option (List (Text × Text))
fitting_pairs name pool text =
    if list_all is_pair (items_of text) && are_fitting name pool (map pair_of (items_of text))
    then Some (map pair_of (items_of text))
    else None
