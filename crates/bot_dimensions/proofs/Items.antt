-- The items of a text that is not empty.
use Rattle.std.proofs.Common.{◌≡◌, ℕ, List, [], ◌∷◌, length, false, ◌==◌, refl}
use Rattle.std.specs.List.{slice_split}
use Rattle.bot_dimensions.specs.Pairs.{is_semicolon, items_of}

pub items_of-filled : (text : List ℕ) → (length text == 0) ≡ false → items_of text ≡ slice_split is_semicolon text
items_of-filled [] e = cc
items_of-filled (byte ∷ bytes) e = refl
