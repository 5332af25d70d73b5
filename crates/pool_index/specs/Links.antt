-- What contracts see of an index of links.
use Rattle.std.specs.Prelude.{◌≡◌, List, ◌++◌, ◌∷◌, [], Option, Some, None}
use Rattle.pool_index.specs.SortedLinks.{Key, link_of, Sets, taken_in}

-- the links in the order in which they came, and the one that is made ready
pub record LinksState (L : Type 0) : Type 0 where
  pub links : List L
  pub ready : Option L

-- the links with one more, where one is ready
abbrev pub links_with : {L : Type 0} → Option L → List L → List L
links_with None links = links
links_with (Some link) links = links ++ link ∷ []

-- the link with the key of the ready one has taken that one in, or the ready one has come
abbrev pub IsMerged : {L : Type 0} → (L → Key) → (L → L → L) → Option L → List L → List L → Type 0
IsMerged key merged None old new = new ≡ old
IsMerged key merged (Some link) old new =
    Sets key (key link) (taken_in merged link (link_of key old (key link))) old new
