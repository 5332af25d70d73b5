-- Lists of one item or none rise.
use Rattle.std.proofs.Common.{◌≡◌, ◌<◌, List, length, Bool, true}
use Rattle.dimensions.specs.Order.{is_rising_by}
use Rattle.dimensions.proofs.Rising as dimensions

pub is_rising_short : {X : Type 0} (below : X → X → Bool) (items : List X) → length items < 2 → is_rising_by below items ≡ true
is_rising_short below items short = dimensions.is_rising_short below items short
