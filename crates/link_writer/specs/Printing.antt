-- What the last text of a command comes to.
use Rattle.std.specs.Prelude.{◌≡◌, ◌⊎◌, ℕ, List, []}
use Rattle.sw_base.specs.Faults.{Rose}
use Rattle.sw_base.specs.Link.{LinkState, IsClean, NoFault}
use Rattle.link_writer.specs.Sends.{Written}

-- the text was written whole and flushed, and the status is this; or a write or the flush failed
pub record Prints (text : List ℕ) (good : ℕ) (s t : LinkState) (status : ℕ) : Type 0 where
  pub back : List ℕ
  pub written : Written s t text back
  pub cause : ((status ≡ good) × (back ≡ []) × IsClean t × NoFault s t) ⊎ ((status ≡ 4) × Rose s.write_faults t.write_faults)
