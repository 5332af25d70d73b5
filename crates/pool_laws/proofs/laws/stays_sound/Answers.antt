-- From an empty pool on, each entry keeps it sound.
use Rattle.pool_laws.proofs.Sound.{sound_always}
use Rattle.pool_laws.proofs.laws.stays_sound.Goals as goal

pub returns : goal.returns
returns c = sound_always
