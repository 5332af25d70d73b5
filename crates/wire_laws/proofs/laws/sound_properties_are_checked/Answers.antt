use Rattle.wire_laws.proofs.SoundProperties.{sound-are_checked}
use Rattle.wire_laws.proofs.laws.sound_properties_are_checked.Goals as goal

pub returns : goal.returns
returns c = sound-are_checked
