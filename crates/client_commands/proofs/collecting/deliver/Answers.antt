use Rattle.client_commands.specs.Plans.{lacks_memory}
use Rattle.client_commands.proofs.collecting.deliver.Goals as goal

pub returns-in_default : goal.returns-in_default
returns-in_default g c = λ aside. lacks_memory _ _
