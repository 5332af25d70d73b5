use Rattle.std.proofs.Common.{Some, None}
use Rattle.client_commands.proofs.Batching.{name_found_on}
use Rattle.client_commands.proofs.Following.{carried}
use Rattle.client_commands.proofs.batch_files.read_named.Goals as goal

pub returns-in-Some : goal.returns-in-Some
returns-in-Some g c = λ server next dialer aside.
    carried next _ c.read_both.result (name_found_on _ _ (Some c.in-Some.name.now) c.in-Some.ensures) (c.read_both.ensures server next dialer aside)

pub returns-in-None : goal.returns-in-None
returns-in-None g c = λ server next dialer aside. name_found_on _ _ None c.in-None.ensures _ _ (c.print_broken.ensures server dialer aside)
