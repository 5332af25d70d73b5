use Rattle.std.proofs.Common.{◌∙◌, Ok, Err, subst}
use Rattle.std.specs.Prelude.{⊤}
use Rattle.sw_base.specs.Files.{Saves}
use Rattle.client_commands.specs.Batches.{once_saved}
use Rattle.client_commands.specs.Plans.{ends, lacks_memory}
use Rattle.client_commands.proofs.Following.{saved_on}
use Rattle.client_commands.proofs.spawning.save_progress.Goals as goal

pub returns-in_default : goal.returns-in_default
returns-in_default g c = λ server next dialer console waited. lacks_memory _ _

pub returns-in-Ok-save : goal.returns-in-Ok-save
returns-in-Ok-save g c = λ server next dialer console waited. saved_on _ _ (once_saved next) (Ok tt)
    (subst (λ bytes. Saves {T = ⊤} (g.F.Files.state c.args.files.now) (g.F.Files.state c.save.new.self) c.args.done.now bytes (Ok tt)) (c.as_bytes.ensures.value ∙ c.in-Ok.ensures.written) c.in-Ok-save.ensures)

pub returns : goal.returns
returns g c = λ server next dialer console waited. saved_on _ _ (once_saved next) (Err c.in-Err.fault)
    (subst (λ bytes. Saves {T = ⊤} (g.F.Files.state c.args.files.now) (g.F.Files.state c.save.new.self) c.args.done.now bytes (Err c.in-Err.fault)) (c.as_bytes.ensures.value ∙ c.in-Ok.ensures.written) c.in-Err.ensures) _ _
    (rw c.fault_status.ensures (ends _ _))
