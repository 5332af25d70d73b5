-- The line for records that no settings name.
use Rattle.swarm_cli.proofs.settings_file.run_unkept.Goals as goal

pub returns-in-Checkpoint : goal.returns-in-Checkpoint
returns-in-Checkpoint g c = λ store. rw c.in-Checkpoint.is (c.print_refusal.ensures (g.C.Clock.ahead c.args.clock.now) (g.N.Listener.state c.args.listener.now) store)

-- workers and boards, or the line for a pool that is too large for boards
pub returns-in-WithBoards : goal.returns-in-WithBoards
returns-in-WithBoards g c = λ store. rw (c.in-WithBoards.is, ← c.as_str-in-WithBoards.ensures.value) (c.run_with_boards.ensures store)
