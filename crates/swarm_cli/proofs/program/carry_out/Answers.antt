use Rattle.swarm_cli.proofs.program.carry_out.Goals as goal

pub returns-in-Bot : goal.returns-in-Bot
returns-in-Bot g c = rw c.in-Bot.is (c.run_bot_command.ensures (g.F.Files.state c.args.files.now) (g.P.Store.state c.args.store.now) (g.N.Listener.state c.args.listener.now))

pub returns-in-Client : goal.returns-in-Client
returns-in-Client g c = rw c.in-Client.is (c.run_client.ensures (g.P.Store.state c.args.store.now) (g.N.Listener.state c.args.listener.now) (g.R.Runner.state c.args.runner.now))
