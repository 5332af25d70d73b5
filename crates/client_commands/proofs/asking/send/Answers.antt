use Rattle.std.proofs.Common.{rules}
use Rattle.std.specs.Prelude.{vec_items}
use Rattle.server_calls.specs.declared.exchanged.Exchanged.TheVariants as answer
use Rattle.client_commands.specs.Plans.{once_told, lacks_memory, ends}
use Rattle.client_commands.proofs.Following.{exchanged, exchanges_of}
use Rattle.client_commands.proofs.asking.send.Goals as goal

pub returns-in_default : goal.returns-in_default
returns-in_default g c = λ call posts next console aside. lacks_memory _ _

pub returns-in-Told : goal.returns-in-Told
returns-in-Told g c = λ call posts next console aside.
    exchanged (answer.Told c.in-Told.told) (g.W.Dialer.state c.exchange.new.dialer) (once_told next)
    (exchanges_of call c.args.post.now.path.now (vec_items c.args.post.now.body) c.deref.result.now posts.route posts.path posts.body (search rules) c.in-Told.ensures)

pub returns-in-NoReply : goal.returns-in-NoReply
returns-in-NoReply g c = λ call posts next console aside.
    exchanged answer.NoReply (g.W.Dialer.state c.exchange.new.dialer) (once_told next)
    (exchanges_of call c.args.post.now.path.now (vec_items c.args.post.now.body) c.deref.result.now posts.route posts.path posts.body (search rules) c.in-NoReply.ensures) _ _ (ends 9 _)

pub returns-in-Lost : goal.returns-in-Lost
returns-in-Lost g c = λ call posts next console aside.
    exchanged answer.Lost (g.W.Dialer.state c.exchange.new.dialer) (once_told next)
    (exchanges_of call c.args.post.now.path.now (vec_items c.args.post.now.body) c.deref.result.now posts.route posts.path posts.body (search rules) c.in-Lost.ensures) _ _ (ends 4 _)

pub returns : goal.returns
returns g c = λ call posts next console aside.
    exchanged answer.Memory (g.W.Dialer.state c.exchange.new.dialer) (once_told next)
    (exchanges_of call c.args.post.now.path.now (vec_items c.args.post.now.body) c.deref.result.now posts.route posts.path posts.body (search rules) c.in-Memory.ensures) _ _ (ends 5 _)
