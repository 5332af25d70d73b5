-- Parts of a plan that were carried out.
use Rattle.std.specs.Prelude.{ℕ, List, Option, Result, Ok, Err}
use Rattle.sw_base.specs.Link.{LinkState}
use Rattle.sw_base.specs.Dialers.{DialerState}
use Rattle.sw_base.specs.Files.{FilesState}
use Rattle.swarm_model.specs.declared.reply.Reply.{Reply}
use Rattle.client_commands.specs.declared.asking.Answer.{Answer}
use Rattle.client_commands.specs.declared.server.Server.{Server}
use Rattle.client_commands.specs.Requests.{Call}
pub use Rattle.client_commands.specs.Plans.{Aside}
use Rattle.client_commands.specs.Plans.{Plan, World, Follows, ask, after}

abbrev pub aside_of : Option ℕ → FilesState → Aside
aside_of waited files = record { waited = waited; files = files }

abbrev pub world : DialerState → LinkState → Aside → World
world dialer console aside = record { dialer = dialer; console = console; aside = aside }

-- whoever follows the later plan from the later world follows the earlier one from the earlier world
abbrev pub Leads : Server → Plan → World → Plan → World → Type 0
Leads server plan w next u = (v : World) (status : ℕ) → Follows server next u v status → Follows server plan w v status

-- a part of the plan was carried out, and `next` of what it gave is left; or all of it, with a status
abbrev pub Carries : {A : Type 0} → Server → Plan → World → (A → Plan) → World → Result A ℕ → Type 0
Carries server plan w next u (Ok a) = Leads server plan w (next a) u
Carries server plan w next u (Err status) = Follows server plan w u status

-- what follows a good answer
abbrev pub answered : (ℕ → Reply → List ℕ → Plan) → Answer → Plan
answered good answer = good answer.place answer.reply answer.bytes

-- a call with this body was exchanged, whatever follows it
abbrev pub Asks : Server → Call → World → World → Result Answer ℕ → Type 0
Asks server call w u result = (good : ℕ → Reply → List ℕ → Plan) → Carries server (ask call (after good)) w (answered good) u result
