-- The turns of one request: Handshake, Poll, Claim and Send.
use Rattle.std.specs.Prelude.{◌≡◌, ℕ, List, [], Option, Some, None, IsSorted, IsPermutation}
use Rattle.dimensions.specs.Order.{text_cmp}
use Rattle.bot_turns.specs.Types.{Properties, Reply, Exchanged, BotEvent, Hands}
use Rattle.sw_base.specs.Dialers.{DialerState}
use Rattle.swarm_model.specs.declared.reply.Reply.TheVariants as reply
use Rattle.json_fields.specs.Ids.{run_id}
use Rattle.routes.specs.declared.route.Route.{Route}
use Rattle.routes.specs.declared.route.Route.TheVariants as route
use Rattle.server_calls.specs.declared.told.Told.TheVariants as told
use Rattle.server_calls.specs.declared.exchanged.Exchanged.TheVariants as exchanged
use Rattle.server_calls.specs.Exchanges.{IsExchanged}
use Rattle.named_caches.specs.Caches.{Caches, names_of}
use Rattle.bot_core.specs.declared.action.End.{End}
use Rattle.bot_requests.specs.Requests.{handshake_text, poll_text, claim_text, update_text}
use Rattle.bot_turns.specs.Events.{exchange_event, handshake_event, poll_event, claim_event, update_event}

-- ---- what the turns share

-- a request was exchanged with the bot's server
abbrev pub AsksServer : Hands → List ℕ → Route → Exchanged → DialerState → DialerState → Type 0
AsksServer h request route exchanged before after = IsExchanged before after h.address request route exchanged

-- the names of the caches of a table, in the order of their bytes
pub record AreCacheNames (c : Caches) (names : List (List ℕ)) : Type 0 where
  pub sorted : IsSorted text_cmp names
  pub all : IsPermutation (names_of c.entries) names

-- there is a run, of which this holds
abbrev pub OfRun : Option (List ℕ × Properties) → (List ℕ → Properties → Type 0) → Type 0
OfRun None holds = ⊥
OfRun (Some run) holds = holds run.0 run.1

-- ---- Handshake and Poll

pub record IsHandshakeTurn (first session : ℕ) (h : Hands) (e : BotEvent) (before after : DialerState) : Type 0 where
  pub caches : List (List ℕ)
  pub exchanged : Exchanged
  pub names : AreCacheNames h.caches caches
  pub exchange : AsksServer h (handshake_text h caches first session) route.Handshake exchanged before after
  pub event : exchange_event handshake_event exchanged ≡ Some e

pub record IsPollTurn (h : Hands) (e : BotEvent) (before after : DialerState) : Type 0 where
  pub caches : List (List ℕ)
  pub exchanged : Exchanged
  pub names : AreCacheNames h.caches caches
  pub exchange : AsksServer h (poll_text h caches) route.Poll exchanged before after
  pub event : exchange_event poll_event exchanged ≡ Some e

-- ---- Claim

-- the hands hold the run that a reply gives, and no files yet
abbrev pub with_run_of : ℕ → Reply → Hands → Hands
with_run_of place (reply.Run task try_no slice tolerance p) h = record h { run = Some (run_id place (task, try_no), p); files = [] }
with_run_of place r h = h

abbrev pub hands_after_claim : Exchanged → Hands → Hands
hands_after_claim (exchanged.Told (told.Good place r bytes)) h = with_run_of place r h
hands_after_claim x h = h

-- the event of a claim, and the hands after it
pub record TakesClaim (exchanged : Exchanged) (e : BotEvent) (h h2 : Hands) : Type 0 where
  pub event : exchange_event claim_event exchanged ≡ Some e
  pub hands : h2 ≡ hands_after_claim exchanged h

pub record IsClaimTurn (first session claim : ℕ) (h : Hands) (e : BotEvent) (before after : DialerState) (h2 : Hands) : Type 0 where
  pub exchanged : Exchanged
  pub exchange : AsksServer h (claim_text h first session claim) route.Claim exchanged before after
  pub taken : TakesClaim exchanged e h h2

-- ---- Send

-- the report of a run was exchanged
pub record ReportsRun (run : List ℕ) (start size : ℕ) (last : Option End) (h : Hands) (e : BotEvent) (before after : DialerState) : Type 0 where
  pub exchanged : Exchanged
  pub exchange : AsksServer h (update_text h run start size last) route.TaskUpdate exchanged before after
  pub event : exchange_event update_event exchanged ≡ Some e

abbrev pub IsSendTurn : ℕ → ℕ → Option End → Hands → BotEvent → DialerState → DialerState → Type 0
IsSendTurn start size last h e before after = OfRun h.run (λ run p. ReportsRun run start size last h e before after)
