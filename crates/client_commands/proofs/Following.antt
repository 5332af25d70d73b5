-- Plans that are carried out part by part.
use Rattle.std.proofs.Common.{◌≡◌, ℕ, zero, suc, ◌+◌, ◌<◌, Bool, true, false, List, Option, Some, None, Result, Ok, Err, sym, subst, arith}
use Rattle.std.specs.Prelude.{if◌then◌else◌}
use Rattle.sw_base.specs.Clock.{Waits}
use Rattle.sw_base.specs.Link.{LinkState, IsClean}
use Rattle.link_writer.specs.Sends.{Sends, Written}
use Rattle.sw_base.specs.Dialers.{DialerState}
use Rattle.sw_base.specs.Files.{FilesState, Loads, Saves}
use Rattle.swarm_model.specs.declared.task_view.TaskView.{TaskView}
use Rattle.swarm_model.specs.Finding.{is_final}
use Rattle.client_commands.specs.declared.server.Server.{Server}
use Rattle.server_calls.specs.declared.exchanged.Exchanged.{Exchanged}
use Rattle.routes.specs.declared.route.Route.{Route}
use Rattle.client_commands.specs.Requests.{Call, IsBody, posted, stdout_call}
use Rattle.server_calls.specs.Exchanges.{IsExchanged}
use Rattle.client_commands.specs.Plans.{Plan, end, say, ask, load, save, Loaded, Saved, Aside, World, Exchanges, Follows, ends, says, fails, waits, asks, loads, saves, after}
use Rattle.client_commands.specs.Commands.{or_no_reply, polling, pause, awaiting, fetched, fetching}
use Rattle.client_commands.specs.Steps.{aside_of, world, Leads, Carries}

pub through : {server : Server} {p q r : Plan} {w u x : World} → Leads server p w q u → Leads server q u r x → Leads server p w r x
through f g = λ v status h. f v status (g v status h)

-- what follows an exchange follows the call
pub exchanged : {server : Server} {call : Call} {s : DialerState} {c : LinkState} {aside : Aside} (x : Exchanged) (t : DialerState) (next : Exchanged → Plan) → Exchanges server call s t x
    → Leads server (ask call next) (world s c aside) (next x) (world t c aside)
exchanged {call = call} {s = s} {c = c} {aside = aside} x t next e = λ v status f. asks call next (world s c aside) v status t x e f

-- the request that was exchanged is one of the call
pub exchanges_of : {server : Server} {s t : DialerState} {x : Exchanged} {route : Route} (call : Call) (path body request : List ℕ) → call.route ≡ route → call.path ≡ path → IsBody call.route call.body body
    → request ≡ posted path server body → IsExchanged s t server.address.now request route x → Exchanges server call s t x
exchanges_of {server = server} {s = s} {t = t} {x = x} {route = route} call path body request er ep is e k = record {
  body = body;
  is_body = is;
  exchanged = subst (λ r. IsExchanged s t server.address.now (posted call.path server body) r x) (sym er)
      (subst (λ p. IsExchanged s t server.address.now (posted p server body) route x) (sym ep) (subst (λ q. IsExchanged s t server.address.now q route x) e k));
}

-- a text that was sent is printed
pub printed_part : {T E : Type 0} {x : T} {server : Server} {text : List ℕ} {d : DialerState} {s t : LinkState} {aside : Aside} (next : Plan) → Sends {T = T} {E = E} s t text (Ok x) → IsClean t
    → Leads server (say text next) (world d s aside) next (world d t aside)
printed_part {text = text} {d = d} {s = s} {t = t} {aside = aside} next k clean = λ v status f.
    says text next (world d s aside) v status t (record { written = subst (Written s t text) k.outcome k.written; clean = clean; faults = k.faults }) f

-- a text that wasn't sent fails to be printed
pub failed_part : {T E : Type 0} {e : E} {server : Server} {text : List ℕ} {d : DialerState} {s t : LinkState} {aside : Aside} (next : Plan) → Sends {T = T} {E = E} s t text (Err e)
    → Follows server (say text next) (world d s aside) (world d t aside) 4
failed_part {text = text} {d = d} {s = s} {t = t} {aside = aside} next k = fails text next (world d s aside) t (record { back = k.back; written = k.written; rose = k.faults })

-- a wait before another poll
pub paused : {server : Server} {next : Plan} {d : DialerState} {c : LinkState} {a b : Option ℕ} {files : FilesState} {secs : ℕ} (every left : ℕ) → 0 < left → Waits a b secs → secs ≡ every
    → Leads server (pause every left next) (world d c (aside_of a files)) next (world d c (aside_of b files))
paused every zero lt w e = absurd (omega (arith, lt))
paused {next = next} {d = d} {c = c} {a = a} {b = b} {files = files} every (suc left) lt w e = λ v status f. waits every next (world d c (aside_of a files)) v status b (subst (Waits a b) e w) f

-- a file that was loaded, and one that was saved
pub loaded_on : {server : Server} {d : DialerState} {c : LinkState} {waited : Option ℕ} {f g : FilesState} (path : List ℕ) (most : ℕ) (next : Loaded → Plan) (loaded : Loaded) → Loads f g path most loaded
    → Leads server (load path most next) (world d c (aside_of waited f)) (next loaded) (world d c (aside_of waited g))
loaded_on {d = d} {c = c} {waited = waited} {f = f} {g = g} path most next loaded is = λ v status h. loads path most next (world d c (aside_of waited f)) v status g loaded is h

pub saved_on : {server : Server} {d : DialerState} {c : LinkState} {waited : Option ℕ} {f g : FilesState} (path bytes : List ℕ) (next : Saved → Plan) (saved : Saved) → Saves f g path bytes saved
    → Leads server (save path bytes next) (world d c (aside_of waited f)) (next saved) (world d c (aside_of waited g))
saved_on {d = d} {c = c} {waited = waited} {f = f} {g = g} path bytes next saved is = λ v status h. saves path bytes next (world d c (aside_of waited f)) v status g saved is h

-- the bytes of a reply that is output
pub output_so : (server : Server) (next : Plan) (bytes : List ℕ) (w u : World) (is : Bool) (r : Result (Unit {0}) ℕ) → is ≡ true → Carries server (say bytes next) w (λ _. next) u r
    → Carries server (if is then say bytes next else end 9) w (λ _. next) u r
output_so server next bytes w u is r e k = subst (λ b. Carries server (if b then say bytes next else end 9) w (λ _. next) u r) (sym e) k

pub no_output : (server : Server) (next : Plan) (bytes : List ℕ) (w : World) (is : Bool) → is ≡ false → Follows server (if is then say bytes next else end 9) w w 9
no_output server next bytes w is e = subst (λ b. Follows server (if b then say bytes next else end 9) w w 9) (sym e) (ends 9 w)

-- what a reply tells, and that it tells nothing
pub told_some : {A : Type 0} {server : Server} {u v : World} {status : ℕ} (next : A → Plan) (o : Option A) (a : A) → o ≡ Some a → Follows server (next a) u v status → Follows server (or_no_reply next o) u v status
told_some {server = server} {u = u} {v = v} {status = status} next o a e f = subst (λ k. Follows server (or_no_reply next k) u v status) (sym e) f

pub told_none : {A : Type 0} {server : Server} {u : World} (next : A → Plan) (o : Option A) → o ≡ None → Follows server (or_no_reply next o) u u 9
told_none {server = server} {u = u} next o e = subst (λ k. Follows server (or_no_reply next k) u u 9) (sym e) (ends 9 u)

-- one more poll, on a state that isn't final
pub polled_on : {server : Server} {w u : World} {task : TaskView} (id : List ℕ) (every : ℕ) (final_part : TaskView → Plan) (left later : ℕ) → left ≡ suc later
    → ((next : TaskView → Plan) → Leads server (polling id next) w (next task) u) → is_final task.state ≡ false
    → Leads server (awaiting id every final_part left) w (pause every later (awaiting id every final_part later)) u
polled_on {server = server} {w = w} {u = u} {task = task} id every final_part left later e asked unfinished = λ v status f.
    subst (λ n. Follows server (awaiting id every final_part n) w v status) (sym e)
    (asked (λ t. if is_final t.state then final_part t else pause every later (awaiting id every final_part later)) v status
    (subst (λ b. Follows server (if b then final_part task else pause every later (awaiting id every final_part later)) u v status) (sym unfinished) f))

-- the last poll, on a final state
pub polled_last : {server : Server} {w u : World} {task : TaskView} (id : List ℕ) (every : ℕ) (final_part : TaskView → Plan) (left later : ℕ) → left ≡ suc later
    → ((next : TaskView → Plan) → Leads server (polling id next) w (next task) u) → is_final task.state ≡ true
    → Leads server (awaiting id every final_part left) w (final_part task) u
polled_last {server = server} {w = w} {u = u} {task = task} id every final_part left later e asked final = λ v status f.
    subst (λ n. Follows server (awaiting id every final_part n) w v status) (sym e)
    (asked (λ t. if is_final t.state then final_part t else pause every later (awaiting id every final_part later)) v status
    (subst (λ b. Follows server (if b then final_part task else pause every later (awaiting id every final_part later)) u v status) (sym final) f))

-- a poll that ends the command
pub polled_end : {server : Server} {w u : World} {status : ℕ} (id : List ℕ) (every : ℕ) (final_part : TaskView → Plan) (left later : ℕ) → left ≡ suc later
    → ((next : TaskView → Plan) → Follows server (polling id next) w u status) → Follows server (awaiting id every final_part left) w u status
polled_end {server = server} {w = w} {u = u} {status = status} id every final_part left later e asked =
    subst (λ n. Follows server (awaiting id every final_part n) w u status) (sym e)
    (asked (λ t. if is_final t.state then final_part t else pause every later (awaiting id every final_part later)))

pub polls_used_up : {server : Server} (id : List ℕ) (every : ℕ) (final_part : TaskView → Plan) (left : ℕ) (w : World) → left ≡ 0 → Follows server (awaiting id every final_part left) w w 8
polls_used_up {server = server} id every final_part left w e = subst (λ n. Follows server (awaiting id every final_part n) w w 8) (sym e) (ends 8 w)

-- one more piece
pub fetched_on : {server : Server} {w u : World} (id : List ℕ) (left later offset : ℕ) → left ≡ suc later
    → ((next : Plan) → Leads server (ask (stdout_call id offset) (after (fetched next))) w next u)
    → Leads server (fetching id left offset) w (fetching id later (offset + 65536)) u
fetched_on {server = server} {w = w} id left later offset e got = λ v status f.
    subst (λ n. Follows server (fetching id n offset) w v status) (sym e) (got (fetching id later (offset + 65536)) v status f)

-- a piece that ends the command
pub fetched_end : {server : Server} {w u : World} {status : ℕ} (id : List ℕ) (left later offset : ℕ) → left ≡ suc later
    → ((next : Plan) → Follows server (ask (stdout_call id offset) (after (fetched next))) w u status)
    → Follows server (fetching id left offset) w u status
fetched_end {server = server} {w = w} {u = u} {status = status} id left later offset e got =
    subst (λ n. Follows server (fetching id n offset) w u status) (sym e) (got (fetching id later (offset + 65536)))

pub all_fetched : {server : Server} (id : List ℕ) (left offset : ℕ) (w : World) → left ≡ 0 → Follows server (fetching id left offset) w w 0
all_fetched {server = server} id left offset w e = subst (λ n. Follows server (fetching id n offset) w w 0) (sym e) (ends 0 w)

-- a part, and what carries on from there
pub carried : {A : Type 0} {server : Server} {p q : Plan} {w u : World} (next : A → Plan) (x : World) (r : Result A ℕ) → Leads server p w q u → Carries server q u next x r → Carries server p w next x r
carried next x (Ok a) f k = through f k
carried next x (Err status) f k = f x status k
