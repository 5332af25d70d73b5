-- A run that sends a batch, taken apart.
use Rattle.std.proofs.Common.{◌≡◌, ℕ, zero, suc, ◌+◌, ◌<◌, ◌≤◌, Bool, true, false, List, [], ◌∷◌, ◌++◌, length, Option, Some, None, Ok, Err, refl, sym, ap, subst, ◌∙◌, arith, inr}
use Rattle.std.specs.Prelude.{if◌then◌else◌, nat_lt}
use Rattle.std.proofs.lemmas.Bool.Decides.{nat_tests}
use Rattle.routes.specs.declared.route.Route.{Route}
use Rattle.routes.specs.declared.route.Route.TheVariants as route
use Rattle.sw_base.specs.Dialers.{DialerState}
use Rattle.sw_base.specs.Files.{FilesState, Saves}
use Rattle.server_calls.specs.declared.told.Told.{Told}
use Rattle.server_calls.specs.declared.told.Told.TheVariants as told
use Rattle.server_calls.specs.declared.exchanged.Exchanged.{Exchanged}
use Rattle.server_calls.specs.declared.exchanged.Exchanged.TheVariants as answer
use Rattle.server_calls.specs.Exchanges.{IsExchanged, MayHaveExchanged}
use Rattle.swarm_batch.specs.declared.mark.Mark.{Mark}
use Rattle.swarm_batch.specs.Batches.{BatchValue, next_line}
use Rattle.swarm_batch.specs.Marks.{progress_text}
use Rattle.swarm_batch.specs.Told.{is_again, told_mark}
use Rattle.client_commands.specs.declared.server.Server.{Server}
use Rattle.client_commands.specs.Requests.{posted}
use Rattle.client_commands.specs.Plans.{end, say, ask, save, Saved, World, Exchanges, Follows, ends, says, fails, asks, saves, lacks_memory, once_told, unless_refused}
use Rattle.client_commands.specs.Commands.{or_no_reply}
use Rattle.client_commands.specs.Batches.{after_line, keeping, line_call, lines_left, once_saved, sending, with_marks}
use Rattle.client_commands.specs.BatchRuns.{AsksNext, none_yet, one_more, Quiet, all_done, one_lost, no_memory, RunsBatch}
use Rattle.client_commands.proofs.Batching.{one_mark_more}

-- ---- the ends of plans

ended : {server : Server} {last : ℕ} {w v : World} {status : ℕ} → Follows server (end last) w v status → v ≡ w
ended (ends s x) = refl
ended (lacks_memory plan x) = refl

quiet_of : {w v : World} → v ≡ w → Quiet w v
quiet_of e = record { dialer = ap (λ (x : World). x.dialer) e; aside = ap (λ (x : World). x.aside) e }

said_end : {server : Server} {text : List ℕ} {last : ℕ} {w v : World} {status : ℕ} → Follows server (say text (end last)) w v status → Quiet w v
said_end (says t n x y s console p f) = record { dialer = ap (λ (z : World). z.dialer) (ended f); aside = ap (λ (z : World). z.aside) (ended f) }
said_end (fails t n x console p) = record { dialer = refl; aside = refl }
said_end (lacks_memory plan x) = record { dialer = refl; aside = refl }

refused_end : {server : Server} {w v : World} {status : ℕ} (t : Told) → Follows server (unless_refused (λ place reply bytes. end 9) t) w v status → Quiet w v
refused_end (told.Good place reply bytes) f = quiet_of (ended f)
refused_end (told.No code body) f = said_end f

-- ---- the line that comes next

next_so : (some lines : ℕ) (test : Bool) → test ≡ nat_lt some lines → some < lines → (if test then Some (some + 1) else None) ≡ Some (some + 1)
next_so some lines true is lt = refl
next_so some lines false is lt = absurd (grind (arith, nat_tests, is, lt))

some_next : (b : BatchValue) (left : ℕ) → suc left ≡ lines_left b → next_line b ≡ Some (length b.marks + 1)
some_next b left e = next_so (length b.marks) (length b.lines) (nat_lt (length b.marks) (length b.lines)) refl (omega (arith, e))

none_so : (some lines : ℕ) (test : Bool) → test ≡ nat_lt some lines → lines ≤ some → (if test then Some (some + 1) else None) ≡ None
none_so some lines true is le = absurd (grind (arith, nat_tests, is, le))
none_so some lines false is le = refl

no_next : (b : BatchValue) → 0 ≡ lines_left b → next_line b ≡ None
no_next b e = none_so (length b.marks) (length b.lines) (nat_lt (length b.marks) (length b.lines)) refl (omega (arith, e))

-- ---- one exchange

may_of : {s t : DialerState} {address request : List ℕ} (to : Route) (x : Exchanged) → IsExchanged s t address request to x → MayHaveExchanged s t address request
may_of to (answer.Told t) h = inr ([], h.0.talked)
may_of to answer.NoReply h = inr ([], h.0.talked)
may_of to answer.Lost h = h.1
may_of to answer.Memory h = h

module _ (server : Server) (done : List ℕ) (b : BatchValue) (left : ℕ) (e : suc left ≡ lines_left b) where
  -- the request that was exchanged for the line that came next
  asked_for : {s t : DialerState} {x : Exchanged} (ex : Exchanges server (line_call b (length b.marks + 1)) s t x) → AsksNext server b (posted (line_call b (length b.marks + 1)).path server ex.body)
  asked_for ex = record { line = length b.marks + 1; next = some_next b left e; body = ex.body; read = ex.is_body; whole = refl }

  -- after it nothing was saved
  lost : {w v : World} {t : DialerState} {x : Exchanged} {status : ℕ} (ex : Exchanges server (line_call b (length b.marks + 1)) w.dialer t x) → v.dialer ≡ t → v.aside.files.held ≡ w.aside.files.held
      → RunsBatch server done b w v status
  lost {w = w} {v = v} {t = t} {x = x} ex same held = record {
    last = b;
    at = w;
    sent = none_yet b w;
    ended = one_lost (record {
      request = posted (line_call b (length b.marks + 1)).path server ex.body;
      asks = asked_for ex;
      exchanged = subst (λ d. MayHaveExchanged w.dialer d server.address.now (posted (line_call b (length b.marks + 1)).path server ex.body)) (sym same) (may_of route.NewTask x ex.exchanged);
      held = held;
    });
  }

  lost_quietly : {w v : World} {t : DialerState} {x : Exchanged} {status : ℕ} (ex : Exchanges server (line_call b (length b.marks + 1)) w.dialer t x) → Quiet (record w { dialer = t }) v → RunsBatch server done b w v status
  lost_quietly ex quiet = lost ex quiet.dialer (ap (λ a. a.files.held) quiet.aside)

  -- what follows the save of the progress with one mark more
  saved_or_lost : {w v : World} {t : DialerState} {status : ℕ} (reply : Told) (ex : Exchanges server (line_call b (length b.marks + 1)) w.dialer t (answer.Told reply)) (m : Mark) → is_again reply ≡ false → told_mark reply ≡ Some m
      → ((u : World) → Follows server (sending done left (with_marks b (b.marks ++ m ∷ []))) u v status → RunsBatch server done (with_marks b (b.marks ++ m ∷ [])) u v status)
      → (files : FilesState) (saved : Saved) → Saves w.aside.files files done (progress_text b.head (b.marks ++ m ∷ [])) saved
      → Follows server (once_saved (sending done left (with_marks b (b.marks ++ m ∷ []))) saved) (record w { dialer = t; aside = record w.aside { files = files } }) v status → RunsBatch server done b w v status
  saved_or_lost {w = w} {v = v} {t = t} reply ex m final is later files (Ok u) held f =
      let more = later _ f in
      record {
        last = more.last;
        at = more.at;
        sent = one_more b (with_marks b (b.marks ++ m ∷ [])) more.last w (record w { dialer = t; aside = record w.aside { files = files } }) more.at (record {
          request = posted (line_call b (length b.marks + 1)).path server ex.body;
          asks = asked_for ex;
          asked = ex.exchanged.0;
          reply = reply;
          tells = ex.exchanged.1;
          final = final;
          mark = m;
          told = is;
          marked = refl;
          saved = held.saved;
          waited = refl;
          console = refl;
        }) more.sent;
        ended = more.ended;
      }
  saved_or_lost reply ex m final is later files (Err why) held f = lost ex (ap (λ (x : World). x.dialer) (ended f)) (ap (λ (x : World). x.aside.files.held) (ended f) ∙ held.kept)

  kept_or_lost : {w u v : World} {t : DialerState} {status : ℕ} (reply : Told) (ex : Exchanges server (line_call b (length b.marks + 1)) w.dialer t (answer.Told reply)) (m : Mark) → is_again reply ≡ false → told_mark reply ≡ Some m
      → ((u : World) → Follows server (sending done left (with_marks b (b.marks ++ m ∷ []))) u v status → RunsBatch server done (with_marks b (b.marks ++ m ∷ [])) u v status)
      → u ≡ record w { dialer = t } → Follows server (save done (progress_text b.head (b.marks ++ m ∷ [])) (once_saved (sending done left (with_marks b (b.marks ++ m ∷ []))))) u v status → RunsBatch server done b w v status
  kept_or_lost {w = w} {v = v} {t = t} {status = status} reply ex m final is later same (saves path bytes next x y s files saved h f) =
      saved_or_lost reply ex m final is later files saved (subst (λ (z : World). Saves z.aside.files files done (progress_text b.head (b.marks ++ m ∷ [])) saved) same h)
      (subst (λ (z : World). Follows server (once_saved (sending done left (with_marks b (b.marks ++ m ∷ []))) saved) (record z { aside = record z.aside { files = files } }) v status) same f)
  kept_or_lost reply ex m final is later same (lacks_memory plan x) = lost ex (ap (λ (z : World). z.dialer) same) (ap (λ (z : World). z.aside.files.held) same)

  module _ (later : (c : BatchValue) (u v : World) (status : ℕ) → left ≡ lines_left c → Follows server (sending done left c) u v status → RunsBatch server done c u v status) where
    marked_or_lost : {w v : World} {t : DialerState} {status : ℕ} (reply : Told) (ex : Exchanges server (line_call b (length b.marks + 1)) w.dialer t (answer.Told reply)) → is_again reply ≡ false
        → (o : Option Mark) → told_mark reply ≡ o → Follows server (or_no_reply (keeping done b (sending done left)) o) (record w { dialer = t }) v status → RunsBatch server done b w v status
    marked_or_lost {v = v} {status = status} reply ex final (Some m) is f = kept_or_lost reply ex m final is (λ u. later (with_marks b (b.marks ++ m ∷ [])) u v status (one_mark_more b m left e)) refl f
    marked_or_lost reply ex final None is f = lost_quietly ex (quiet_of (ended f))

    told_or_lost : {w v : World} {t : DialerState} {status : ℕ} (reply : Told) (ex : Exchanges server (line_call b (length b.marks + 1)) w.dialer t (answer.Told reply)) (again : Bool) → is_again reply ≡ again
        → Follows server (if again then unless_refused (λ place reply bytes. end 9) reply else or_no_reply (keeping done b (sending done left)) (told_mark reply)) (record w { dialer = t }) v status → RunsBatch server done b w v status
    told_or_lost reply ex true is f = lost_quietly ex (refused_end reply f)
    told_or_lost reply ex false is f = marked_or_lost reply ex is (told_mark reply) refl f

    exchanged_or_lost : {w v : World} {t : DialerState} {status : ℕ} (x : Exchanged) (ex : Exchanges server (line_call b (length b.marks + 1)) w.dialer t x)
        → Follows server (once_told (after_line done b (sending done left)) x) (record w { dialer = t }) v status → RunsBatch server done b w v status
    exchanged_or_lost (answer.Told reply) ex f = told_or_lost reply ex (is_again reply) refl f
    exchanged_or_lost answer.NoReply ex f = lost_quietly ex (quiet_of (ended f))
    exchanged_or_lost answer.Lost ex f = lost_quietly ex (quiet_of (ended f))
    exchanged_or_lost answer.Memory ex f = lost_quietly ex (quiet_of (ended f))

    sent_or_lost : {w v : World} {status : ℕ} → Follows server (ask (line_call b (length b.marks + 1)) (once_told (after_line done b (sending done left)))) w v status → RunsBatch server done b w v status
    sent_or_lost (asks call next x y s t answer_ ex f) = exchanged_or_lost answer_ ex f
    sent_or_lost (lacks_memory plan x) = record { last = b; at = x; sent = none_yet b x; ended = no_memory refl refl }

-- a run is lines that are sent, and at most one that is lost
pub run_of : {server : Server} {done : List ℕ} (left : ℕ) (b : BatchValue) {w v : World} {status : ℕ} → left ≡ lines_left b → Follows server (sending done left b) w v status → RunsBatch server done b w v status
run_of zero b {w = w} e f = record { last = b; at = w; sent = none_yet b w; ended = all_done (no_next b e) (said_end f) }
run_of {server = server} {done = done} (suc left) b e f = sent_or_lost server done b left e (λ c u v status. run_of left c) f
