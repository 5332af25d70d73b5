-- One exchange.
use Rattle.std.proofs.Common.{◌≡◌, ◌⊎◌, inl, inr, ℕ, ◌+◌, ◌-◌, ◌^◌, ◌<◌, ◌≤◌, min, List, [], ◌∷◌, ◌++◌, Option, Some, None, IfSome, option_map, refl, sym, ap, ◌∙◌, arith, append-nil, subst}
use Rattle.std.specs.Io.KnownBytes.{Consumes, Appends}
use Rattle.sw_base.specs.Faults.{Rose}
use Rattle.sw_base.specs.Link.{LinkState, Moves, SameInput, SameOutput, NoFault, opened}
use Rattle.sw_base.specs.Acceptors.{IsFresh}
use Rattle.sw_base.specs.Dialers.{DialerState, Dials, Hangs, first_answer}
use Rattle.sw_base.proofs.Moving.{Moves-trans}
use Rattle.link_writer.specs.Sends.{Written}
use Rattle.routes.specs.declared.route.Route.{Route}
use Rattle.reply_reader.specs.Replies.{IsReply, HasNoReply, ReplyIsUnique}
use Rattle.server_calls.specs.declared.told.Told.{Told as ToldValue}
use Rattle.server_calls.specs.Reading.{told_of}
use Rattle.server_calls.specs.declared.exchanged.Exchanged.{Exchanged}
use Rattle.server_calls.specs.declared.exchanged.Exchanged.TheVariants as exchanged
use Rattle.server_calls.specs.Exchanges.{Tells, TellsNothing, ExchangesOver, ExchangedBytes, HasAsked, IsUntouched, IsExchanged}

-- what is said of the bytes taken and those left is said of all
all_told : (a b : Option (List ℕ)) (taken : List ℕ) (P : List ℕ → Type 0) → Consumes a b taken → IfSome b (λ l. P (taken ++ l)) → IfSome a P
all_told None b taken P e x = tt
all_told (Some xs) None taken P e x = absurd e
all_told (Some xs) (Some ys) taken P e x = subst P (sym e) x

-- the request was written whole, and then bytes were taken, and no call failed
pub record Talks (s t : LinkState) (request taken : List ℕ) : Type 0 where
  pub moves : Moves s t taken request
  pub quiet : NoFault s t
  pub left : Consumes s.left t.left taken

pub talks : {s u t : LinkState} {request taken back : List ℕ} → Written s u request back → back ≡ [] → u.write_faults ≡ s.write_faults
    → Moves u t taken [] → SameOutput u t → t.read_faults ≡ u.read_faults → Talks s t request taken
talks {s = s} {u = u} {t = t} {request = request} {taken = taken} w none quiet m o reads =
    let all : request ≡ w.sent = w.whole ∙ ap (λ l. w.sent ++ l) none ∙ append-nil w.sent in
    let moves : Moves s t taken (w.sent ++ []) = Moves-trans w.moves m in record {
      moves = subst (Moves s t taken) (append-nil w.sent ∙ sym all) moves;
      quiet = record { reads = reads ∙ w.input.read_faults; writes = o.write_faults ∙ quiet };
      left = subst (λ o. Consumes o t.left taken) w.input.left m.read;
    }

told_left : (route : Route) (x : ToldValue) (code : ℕ) (body taken : List ℕ) (left : Option (List ℕ)) → ((more : List ℕ) → IsReply (taken ++ more) code body) → told_of route code body ≡ Some x
    → IfSome left (λ l. Tells route (taken ++ l) x)
told_left route x code body taken None reply tells = tt
told_left route x code body taken (Some l) reply tells = (code, body, reply l, tells)

told_same : {x y : ToldValue} → exchanged.Told x ≡ exchanged.Told y → x ≡ y
told_same e = cc

-- the link held a reply that tells this
pub told_this : {s t : LinkState} {request taken : List ℕ} (route : Route) (x : ToldValue) (code : ℕ) (body : List ℕ) → Talks s t request taken
    → ((more : List ℕ) → IsReply (taken ++ more) code body) → told_of route code body ≡ Some x → ExchangesOver route s t request (exchanged.Told x)
told_this {s = s} {t = t} {request = request} {taken = taken} route x code body k reply tells = record {
  taken = taken;
  sent = request;
  back = [];
  moves = k.moves;
  whole = sym (append-nil request);
  told = λ y e. (refl, k.quiet, subst (λ z. IfSome s.left (λ bytes. Tells route bytes z)) (told_same e) (all_told s.left t.left taken (λ bytes. Tells route bytes x) k.left (told_left route x code body taken t.left reply tells)));
  no_reply = λ e. absurd (cc);
  lost = λ e. absurd (cc);
}

-- the link held no reply that tells anything
pub told_nothing : {s t : LinkState} {request taken : List ℕ} (route : Route) → Talks s t request taken → IfSome t.left (λ l. TellsNothing route (taken ++ l)) → ExchangesOver route s t request exchanged.NoReply
told_nothing {s = s} {t = t} {request = request} {taken = taken} route k nothing = record {
  taken = taken;
  sent = request;
  back = [];
  moves = k.moves;
  whole = sym (append-nil request);
  told = λ x e. absurd (cc);
  no_reply = λ e. (refl, k.quiet, all_told s.left t.left taken (TellsNothing route) k.left nothing);
  lost = λ e. absurd (cc);
}

pub no_reply_tells : (route : Route) (left : Option (List ℕ)) (taken : List ℕ) → IfSome left (λ l. HasNoReply (taken ++ l)) → IfSome left (λ l. TellsNothing route (taken ++ l))
no_reply_tells route None taken x = tt
no_reply_tells route (Some l) taken x = λ code body reply. absurd (x code body reply)

-- a reply that tells nothing is the only one
pub one_tells_nothing : (route : Route) (left : Option (List ℕ)) (taken : List ℕ) (code : ℕ) (body : List ℕ) → ReplyIsUnique → ((more : List ℕ) → IsReply (taken ++ more) code body)
    → told_of route code body ≡ None → IfSome left (λ l. TellsNothing route (taken ++ l))
one_tells_nothing route None taken code body unique reply none = tt
one_tells_nothing route (Some l) taken code body unique reply none = λ other text x.
    let same = unique (taken ++ l) other code text body x (reply l) in
    ap (λ n. told_of route n text) same.0 ∙ ap (told_of route code) same.1 ∙ none

add_injective : (a b : Option ℕ) → option_map (λ n. n + 1) a ≡ option_map (λ n. n + 1) b → a ≡ b
add_injective None None e = refl
add_injective None (Some n) e = absurd (cc)
add_injective (Some m) None e = absurd (cc)
add_injective (Some m) (Some n) e = let k : m + 1 ≡ n + 1 = cc in ap Some (omega arith)

-- what is said of the link's bytes is said of the answer
of_answer : (answers : Option (List (List ℕ))) (link : LinkState) (P : List ℕ → Type 0) → IfSome answers (λ all. link ≡ opened (Some (first_answer all)) (Some [])) → IfSome link.left P
    → IfSome answers (λ all. P (first_answer all))
of_answer None link P e x = tt
of_answer (Some all) link P e x = let l : link.left ≡ Some (first_answer all) = ap (λ k. k.left) e in subst (λ o. IfSome o P) l x

appended : (a b : Option (List ℕ)) (sent : List ℕ) → a ≡ Some [] → Appends a b sent → b ≡ Some sent
appended None b sent e x = absurd (cc)
appended (Some xs) None sent e x = absurd x
appended (Some xs) (Some ys) sent e x = let n : xs ≡ [] = cc in ap Some (x ∙ ap (λ l. l ++ sent) n)

was_written : (answers : Option (List (List ℕ))) (link last : LinkState) (sent : List ℕ) → IfSome answers (λ all. link ≡ opened (Some (first_answer all)) (Some []))
    → Appends link.written last.written sent → IfSome answers (λ all. last.written ≡ Some sent)
was_written None link last sent e x = tt
was_written (Some all) link last sent e x = appended link.written last.written sent (ap (λ k. k.written) e) x

talked : {route : Route} {link last : LinkState} {s m t : DialerState} {address request : List ℕ} {r : Exchanged} (back : List ℕ) → Dials link address s m → (c : ExchangesOver route link last request r)
    → Hangs last m t → c.back ≡ back → ExchangedBytes s t address request back
talked {link = link} {last = last} {s = s} {m = m} {t = t} {address = address} back d c h is = record {
  link = last;
  sent = c.sent;
  dialed = h.dialed ∙ d.dialed;
  answers = h.answers ∙ d.answers;
  ended = h.ended ∙ ap (option_map (λ all. all ++ last ∷ [])) d.ended;
  out = add_injective t.out s.out (sym h.out ∙ d.out);
  whole = c.whole ∙ ap (λ l. c.sent ++ l) is;
  written = was_written s.answers link last c.sent d.given c.moves.written;
}

-- a fresh link on which no call failed leaves the count as it was
asked : {route : Route} {link last : LinkState} {s m t : DialerState} {address request : List ℕ} {r : Exchanged} → Dials link address s m → (c : ExchangesOver route link last request r)
    → Hangs last m t → c.back ≡ [] → NoFault link last → HasAsked s t address request
asked d c h is quiet = record {
  talked = talked [] d c h is;
  faults = h.same (quiet.reads ∙ d.fresh.reads) (quiet.writes ∙ d.fresh.writes) ∙ d.faults;
}

rose_above : (m n : ℕ) → m ≡ 0 → Rose m n → 0 < n
rose_above m n e r = let k : min (0 + 1) (2 ^ 64 - 1) ≤ n = subst (λ x. min (x + 1) (2 ^ 64 - 1) ≤ n) e r in omega arith

lost_so : {link last : LinkState} {m t : DialerState} → IsFresh link → Rose link.read_faults last.read_faults ⊎ Rose link.write_faults last.write_faults → Hangs last m t → Rose m.faults t.faults
lost_so {link = link} {last = last} fresh (inl r) h = h.rose (omega (arith, rose_above link.read_faults last.read_faults fresh.reads r))
lost_so {link = link} {last = last} fresh (inr r) h = h.rose (omega (arith, rose_above link.write_faults last.write_faults fresh.writes r))

pub exchanged_so : (route : Route) (link last : LinkState) (s m t : DialerState) (address request : List ℕ) (r : Exchanged) → Dials link address s m → ExchangesOver route link last request r → Hangs last m t
    → IsExchanged s t address request route r
exchanged_so route link last s m t address request (exchanged.Told x) d c h =
    let k = c.told x refl in (asked d c h k.0 k.1, of_answer s.answers link (λ b. Tells route b x) d.given k.2)
exchanged_so route link last s m t address request exchanged.NoReply d c h =
    let k = c.no_reply refl in (asked d c h k.0 k.1, of_answer s.answers link (TellsNothing route) d.given k.2)
exchanged_so route link last s m t address request exchanged.Lost d c h =
    (subst (λ n. Rose n t.faults) d.faults (lost_so d.fresh (c.lost refl) h), inr (c.back, talked c.back d c h refl))
exchanged_so route link last s m t address request exchanged.Memory d c h = inr (c.back, talked c.back d c h refl)
