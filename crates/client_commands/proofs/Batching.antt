-- Plans of batches that are carried out part by part.
use Rattle.std.proofs.Common.{◌≡◌, ℕ, suc, ◌+◌, ◌<◌, ◌≤◌, Bool, true, false, List, [], ◌∷◌, ◌++◌, length, drop, get_or, Option, Some, None, Result, Ok, Err, IsTrue, IsFalse, refl, sym, subst, arith, length-append}
use Rattle.std.specs.Prelude.{if◌then◌else◌, IfOk, IsSome, IsSomeAnd, nat_lt, ◌&&◌}
use Rattle.std.specs.List.{list_all}
use Rattle.std.specs.Str.{IsUtf8}
use Rattle.std.proofs.lemmas.Bool.Decides.{nat_tests}
use Rattle.std.proofs.lemmas.Option.{none-some}
use Rattle.std.proofs.lemmas.List.Sums.{AllPass-from_list_all}
use Rattle.std.proofs.lemmas.Str.{IsUtf8-from_ascii}
use Rattle.std.proofs.lemmas.Str.Ascii.{IsAscii-from_all}
use Rattle.std.proofs.Math.Seq.{drop-cons}
use Rattle.std.proofs.lemmas.List.{drop_all}
use Rattle.dimensions.specs.Rules.{has_length_to}
use Rattle.json_fields.specs.Ids.{task_id}
use Rattle.server_calls.specs.declared.told.Told.{Told}
use Rattle.server_calls.specs.declared.told.Told.TheVariants as told
use Rattle.swarm_batch.specs.declared.faults.BatchFault.{BatchFault}
use Rattle.swarm_batch.specs.declared.mark.Mark.{Mark}
use Rattle.swarm_batch.specs.declared.mark.Mark.TheVariants as mark
use Rattle.swarm_batch.specs.declared.mark.Marked.TheVariants as marked
use Rattle.swarm_batch.specs.Batches.{BatchValue, next_line}
use Rattle.swarm_batch.specs.Names.{is_name_byte, is_batch_name, IsNameIn}
use Rattle.swarm_batch.specs.Reopened.{IsBatchRead, IsReadAgain}
use Rattle.swarm_batch.specs.Told.{is_again, reply_mark, told_mark, Marks}
use Rattle.client_commands.specs.declared.server.Server.{Server}
use Rattle.client_commands.specs.Plans.{Plan, end, say, ask, find_name, read_batch, World, Follows, ends, finds_name, reads_batch, reads_marks, once_told, unless_refused}
use Rattle.client_commands.specs.Commands.{awaiting, or_no_reply}
use Rattle.client_commands.specs.Batches.{after_line, collecting_batch, collecting_line, collecting_lines, done_path, ended_line, faulting, keeping, line_call, lines_left, once_read, opening, opening_named, recalling, saving, sending, spawning, telling, with_marks}
use Rattle.client_commands.specs.Steps.{Carries, Leads}
use Rattle.client_commands.proofs.Following.{told_none}

-- ---- what is read

-- the batch of a file
pub batch_read_on : {server : Server} {w : World} (text name : List ℕ) (next : Result BatchValue BatchFault → Plan) (batch : Result BatchValue BatchFault) → IsBatchRead text name None batch
    → Leads server (read_batch text name next) w (next batch) w
batch_read_on {w = w} text name next batch is = λ v status h. reads_batch text name next w v status batch is h

-- the name in a progress
pub name_found_on : {server : Server} {w : World} (text : List ℕ) (next : Option (List ℕ) → Plan) (found : Option (List ℕ)) → IsNameIn text found → Leads server (find_name text next) w (next found) w
name_found_on {w = w} text next found is = λ v status h. finds_name text next w v status found is h

-- what a progress tells
pub recalled_on : {server : Server} {w : World} (b c : BatchValue) (progress : Option (List ℕ)) (next : BatchValue → Plan) → IsReadAgain progress b c (Ok tt) → Leads server (recalling b progress next) w (next c) w
recalled_on {server = server} {w = w} b c progress next is = λ v status h.
    reads_marks b progress (once_read (λ marks. next (with_marks b marks))) w v status (Ok c.marks) is.0 (subst (λ x. Follows server (next x) w v status) is.1 h)

pub recalled_end : {server : Server} {w v : World} {status : ℕ} (b c : BatchValue) (progress : Option (List ℕ)) (next : BatchValue → Plan) (why : BatchFault) → IsReadAgain progress b c (Err why)
    → Follows server (faulting why) w v status → Follows server (recalling b progress next) w v status
recalled_end {w = w} {v = v} {status = status} b c progress next why is h = reads_marks b progress (once_read (λ marks. next (with_marks b marks))) w v status (Err why) is.0 h

-- the name of a batch is a text
name_byte_low : (b : ℕ) → is_name_byte b ≡ true → b < 128
name_byte_low b h = grind (arith, nat_tests)

and_right : (x y : Bool) → (x && y) ≡ true → y ≡ true
and_right true y h = h
and_right false y h = absurd cc

pub name_utf8 : (name : List ℕ) → is_batch_name name ≡ true → IsUtf8 name
name_utf8 name is =
    let all : list_all is_name_byte name ≡ true = and_right (has_length_to 40 name) (list_all is_name_byte name) is in
    IsUtf8-from_ascii name (IsAscii-from_all name (λ i d le. name_byte_low _ (AllPass-from_list_all is_name_byte name all i d le)))

-- ---- what a line was told

true_or_false : (b : Bool) → IsTrue b → IsFalse b → ⊥
true_or_false true t f = absurd cc
true_or_false false t f = absurd cc

-- what tells nothing of the line counts as no reply
pub nothing_told : {server : Server} {w : World} (done : List ℕ) (b : BatchValue) (next : BatchValue → Plan) (t : Told) → told_mark t ≡ None → Follows server (after_line done b next t) w w 9
nothing_told done b next (told.Good place reply bytes) e = told_none (keeping done b next) (reply_mark place reply) e
nothing_told done b next (told.No code body) e = elim (none-some _ (sym e)) [ ]

-- a line that is to be sent again
pub told_again : {server : Server} {w u : World} {status : ℕ} (done : List ℕ) (b : BatchValue) (next : BatchValue → Plan) (t : Told) → IsTrue (is_again t)
    → Follows server (unless_refused (λ place reply bytes. end 9) t) w u status → Follows server (after_line done b next t) w u status
told_again {server = server} {w = w} {u = u} {status = status} done b next t again f =
    subst (λ is. Follows server (if is then unless_refused (λ place reply bytes. end 9) t else or_no_reply (keeping done b next) (told_mark t)) w u status) (sym again) f

marked_on : {server : Server} {w : World} (done : List ℕ) (b c : BatchValue) (next : BatchValue → Plan) (o : Option Mark) → IsSomeAnd o (λ m. c ≡ with_marks b (b.marks ++ m ∷ []))
    → Leads server (or_no_reply (keeping done b next) o) w (saving done c (next c)) w
marked_on {server = server} {w = w} done b c next (Some m) is = λ v status f. subst (λ x. Follows server (saving done x (next x)) w v status) is f
marked_on done b c next None is = absurd is

-- a line that is marked
pub told_on : {server : Server} {w : World} (done : List ℕ) (b c : BatchValue) (next : BatchValue → Plan) (t : Told) → Marks t b c marked.Done → Leads server (after_line done b next t) w (saving done c (next c)) w
told_on {server = server} {w = w} done b c next t is = λ v status f.
    subst (λ again. Follows server (if again then unless_refused (λ place reply bytes. end 9) t else or_no_reply (keeping done b next) (told_mark t)) w v status) (sym is.0)
    (marked_on done b c next (told_mark t) is.1 v status f)

one_more : (b : BatchValue) (m : Mark) → length b.marks < length b.lines → lines_left (with_marks b (b.marks ++ m ∷ [])) + 1 ≡ lines_left b
one_more b m lt = let grown = length-append b.marks (m ∷ []) in omega (arith, grown, lt)

-- the same, counted from what is left
pub one_mark_more : (b : BatchValue) (m : Mark) (left : ℕ) → suc left ≡ lines_left b → left ≡ lines_left (with_marks b (b.marks ++ m ∷ []))
one_mark_more b m left e = let grown = length-append b.marks (m ∷ []) in omega (arith, grown, e)

fewer_by : (b c : BatchValue) (o : Option Mark) → length b.marks < length b.lines → IsSomeAnd o (λ m. c ≡ with_marks b (b.marks ++ m ∷ [])) → lines_left c + 1 ≡ lines_left b
fewer_by b c (Some m) lt is = subst (λ x. lines_left x + 1 ≡ lines_left b) (sym is) (one_more b m lt)
fewer_by b c None lt is = absurd is

-- one line less is left
pub told_leaves : (b c : BatchValue) (t : Told) → length b.marks < length b.lines → Marks t b c marked.Done → lines_left c + 1 ≡ lines_left b
told_leaves b c t lt is = fewer_by b c (told_mark t) lt is.1

-- ---- lines that are sent

-- one more line
pub sent_on : {server : Server} {w u : World} {c : BatchValue} (done : List ℕ) (b : BatchValue) (line left later : ℕ) → left ≡ suc later → line ≡ length b.marks + 1
    → ((next : BatchValue → Plan) → Leads server (ask (line_call b line) (once_told (after_line done b next))) w (next c) u)
    → Leads server (sending done left b) w (sending done later c) u
sent_on {server = server} {w = w} done b line left later e is sent = λ v status f.
    subst (λ n. Follows server (sending done n b) w v status) (sym e)
    (subst (λ n. Follows server (ask (line_call b n) (once_told (after_line done b (sending done later)))) w v status) is (sent (sending done later) v status f))

-- a line that ends the command
pub sent_end : {server : Server} {w u : World} {status : ℕ} (done : List ℕ) (b : BatchValue) (line left later : ℕ) → left ≡ suc later → line ≡ length b.marks + 1
    → ((next : BatchValue → Plan) → Follows server (ask (line_call b line) (once_told (after_line done b next))) w u status) → Follows server (sending done left b) w u status
sent_end {server = server} {w = w} {u = u} {status = status} done b line left later e is sent =
    subst (λ n. Follows server (sending done n b) w u status) (sym e)
    (subst (λ n. Follows server (ask (line_call b n) (once_told (after_line done b (sending done later)))) w u status) is (sent (sending done later)))

-- no line is left
pub all_sent : {server : Server} {w : World} (done : List ℕ) (b : BatchValue) (left : ℕ) → left ≡ 0 → Leads server (sending done left b) w (telling b) w
all_sent {server = server} {w = w} done b left e = λ v status f. subst (λ n. Follows server (sending done n b) w v status) (sym e) f

-- the line that comes next
next_so : (some lines : ℕ) (test : Bool) (line : ℕ) → test ≡ nat_lt some lines → (if test then Some (some + 1) else None) ≡ Some line → (some < lines) × (line ≡ some + 1)
next_so some lines true line is e = (grind (arith, nat_tests, is), cc)
next_so some lines false line is e = elim (none-some line e) [ ]

pub next_is : (b : BatchValue) (line : ℕ) → next_line b ≡ Some line → (length b.marks < length b.lines) × (line ≡ length b.marks + 1)
next_is b line e = next_so (length b.marks) (length b.lines) (nat_lt (length b.marks) (length b.lines)) line refl e

none_so : (some lines : ℕ) (test : Bool) → test ≡ nat_lt some lines → (if test then Some (some + 1) else None) ≡ None → lines ≤ some
none_so some lines true is e = elim (none-some _ (sym e)) [ ]
none_so some lines false is e = grind (arith, nat_tests, is)

pub none_is_next : (b : BatchValue) → next_line b ≡ None → lines_left b ≡ 0
none_is_next b e = let few = none_so (length b.marks) (length b.lines) (nat_lt (length b.marks) (length b.lines)) refl e in omega (arith, few)

-- ---- lines that are collected

-- one more line
pub collected_on : {server : Server} {w u : World} (polls every place : ℕ) (marks : List Mark) (m : Mark) (d : Mark) → place < length marks → get_or marks place d ≡ m
    → ((next : Plan) → Leads server (collecting_line polls every (place + 1) m next) w next u)
    → Leads server (collecting_lines polls every (place + 1) (drop place marks)) w (collecting_lines polls every (place + 1 + 1) (drop (place + 1) marks)) u
collected_on {server = server} {w = w} {u = u} polls every place marks m d lt is done = λ v status f.
    let later : place + 1 ≡ suc place = omega arith in
    subst (λ ms. Follows server (collecting_lines polls every (place + 1) ms) w v status) (sym (drop-cons marks place d lt))
    (subst (λ x. Follows server (collecting_line polls every (place + 1) x (collecting_lines polls every (place + 1 + 1) (drop (suc place) marks))) w v status) (sym is)
    (done (collecting_lines polls every (place + 1 + 1) (drop (suc place) marks)) v status
    (subst (λ n. Follows server (collecting_lines polls every (place + 1 + 1) (drop n marks)) u v status) later f)))

-- a line that ends the command
pub collected_end : {server : Server} {w u : World} {status : ℕ} (polls every place : ℕ) (marks : List Mark) (m : Mark) (d : Mark) → place < length marks → get_or marks place d ≡ m
    → ((next : Plan) → Follows server (collecting_line polls every (place + 1) m next) w u status)
    → Follows server (collecting_lines polls every (place + 1) (drop place marks)) w u status
collected_end {server = server} {w = w} {u = u} {status = status} polls every place marks m d lt is done =
    subst (λ ms. Follows server (collecting_lines polls every (place + 1) ms) w u status) (sym (drop-cons marks place d lt))
    (subst (λ x. Follows server (collecting_line polls every (place + 1) x (collecting_lines polls every (place + 1 + 1) (drop (suc place) marks))) w u status) (sym is) (done (collecting_lines polls every (place + 1 + 1) (drop (suc place) marks))))

-- all lines are told
pub all_collected : {server : Server} {w : World} (polls every place line : ℕ) (marks : List Mark) → length marks ≤ place → Follows server (collecting_lines polls every line (drop place marks)) w w 0
all_collected {server = server} {w = w} polls every place line marks le = subst (λ ms. Follows server (collecting_lines polls every line ms) w w 0) (sym (drop_all place marks le)) (ends 0 w)

-- ---- parts

-- a fact holds at an Ok where it holds
pub at_any_ok : {A E P : Type 0} (r : Result A E) → P → IfOk r (λ _. P)
at_any_ok (Ok a) p = p
at_any_ok (Err e) p = tt

there_so : (some lines : ℕ) (test : Bool) → test ≡ nat_lt some lines → IsSome (if test then Some (some + 1) else None) → some < lines
there_so some lines true is h = grind (arith, nat_tests, is)
there_so some lines false is h = absurd cc

pub next_there : (b : BatchValue) → IsSome (next_line b) → length b.marks < length b.lines
next_there b h = there_so (length b.marks) (length b.lines) (nat_lt (length b.marks) (length b.lines)) refl h

-- the commands, over the path of the progress
pub spawned : {server : Server} {w v : World} {status : ℕ} (done path name : List ℕ) → done ≡ done_path path → Follows server (opening path done name (λ b. sending done (lines_left b) b)) w v status
    → Follows server (spawning path name) w v status
spawned {server = server} {w = w} {v = v} {status = status} done path name is f = subst (λ d. Follows server (opening path d name (λ b. sending d (lines_left b) b)) w v status) is f

pub collected : {server : Server} {w v : World} {status : ℕ} (done path : List ℕ) (polls every : ℕ) → done ≡ done_path path → Follows server (opening_named path done (λ b. collecting_lines polls every 1 b.marks)) w v status
    → Follows server (collecting_batch path polls every) w v status
collected {server = server} {w = w} {v = v} {status = status} done path polls every is f = subst (λ d. Follows server (opening_named path d (λ b. collecting_lines polls every 1 b.marks)) w v status) is f

-- the line of a task, by its id
pub task_line_so : (server : Server) (w v : World) (r : Result (Unit {0}) ℕ) (id : List ℕ) (place task polls every line : ℕ) (next : Plan) → id ≡ task_id place task
    → Carries server (awaiting id every (λ view. say (ended_line line id view) next) polls) w (λ _. next) v r → Carries server (collecting_line polls every line (mark.Task place task) next) w (λ _. next) v r
task_line_so server w v r id place task polls every line next is k = subst (λ i. Carries server (awaiting i every (λ view. say (ended_line line i view) next) polls) w (λ _. next) v r) is k
