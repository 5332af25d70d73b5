-- What holds of rows that are read stays with each line, and each line adds one row.
use Rattle.std.proofs.Common.{◌≡◌, ℕ, ◌+◌, ◌<◌, ◌≤◌, ◌^◌, ◌==◌, ◌&&◌, nat_lt, true, List, [], ◌∷◌, ◌++◌, length, refl, sym, ap, ◌∙◌, subst, arith, Option, Some, None, eqb-true, ltb-true}
use Rattle.std.specs.Prelude.{is_some, is_none, Result, Ok, Err, OnOk, OnErr}
use Rattle.std.proofs.lemmas.Bool.{and_parts}
use Rattle.std.proofs.lemmas.Option.{cond_some}
use Rattle.std.proofs.lemmas.List.{length_push}
use Rattle.std.proofs.lemmas.List.Elements.{All-nil, All-push}
use Rattle.base_lines.specs.Types.{BlobRow, TaskRow, BotRow}
use Rattle.swarm_model.specs.Numbers.{AreNumbered}
use Rattle.swarm_model.specs.Effects.{no_of_bot, idle_bot}
use Rattle.line_parts.specs.declared.line_fault.LineFault.{LineFault}
use Rattle.line_parts.specs.declared.line_fault.LineFault.TheVariants.{Memory, NotALine}
use Rattle.line_parts.specs.Finding.{FindsValue}
use Rattle.base_lines.specs.declared.base_row.PoolLine.{PoolLine}
use Rattle.base_lines.specs.declared.base_row.BaseRow.{BaseRow}
use Rattle.base_lines.specs.declared.base_row.BaseRow.TheVariants as row
use Rattle.base_lines.specs.declared.base_rows.BaseRows.{BaseRows}
use Rattle.base_lines.specs.Lines.{HoldsRow}
use Rattle.base_lines.specs.Reading.{nothing_read, is_nil, comes_next, with_row, take_row, pool_lines, lines_in, most_lines, AreRead}

pub nothing_is_read : AreRead nothing_read
nothing_is_read =
    record {
      numbered = tt;
      idle = All-nil (λ (bot : BotRow). bot.task ≡ None);
      few_tasks = omega arith;
      few_bots = omega arith;
      few_blobs = omega arith;
      newest = omega arith;
    }

numbered_push : (n : ℕ) (bots : List BotRow) (bot : BotRow) → AreNumbered no_of_bot n bots → bot.no ≡ n + length bots → AreNumbered no_of_bot n (bots ++ bot ∷ [])
numbered_push n [] bot numbered is = (omega (arith, is), tt)
numbered_push n (first ∷ bots) bot numbered is = (numbered.0, numbered_push (n + 1) bots bot numbered.1 (omega (arith, is)))

-- a bot that comes next has the number behind those of the others
next_bot : (rows : BaseRows) (bot : BotRow) → comes_next rows (row.Bot bot) ≡ true → bot.no ≡ length rows.bots + 1
next_bot rows bot e =
    let both = and_parts (is_some rows.pool) ((bot.no == length rows.bots + 1) && is_nil rows.blobs) e in
    eqb-true bot.no (length rows.bots + 1) (and_parts (bot.no == length rows.bots + 1) (is_nil rows.blobs) both.1).0

-- so does a task
next_task : (rows : BaseRows) (task : TaskRow) → comes_next rows (row.Task task) ≡ true → task.no ≡ length rows.tasks + 1
next_task rows task e =
    let both = and_parts (is_some rows.pool) ((task.no == length rows.tasks + 1) && (is_nil rows.bots && is_nil rows.blobs)) e in
    eqb-true task.no (length rows.tasks + 1) (and_parts (task.no == length rows.tasks + 1) (is_nil rows.bots && is_nil rows.blobs) both.1).0

-- and a blob one above theirs
next_blob : (rows : BaseRows) (blob : BlobRow) → comes_next rows (row.Blob blob) ≡ true → rows.newest < blob.no
next_blob rows blob e = ltb-true rows.newest blob.no (and_parts (is_some rows.pool) (nat_lt rows.newest blob.no) e).1

keeps_with : (rows : BaseRows) (x : BaseRow) → HoldsRow x → comes_next rows x ≡ true → AreRead rows → AreRead (with_row rows x)
keeps_with rows (row.Pool pool) holds e read =
    record { numbered = read.numbered; idle = read.idle; few_tasks = read.few_tasks; few_bots = read.few_bots; few_blobs = read.few_blobs; newest = read.newest }
keeps_with rows (row.Task task) holds e read =
    let number = next_task rows task e in
    let low : task.no < 2 ^ 32 = holds.4.4 in
    let more = length_push rows.tasks task in
    record {
      numbered = read.numbered;
      idle = read.idle;
      few_tasks = omega (arith, number, low, more);
      few_bots = read.few_bots;
      few_blobs = read.few_blobs;
      newest = read.newest;
    }
keeps_with rows (row.Bot bot) holds e read =
    let number = next_bot rows bot e in
    let low : bot.no < 2 ^ 32 = holds.0 in
    let more = length_push rows.bots (idle_bot bot) in
    record {
      numbered = numbered_push 1 rows.bots (idle_bot bot) read.numbered (omega (arith, number));
      idle = All-push (λ (b : BotRow). b.task ≡ None) rows.bots (idle_bot bot) read.idle refl;
      few_tasks = read.few_tasks;
      few_bots = omega (arith, number, low, more);
      few_blobs = read.few_blobs;
      newest = read.newest;
    }
keeps_with rows (row.Blob blob) holds e read =
    let above = next_blob rows blob e in
    let few = read.few_blobs in
    let more = length_push rows.blobs blob in
    record {
      numbered = read.numbered;
      idle = read.idle;
      few_tasks = read.few_tasks;
      few_bots = read.few_bots;
      few_blobs = omega (arith, above, few, more);
      newest = holds.3;
    }

pub stays_read : (rows : BaseRows) (x : BaseRow) (more : BaseRows) → HoldsRow x → take_row rows x ≡ Some more → AreRead rows → AreRead more
stays_read rows x more holds e read =
    let taken = cond_some (comes_next rows x) (with_row rows x) more e in
    subst AreRead taken.1 (keeps_with rows x holds taken.0 read)

-- whatever a step answers
pub keeps_read : {U : Type 0} (rows more : BaseRows) (x : BaseRow) (r : Result U LineFault) → HoldsRow x → FindsValue (λ _. more) r (take_row rows x) → OnErr r (more ≡ rows) → AreRead rows → AreRead more
keeps_read rows more x (Ok u) holds told stays read = stays_read rows x more holds told read
keeps_read rows more x (Err NotALine) holds told stays read = subst AreRead (sym stays) read
keeps_read rows more x (Err Memory) holds told stays read = subst AreRead (sym stays) read

-- ---- how many lines were read

one_more : (o : Option PoolLine) (pool : PoolLine) (n : ℕ) → is_none o ≡ true → pool_lines (Some pool) + n ≡ pool_lines o + n + 1
one_more None pool n e = omega arith
one_more (Some other) pool n e = absurd (cc (e))

counts_with : (rows : BaseRows) (x : BaseRow) → comes_next rows x ≡ true → lines_in (with_row rows x) ≡ lines_in rows + 1
counts_with rows (row.Pool pool) e = one_more rows.pool pool (length rows.tasks + (length rows.bots + length rows.blobs)) e
counts_with rows (row.Task task) e = let more = length_push rows.tasks task in omega (arith, more)
counts_with rows (row.Bot bot) e = let more = length_push rows.bots (idle_bot bot) in omega (arith, more)
counts_with rows (row.Blob blob) e = let more = length_push rows.blobs blob in omega (arith, more)

counts_taken : (rows : BaseRows) (x : BaseRow) (more : BaseRows) → take_row rows x ≡ Some more → lines_in more ≡ lines_in rows + 1
counts_taken rows x more e =
    let taken = cond_some (comes_next rows x) (with_row rows x) more e in
    ap lines_in (sym taken.1) ∙ counts_with rows x taken.0

pub one_line_more : {U : Type 0} (rows more : BaseRows) (x : BaseRow) (r : Result U LineFault) → FindsValue (λ _. more) r (take_row rows x) → OnOk r (lines_in more ≡ lines_in rows + 1)
one_line_more rows more x (Ok u) told = counts_taken rows x more told
one_line_more rows more x (Err fault) told = tt

few_pools : (o : Option PoolLine) → pool_lines o ≤ 1
few_pools None = omega arith
few_pools (Some pool) = omega arith

pub few_lines : (rows : BaseRows) → AreRead rows → lines_in rows ≤ most_lines
few_lines rows read =
    let pools = few_pools rows.pool in
    let tasks = read.few_tasks in
    let bots = read.few_bots in
    let blobs = read.few_blobs in
    let newest = read.newest in
    omega (arith, pools, tasks, bots, blobs, newest)

pub few_in_all : (rows : BaseRows) → AreRead rows → (length rows.tasks < 2 ^ 32) × (length rows.bots < 2 ^ 32) × (length rows.blobs < 2 ^ 32)
few_in_all rows read = let blobs = read.few_blobs in let newest = read.newest in (read.few_tasks, read.few_bots, omega (arith, blobs, newest))
