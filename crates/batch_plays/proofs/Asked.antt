-- The task that a line asks for.
use Rattle.std.proofs.Common.{◌≡◌, ℕ, ◌+◌, ◌-◌, ◌≤◌, Bool, true, false, List, [], ◌∷◌, ◌++◌, length, Option, Some, None, Result, Ok, Err, refl, ap, sym, ◌∙◌, subst}
use Rattle.std.specs.Prelude.{nat_lt, slice_get, option_and_then, if◌then◌else◌, codes, decimal}
use Rattle.std.proofs.Math.Dec.{eqb-suc-zero}
use Rattle.serde_json.specs.Data.{Data}
use Rattle.dimensions.specs.Rules.{is_empty}
use Rattle.batch_plays.specs.Types.{NewTask, PoolSettings, Settings, Asked, WireFault, Parts}
use Rattle.task_props.specs.declared.prop_fault.PropFault.{PropFault}
use Rattle.task_props.specs.declared.prop_rule.PropRule.TheVariants.{WrongType}
use Rattle.task_props.specs.Checked.{pool_of_task}
use Rattle.json_fields.specs.Fields.{is_object}
use Rattle.json_fields.specs.Readings.{reading, ◌>>=◌}
use Rattle.task_bodies.specs.Tasks.{task_in}
use Rattle.refusal_codes.specs.declared.refusal_code.RefusalCode.TheVariants as code
use Rattle.routes.specs.declared.route.Route.TheVariants as route
use Rattle.swarm_model.specs.declared.request.Request.TheVariants as ask
use Rattle.swarm_wire.specs.declared.asked.WireFault.TheVariants as fault
use Rattle.swarm_wire.specs.Asking.{asked, asked_of, object_in, object_of, new_of, or_bad_field, pool_named}
use Rattle.swarm_batch.specs.Batches.{BatchValue, body_data, uuid_of}
use Rattle.swarm_batch.specs.Named.{named, named_in}
use Rattle.swarm_batch.proofs.Tasks.{named_task_has_uuid}
use Rattle.batch_plays.specs.declared.asking.Asking.{Asking}
use Rattle.batch_plays.specs.declared.asking.Asking.TheVariants as asking
use Rattle.batch_plays.specs.Asking.{no_parts, may_create, asking_by, asking_of}
use Rattle.batch_plays.specs.Once.{IsTaskOf}

-- ---- the task of a body

-- the body is read as the task that is asked for
record IsRead (body : List ℕ) (a : Asked) : Type 0 where
  value : Data
  read : reading body ≡ Some value
  task : NewTask
  task_is : task_in value ≡ Ok task
  request : a.request ≡ ask.New task

placed : (task : NewTask) (a : Asked) (r : Result ℕ WireFault) → (r >>= (λ place. Ok (asked place (ask.New task)))) ≡ Ok a → a.request ≡ ask.New task
placed task a (Err e) h = absurd (cc)
placed task a (Ok place) h = let is : asked place (ask.New task) ≡ a = cc in ap (λ (x : Asked). x.request) (sym is)

task_read : (pools : List PoolSettings) (a : Asked) (r : Result NewTask PropFault) →
    (or_bad_field r >>= (λ task. pool_named pools (pool_of_task task) >>= (λ place. Ok (asked place (ask.New task))))) ≡ Ok a →
    (task : NewTask) × (r ≡ Ok task) × (a.request ≡ ask.New task)
task_read pools a (Err e) h = absurd (cc)
task_read pools a (Ok task) h = (task, refl, placed task a (pool_named pools (pool_of_task task)) h)

new_read : (pools : List PoolSettings) (d : Data) (a : Asked) → new_of pools d ≡ Ok a → (task : NewTask) × (task_in d ≡ Ok task) × (a.request ≡ ask.New task)
unfolding new_of
new_read pools d a h = task_read pools a (task_in d) h

object_tested : (d : Data) (a : Asked) (next : Data → Result Asked WireFault) (b : Bool) → ((if b then Ok d else Err (fault.BadField [] WrongType)) >>= next) ≡ Ok a → next d ≡ Ok a
object_tested d a next true h = h
object_tested d a next false h = absurd (cc)

object_from : (a : Asked) (next : Data → Result Asked WireFault) (o : Option Data) → (object_of o >>= next) ≡ Ok a → (d : Data) × (o ≡ Some d) × (next d ≡ Ok a)
object_from a next None h = absurd (cc)
object_from a next (Some d) h = (d, refl, object_tested d a next (is_object d) h)

object_read : (body : List ℕ) (a : Asked) (next : Data → Result Asked WireFault) → (object_in body >>= next) ≡ Ok a → (d : Data) × (reading body ≡ Some d) × (next d ≡ Ok a)
unfolding object_in
object_read body a next h = object_from a next (reading body) h

asked_read : (settings : Settings) (parts : Parts) (body : List ℕ) (a : Asked) → asked_of settings route.NewTask parts body ≡ Ok a → IsRead body a
unfolding asked_of
asked_read settings parts body a h =
    let object = object_read body a (new_of settings.pools) h in
    let new = new_read settings.pools object.0 a object.2 in
    record { value = object.0; read = object.1; task = new.0; task_is = new.1; request = new.2 }

permitted_tested : (x a : Asked) (b : Bool) → (if b then asking.Asks x else asking.Refused code.Denied) ≡ asking.Asks a → x ≡ a
permitted_tested x a true h = cc
permitted_tested x a false h = absurd (cc)

permitted_read : (settings : Settings) (who : List ℕ) (a : Asked) (r : Result Asked WireFault) → asking_by settings who r ≡ asking.Asks a → r ≡ Ok a
permitted_read settings who a (Err e) h = absurd (cc)
permitted_read settings who a (Ok x) h = ap (λ (y : Asked). Ok y) (permitted_tested x a (may_create settings who x.place) h)

short_read : (settings : Settings) (who : List ℕ) (a : Asked) (r : Result Asked WireFault) (b : Bool) → (if b then asking.Refused code.TooLarge else asking_by settings who r) ≡ asking.Asks a → r ≡ Ok a
short_read settings who a r true h = absurd (cc)
short_read settings who a r false h = permitted_read settings who a r h

asking_read : (settings : Settings) (who body : List ℕ) (a : Asked) → asking_of settings who body ≡ asking.Asks a → IsRead body a
asking_read settings who body a h =
    asked_read settings no_parts body a (short_read settings who a (asked_of settings route.NewTask no_parts body) (nat_lt 65536 (length body)) h)

-- ---- the task of a line

named_from : (uuid : List ℕ) (o : Option Data) (d : Data) → option_and_then (named uuid) o ≡ Some d → (x : Data) × (named uuid x ≡ Some d)
named_from uuid None d h = absurd (cc)
named_from uuid (Some x) d h = (x, h)

line_from : (uuid : List ℕ) (o : Option (List ℕ)) (d : Data) → option_and_then (named_in uuid) o ≡ Some d → (x : Data) × (named uuid x ≡ Some d)
line_from uuid None d h = absurd (cc)
line_from uuid (Some line) d h = named_from uuid (reading line) d h

body_named : (b : BatchValue) (line : ℕ) (d : Data) → body_data b line ≡ Some d → (x : Data) × (named (uuid_of b.name line) x ≡ Some d)
body_named b line d h = line_from (uuid_of b.name line) (slice_get b.lines (line - 1)) d h

-- what a line asks is its task
pub line_task : (settings : Settings) (who : List ℕ) (b : BatchValue) (line : ℕ) (body : List ℕ) (a : Asked) → 1 ≤ line → line ≤ length b.lines → reading body ≡ body_data b line →
    asking_of settings who body ≡ asking.Asks a → (task : NewTask) × (a.request ≡ ask.New task) × IsTaskOf b line task
line_task settings who b line body a from to reads is =
    let r = asking_read settings who body a is in
    let body_is : body_data b line ≡ Some r.value = sym reads ∙ r.read in
    let x = body_named b line r.value body_is in (
      r.task,
      r.request,
      record {
        from = from;
        to = to;
        value = r.value;
        body = body_is;
        reads = r.task_is;
        uuid = named_task_has_uuid (uuid_of b.name line) x.0 r.value r.task x.1 r.task_is;
      },
    )

-- the uuid of a line is not empty
pub has_uuid : (name : List ℕ) (line : ℕ) → is_empty (uuid_of name line) ≡ false
has_uuid [] line = eqb-suc-zero _
has_uuid (c ∷ name) line = eqb-suc-zero _
