-- What the server reads in the bodies.
use Rattle.std.proofs.Common.{◌≡◌, ℕ, suc, zero, ◌≤◌, Bool, true, false, List, [], Option, Some, None, Result, Ok, Err, refl, sym, ap, ◌∙◌, arith, le-leb}
use Rattle.std.specs.Prelude.{codes, pos, nat_le, ◌&&◌, ◌==◌, if◌then◌else◌}
use Rattle.std.specs.Prelude.{String, string_bytes, IfOk}
use Rattle.std.proofs.Math.Dec.{eqb-suc-zero}
use Rattle.std.proofs.lemmas.Bool.{and_from}
use Rattle.std.proofs.lemmas.Str.{IsUtf8-string_bytes}
use Rattle.serde_json.specs.Data.{Data, depth}
use Rattle.serde_json.specs.Read.{read, max_depth}
use Rattle.json_fields.proofs.BodyLemmas.{reading_some}
use Rattle.task_props.specs.declared.prop_rule.PropRule.{PropRule}
use Rattle.task_props.specs.declared.prop_rule.PropRule.TheVariants.{Range}
use Rattle.task_props.specs.declared.prop_fault.PropFault.{PropFault}
use Rattle.swarm_model.specs.declared.pool_settings.PoolSettings.{PoolSettings}
use Rattle.swarm_model.specs.declared.request.Request.TheVariants as ask
use Rattle.swarm_model.specs.declared.task_state.TaskState.{TaskState}
use Rattle.swarm_model.specs.declared.task_state.TaskState.TheVariants as state
use Rattle.swarm_model.specs.States.{state_named}
use Rattle.json_fields.specs.Readings.{reading, at, ◌>>=◌}
use Rattle.json_fields.specs.Fields.{present, required_text_in, flag_in, number_in, text_in, optional_number_in}
use Rattle.json_fields.specs.Ids.{id_of, task_of_id, try_of_id}
use Rattle.json_fields.specs.Pages.{limit_of}
use Rattle.json_fields.specs.Ranges.{whole_in}
use Rattle.task_bodies.specs.Results.{id_in}
use Rattle.task_bodies.specs.Cancels.{cancel_in}
use Rattle.task_bodies.specs.Lists.{list_body_in, cursor_at}
use Rattle.task_bodies.specs.States.{state_text_in, state_of}
use Rattle.task_bodies.specs.Stdouts.{stdout_in, length_of}
use Rattle.bot_bodies.specs.BotCalls.{list_bots_in}
use Rattle.bot_bodies.specs.Names.{optional_name_at}
use Rattle.task_bodies.specs.declared.lists.ListBody.{ListBody}
use Rattle.task_bodies.specs.declared.stdouts.StdoutBody.{StdoutBody}
use Rattle.bot_bodies.specs.declared.pool_request.PoolRequest.{PoolRequest}
use Rattle.swarm_wire.specs.declared.asked.Asked.{Asked}
use Rattle.swarm_wire.specs.declared.asked.WireFault.{WireFault}
use Rattle.swarm_wire.specs.Asking.{asked, asked_of, object_in, object_of, or_bad_field, pool_at, pool_named, below_of, cancel_of, result_of, stdout_of, list_of, named_of}
use Rattle.client_commands.specs.Requests.{IsBody, id_data, cancel_data, stdout_data, tasks_data, bots_data, state_word, cancel_call, result_call, stdout_call, tasks_call, bots_call}

-- a text that is written of a value is read back
pub read_back : {Z E : Type 0} (d : Data) (r : Result (String Z) E) → depth d ≤ max_depth → IfOk r (λ s. depth d ≤ max_depth → read (string_bytes s) ≡ Some d)
    → IfOk r (λ text. reading (string_bytes text) ≡ Some d)
read_back d (Ok s) le h = sym (reading_some (string_bytes s) d (IsUtf8-string_bytes s) (h le))
read_back d (Err e) le h = tt

pub result_is_meant : (text id : List ℕ) → reading text ≡ Some (id_data id) → IsBody (result_call id).route (result_call id).body text
unfolding asked_of object_in result_of id_in required_text_in present id_data
result_is_meant text id e = λ settings parts. ap (λ o. object_of o >>= result_of settings.pools) e

abbrev cancel_fields : Bool → Result ℕ PropRule → Result (ℕ × Bool) PropFault
cancel_fields kill r = at (codes "task_id") r >>= (λ n. Ok (n, kill))

abbrev cancel_asked : List PoolSettings → ℕ × Bool → Result Asked WireFault
cancel_asked pools fields = pool_at pools fields.0 >>= (λ place. Ok (asked place (ask.Cancel (task_of_id fields.0) (try_of_id fields.0) fields.1)))

cancel_by_id : (pools : List PoolSettings) (kill : Bool) (r : Result ℕ PropRule) →
    (or_bad_field (cancel_fields kill r) >>= cancel_asked pools) ≡ (or_bad_field (at (codes "task_id") r) >>= (λ n. cancel_asked pools (n, kill)))
cancel_by_id pools kill (Ok n) = refl
cancel_by_id pools kill (Err rule) = refl

pub cancel_is_meant : (text id : List ℕ) (kill : Bool) → reading text ≡ Some (cancel_data id kill) → IsBody (cancel_call id kill).route (cancel_call id kill).body text
unfolding asked_of object_in cancel_of cancel_in required_text_in flag_in present cancel_data
cancel_is_meant text id kill e = λ settings parts. ap (λ o. object_of o >>= cancel_of settings.pools) e ∙ cancel_by_id settings.pools kill (id_of id)

-- the fields of a body that asks from an offset on, which must be within the range
abbrev stdout_fields : ℕ → Bool → Result ℕ PropRule → Result StdoutBody PropFault
stdout_fields offset within r = at (codes "task_id") r >>= (λ id. at (codes "offset") (if within then Ok offset else Err Range) >>= (λ from. length_of (pos 0) >>= (λ most. Ok (record { id = id; offset = from; length = most }))))

abbrev stdout_asked : List PoolSettings → StdoutBody → Result Asked WireFault
stdout_asked pools body = pool_at pools body.id >>= (λ place. Ok (asked place (ask.Stdout (task_of_id body.id) (try_of_id body.id) body.offset body.length)))

stdout_by_id : (pools : List PoolSettings) (offset : ℕ) (r : Result ℕ PropRule) (within : Bool) → within ≡ true →
    (or_bad_field (stdout_fields offset within r) >>= stdout_asked pools) ≡ (or_bad_field (at (codes "task_id") r) >>= (λ n. stdout_asked pools (record { id = n; offset = offset; length = 65536 })))
unfolding length_of whole_in
stdout_by_id pools offset (Ok n) true e = refl
stdout_by_id pools offset (Err rule) true e = refl
stdout_by_id pools offset r false e = absurd (cc)

pub stdout_is_meant : (text id : List ℕ) (offset : ℕ) → offset ≤ 67108864 → reading text ≡ Some (stdout_data id offset) → IsBody (stdout_call id offset).route (stdout_call id offset).body text
unfolding asked_of object_in stdout_of stdout_in required_text_in number_in present whole_in stdout_data
stdout_is_meant text id offset le e = λ settings parts.
    ap (λ o. object_of o >>= stdout_of settings.pools) e
    ∙ stdout_by_id settings.pools offset (id_of id) (nat_le 0 offset && nat_le offset 67108864) (and_from _ _ (le-leb 0 offset (omega arith)) (le-leb offset 67108864 le))

-- a limit of 1 to 200 is read as it is
limit_is : (limit : ℕ) → 1 ≤ limit → limit ≤ 200 → limit_of (pos limit) ≡ Ok limit
unfolding limit_of whole_in
limit_is zero some few = absurd (omega (arith, some))
limit_is (suc n) some few =
    ap (λ b. at (codes "limit") (if b then Ok (suc n) else Err Range) >>= (λ limit. Ok (if limit == 0 then 50 else limit))) (and_from _ _ (le-leb 0 (suc n) (omega arith)) (le-leb (suc n) 200 few))
    ∙ ap (λ b. Ok (if b then 50 else suc n)) (eqb-suc-zero n)

-- the word of a state is read as the state
state_is : (state : Option TaskState) → state_of (state_word state) ≡ Ok state
unfolding state_of state_named
state_is None = refl
state_is (Some state.Pending) = refl
state_is (Some state.Running) = refl
state_is (Some state.Expired) = refl
state_is (Some state.TimedOut) = refl
state_is (Some state.BotDied) = refl
state_is (Some state.Canceled) = refl
state_is (Some state.Completed) = refl
state_is (Some state.Killed) = refl
state_is (Some state.NoResource) = refl

abbrev list_fields : List ℕ → Result (Option TaskState) PropRule → Result ℕ PropFault → Result ListBody PropFault
list_fields pool r q = at (codes "state") r >>= (λ s. q >>= (λ most. cursor_at None >>= (λ cursor. Ok (record { pool = pool; state = s; limit = most; cursor = cursor }))))

abbrev list_asked : List PoolSettings → ListBody → Result Asked WireFault
list_asked pools list = pool_named pools list.pool >>= (λ place. below_of place list.cursor >>= (λ below. Ok (asked place (ask.List list.state list.limit below))))

tasks_by_pool : (pools : List PoolSettings) (pool : List ℕ) (state : Option TaskState) (limit : ℕ) (r : Result (Option TaskState) PropRule) (q : Result ℕ PropFault) → r ≡ Ok state → q ≡ Ok limit →
    (or_bad_field (list_fields pool r q) >>= list_asked pools) ≡ (pool_named pools pool >>= (λ place. Ok (asked place (ask.List state limit None))))
unfolding cursor_at below_of
tasks_by_pool pools pool state limit r q e f =
    ap (λ r. or_bad_field (list_fields pool r q) >>= list_asked pools) e ∙ ap (λ q. or_bad_field (list_fields pool (Ok state) q) >>= list_asked pools) f

pub tasks_is_meant : (text pool : List ℕ) (state : Option TaskState) (limit : ℕ) → 1 ≤ limit → limit ≤ 200 → reading text ≡ Some (tasks_data pool state limit)
    → IsBody (tasks_call pool state limit).route (tasks_call pool state limit).body text
unfolding asked_of object_in list_of list_body_in required_text_in state_text_in number_in optional_number_in present tasks_data
tasks_is_meant text pool state limit some few e = λ settings parts.
    ap (λ o. object_of o >>= list_of settings.pools) e
    ∙ tasks_by_pool settings.pools pool state limit (state_of (state_word state)) (limit_of (pos limit)) (state_is state) (limit_is limit some few)

abbrev bots_fields : List ℕ → Result ℕ PropFault → Result PoolRequest PropFault
bots_fields pool q = q >>= (λ most. optional_name_at (codes "cursor") [] >>= (λ after. Ok (record { pool = pool; request = ask.Bots most after })))

abbrev bots_asked : List PoolSettings → PoolRequest → Result Asked WireFault
bots_asked pools named = pool_named pools named.pool >>= (λ place. Ok (asked place named.request))

bots_by_pool : (pools : List PoolSettings) (pool : List ℕ) (limit : ℕ) (q : Result ℕ PropFault) → q ≡ Ok limit →
    (or_bad_field (bots_fields pool q) >>= bots_asked pools) ≡ (pool_named pools pool >>= (λ place. Ok (asked place (ask.Bots limit []))))
unfolding optional_name_at
bots_by_pool pools pool limit q e = ap (λ q. or_bad_field (bots_fields pool q) >>= bots_asked pools) e

pub bots_is_meant : (text pool : List ℕ) (limit : ℕ) → 1 ≤ limit → limit ≤ 200 → reading text ≡ Some (bots_data pool limit) → IsBody (bots_call pool limit).route (bots_call pool limit).body text
unfolding asked_of object_in named_of list_bots_in required_text_in number_in text_in present bots_data
bots_is_meant text pool limit some few e = λ settings parts.
    ap (λ o. object_of o >>= (λ d. named_of settings.pools (list_bots_in d))) e
    ∙ bots_by_pool settings.pools pool limit (limit_of (pos limit)) (limit_is limit some few)
