-- The bytes of a request.
use Rattle.std.specs.Prelude.{ℕ, Bool, false, if◌then◌else◌, List, ◌++◌, length, codes, decimal}
use Rattle.std.specs.Fmt.{digits}
use Rattle.std.specs.List.{flat_map}
use Rattle.base64.specs.Engines.{standard}
use Rattle.base64.specs.GeneralPurpose.{encode_of}
use Rattle.drill_requests.specs.Requests.{requests}
use Rattle.drill_requests.specs.declared.request.DrillRequest.{DrillRequest}
use Rattle.drill_requests.specs.declared.request.DrillRequest.TheVariants as request

abbrev pub flag_text : Bool → List ℕ
flag_text flag = if flag then codes "true" else codes "false"

-- a task's name, and also what its run writes, but for the end of the line
abbrev pub cycle_name : ℕ → List ℕ
cycle_name cycle = codes "cycle " ++ decimal cycle

-- the ids of the cycle's task and of its run: the task's number in hexadecimal, with 0 for the task and 1 for its first run
unfoldable pub task_id : ℕ → List ℕ
task_id cycle = digits 16 false cycle ++ codes "0"

unfoldable pub run_id : ℕ → List ℕ
run_id cycle = digits 16 false cycle ++ codes "1"

-- what the run of a cycle's task writes, in base64
unfoldable pub output : ℕ → List ℕ
output cycle = encode_of standard (cycle_name cycle ++ codes "\n")

abbrev pub target : DrillRequest → List ℕ
target (request.Handshake bot) = codes "/bot/handshake"
target (request.NewTask cycle priority) = codes "/prpc/swarming.v2.Tasks/NewTask"
target (request.CancelTask cycle kill_running) = codes "/prpc/swarming.v2.Tasks/CancelTask"
target (request.Claim bot cycle) = codes "/bot/claim"
target (request.FinalUpdate bot cycle exit_code hard_timeout) = codes "/bot/task_update"

unfoldable pub handshake_text : ℕ → List ℕ
handshake_text bot =
    codes "{\"bot_id\":\"b" ++ decimal bot
    ++ codes "\",\"session\":\"s\",\"dimensions\":[{\"key\":\"pool\",\"value\":[\"default\"]},{\"key\":\"id\",\"value\":[\"b" ++ decimal bot
    ++ codes "\"]}]}"

unfoldable pub new_task_text : ℕ → ℕ → List ℕ
new_task_text cycle priority =
    codes "{\"name\":\"" ++ cycle_name cycle
    ++ codes "\",\"priority\":" ++ decimal priority
    ++ codes ",\"task_slices\":[{\"expiration_secs\":600,\"wait_for_capacity\":true,\"properties\":{\"command\":[\"true\"],\"dimensions\":[{\"key\":\"pool\",\"value\":\"default\"}]}}]}"

unfoldable pub cancel_task_text : List ℕ → Bool → List ℕ
cancel_task_text task kill_running =
    codes "{\"task_id\":\"" ++ task
    ++ codes "\",\"kill_running\":" ++ flag_text kill_running
    ++ codes "}"

unfoldable pub claim_text : ℕ → ℕ → List ℕ
claim_text bot cycle =
    codes "{\"pool\":\"default\",\"bot_id\":\"b" ++ decimal bot
    ++ codes "\",\"claim_id\":\"c" ++ decimal cycle
    ++ codes "\"}"

unfoldable pub final_update_text : ℕ → List ℕ → List ℕ → ℕ → Bool → List ℕ
final_update_text bot run written exit_code hard_timeout =
    codes "{\"bot_id\":\"b" ++ decimal bot
    ++ codes "\",\"task_id\":\"" ++ run
    ++ codes "\",\"output\":\"" ++ written
    ++ codes "\",\"output_chunk_start\":0,\"exit_code\":" ++ decimal exit_code
    ++ codes ",\"duration_ms\":1,\"hard_timeout\":" ++ flag_text hard_timeout
    ++ codes "}"

-- the body of a request, compact JSON
abbrev pub body : DrillRequest → List ℕ
body (request.Handshake bot) = handshake_text bot
body (request.NewTask cycle priority) = new_task_text cycle priority
body (request.CancelTask cycle kill_running) = cancel_task_text (task_id cycle) kill_running
body (request.Claim bot cycle) = claim_text bot cycle
body (request.FinalUpdate bot cycle exit_code hard_timeout) = final_update_text bot (run_id cycle) (output cycle) exit_code hard_timeout

-- the head of a request of HTTP/1.1, whose body has so many bytes
unfoldable pub head : DrillRequest → ℕ → List ℕ
head r size =
    codes "POST " ++ target r
    ++ codes " HTTP/1.1\r\nHost: drill\r\nX-Swarming-Caller: drill\r\nContent-Length: " ++ decimal size
    ++ codes "\r\n\r\n"

-- a request, its head and its body
unfoldable pub request_bytes : DrillRequest → List ℕ
request_bytes r = head r (length (body r)) ++ body r

-- the bytes of a drill, from a start and with so many cycles
abbrev pub drill_bytes : ℕ → ℕ → List ℕ
drill_bytes start cycles = flat_map request_bytes (requests start cycles)
