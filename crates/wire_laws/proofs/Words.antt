-- The words of replies are UTF-8, and no code has the status of a reply that is good.
use Rattle.std.proofs.Common.{◌≡◌, ◌==◌, false, true, refl}
use Rattle.std.specs.Str.{IsUtf8}
use Rattle.json.proofs.Printed.Utf8.{are_ascii, IsUtf8-are_ascii}
use Rattle.refusal_codes.specs.declared.refusal_code.RefusalCode.{RefusalCode}
use Rattle.refusal_codes.specs.declared.refusal_code.RefusalCode.TheVariants as code
use Rattle.refusal_codes.specs.Codes.{code_name, code_status}
use Rattle.wire_laws.specs.Types.{PropRule, TaskState}
use Rattle.task_props.specs.declared.prop_rule.PropRule.TheVariants as prop_rule
use Rattle.task_props.specs.RuleNames.{rule_name}
use Rattle.swarm_model.specs.declared.rule.Unfit.{Unfit}
use Rattle.swarm_model.specs.declared.rule.Unfit.TheVariants as unfit
use Rattle.swarm_model.specs.declared.permission.Permission.{Permission}
use Rattle.swarm_model.specs.declared.permission.Permission.TheVariants as permission
use Rattle.swarm_model.specs.Permissions.{permission_name}
use Rattle.swarm_model.specs.declared.task_state.TaskState.TheVariants as state
use Rattle.swarm_model.specs.States.{state_name}
use Rattle.reply_bodies.specs.Refusals.{unfit_name}

code_is_ascii : (c : RefusalCode) → are_ascii (code_name c) ≡ true
code_is_ascii code.BadHead = refl
code_is_ascii code.LengthRequired = refl
code_is_ascii code.TooLarge = refl
code_is_ascii code.NoRoute = refl
code_is_ascii code.BadMethod = refl
code_is_ascii code.BadJson = refl
code_is_ascii code.BadField = refl
code_is_ascii code.NoCaller = refl
code_is_ascii code.Denied = refl
code_is_ascii code.NoPool = refl
code_is_ascii code.NoTask = refl
code_is_ascii code.NoBot = refl
code_is_ascii code.UuidReused = refl
code_is_ascii code.BotUnfit = refl
code_is_ascii code.BotBusy = refl
code_is_ascii code.ClaimOver = refl
code_is_ascii code.NotClaimant = refl
code_is_ascii code.AttemptOver = refl
code_is_ascii code.OutputGap = refl
code_is_ascii code.OutputOverlap = refl
code_is_ascii code.BlobMissing = refl
code_is_ascii code.DigestDiffers = refl
code_is_ascii code.StoreFull = refl
code_is_ascii code.PoolTasksFull = refl
code_is_ascii code.PoolBotsFull = refl
code_is_ascii code.LogFull = refl
code_is_ascii code.FrontAhead = refl
code_is_ascii code.KeeperFault = refl
code_is_ascii code.WantOfMemory = refl
code_is_ascii code.OutputGone = refl

pub code_utf8 : (c : RefusalCode) → IsUtf8 (code_name c)
code_utf8 c = IsUtf8-are_ascii (code_name c) (code_is_ascii c)

pub code_is_refused : (c : RefusalCode) → (code_status c == 200) ≡ false
code_is_refused code.BadHead = refl
code_is_refused code.LengthRequired = refl
code_is_refused code.TooLarge = refl
code_is_refused code.NoRoute = refl
code_is_refused code.BadMethod = refl
code_is_refused code.BadJson = refl
code_is_refused code.BadField = refl
code_is_refused code.NoCaller = refl
code_is_refused code.Denied = refl
code_is_refused code.NoPool = refl
code_is_refused code.NoTask = refl
code_is_refused code.NoBot = refl
code_is_refused code.UuidReused = refl
code_is_refused code.BotUnfit = refl
code_is_refused code.BotBusy = refl
code_is_refused code.ClaimOver = refl
code_is_refused code.NotClaimant = refl
code_is_refused code.AttemptOver = refl
code_is_refused code.OutputGap = refl
code_is_refused code.OutputOverlap = refl
code_is_refused code.BlobMissing = refl
code_is_refused code.DigestDiffers = refl
code_is_refused code.StoreFull = refl
code_is_refused code.PoolTasksFull = refl
code_is_refused code.PoolBotsFull = refl
code_is_refused code.LogFull = refl
code_is_refused code.FrontAhead = refl
code_is_refused code.KeeperFault = refl
code_is_refused code.WantOfMemory = refl
code_is_refused code.OutputGone = refl

state_is_ascii : (s : TaskState) → are_ascii (state_name s) ≡ true
state_is_ascii state.Pending = refl
state_is_ascii state.Running = refl
state_is_ascii state.Expired = refl
state_is_ascii state.TimedOut = refl
state_is_ascii state.BotDied = refl
state_is_ascii state.Canceled = refl
state_is_ascii state.Completed = refl
state_is_ascii state.Killed = refl
state_is_ascii state.NoResource = refl

pub state_utf8 : (s : TaskState) → IsUtf8 (state_name s)
state_utf8 s = IsUtf8-are_ascii (state_name s) (state_is_ascii s)

permission_is_ascii : (p : Permission) → are_ascii (permission_name p) ≡ true
permission_is_ascii permission.CreateTask = refl
permission_is_ascii permission.CancelTask = refl
permission_is_ascii permission.ListTasks = refl
permission_is_ascii permission.ListBots = refl
permission_is_ascii permission.TerminateBot = refl
permission_is_ascii permission.RunBot = refl
permission_is_ascii permission.UseBlobs = refl

pub permission_utf8 : (p : Permission) → IsUtf8 (permission_name p)
permission_utf8 p = IsUtf8-are_ascii (permission_name p) (permission_is_ascii p)

rule_is_ascii : (r : PropRule) → are_ascii (rule_name r) ≡ true
rule_is_ascii prop_rule.Missing = refl
rule_is_ascii prop_rule.WrongType = refl
rule_is_ascii prop_rule.Unknown = refl
rule_is_ascii prop_rule.Count = refl
rule_is_ascii prop_rule.Grammar = refl
rule_is_ascii prop_rule.Range = refl
rule_is_ascii prop_rule.Repeated = refl
rule_is_ascii prop_rule.Alternative = refl
rule_is_ascii prop_rule.Pool = refl
rule_is_ascii prop_rule.Id = refl

pub rule_utf8 : (r : PropRule) → IsUtf8 (rule_name r)
rule_utf8 r = IsUtf8-are_ascii (rule_name r) (rule_is_ascii r)

unfit_is_ascii : (u : Unfit) → are_ascii (unfit_name u) ≡ true
unfit_is_ascii unfit.Dead = refl
unfit_is_ascii unfit.Quarantined = refl
unfit_is_ascii unfit.Terminating = refl

pub unfit_utf8 : (u : Unfit) → IsUtf8 (unfit_name u)
unfit_utf8 u = IsUtf8-are_ascii (unfit_name u) (unfit_is_ascii u)
