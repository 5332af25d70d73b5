-- The table of refusals: the code of each, and what else it tells.
use Rattle.std.specs.Prelude.{ℕ, List, codes}
use Rattle.refusal_codes.specs.declared.refusal_code.RefusalCode.{RefusalCode}
use Rattle.refusal_codes.specs.declared.refusal_code.RefusalCode.TheVariants as code
use Rattle.refusal_codes.specs.Codes.{code_name}
use Rattle.hex.specs.Hex.{encode_lower}
use Rattle.serde_json.specs.Data.{Data, string, Members, member, no_members, put}
use Rattle.json_values.specs.Values.{whole}
use Rattle.task_props.specs.RuleNames.{rule_name}
use Rattle.swarm_model.specs.declared.rule.Unfit.{Unfit}
use Rattle.swarm_model.specs.declared.rule.Unfit.TheVariants as unfit
use Rattle.swarm_model.specs.declared.rule.Rule.{Rule}
use Rattle.swarm_model.specs.declared.rule.Rule.TheVariants as rule
use Rattle.swarm_model.specs.Permissions.{permission_name}
use Rattle.swarm_model.specs.States.{state_name}
use Rattle.json_fields.specs.Ids.{task_id}
use Rattle.reply_bodies.specs.Views.{run_data}

-- the code of a refusal
abbrev pub code_of : Rule → RefusalCode
code_of rule.BadHead = code.BadHead
code_of rule.LengthRequired = code.LengthRequired
code_of (rule.TooLarge limit) = code.TooLarge
code_of rule.NoRoute = code.NoRoute
code_of rule.BadMethod = code.BadMethod
code_of rule.BadJson = code.BadJson
code_of (rule.BadField field broken) = code.BadField
code_of rule.NoCaller = code.NoCaller
code_of (rule.Denied permission pool) = code.Denied
code_of rule.NoPool = code.NoPool
code_of rule.NoTask = code.NoTask
code_of rule.NoBot = code.NoBot
code_of (rule.UuidReused task) = code.UuidReused
code_of (rule.BotUnfit why) = code.BotUnfit
code_of (rule.BotBusy task try_no) = code.BotBusy
code_of (rule.ClaimOver task try_no state) = code.ClaimOver
code_of (rule.NotClaimant bot) = code.NotClaimant
code_of (rule.AttemptOver state) = code.AttemptOver
code_of (rule.OutputGap length) = code.OutputGap
code_of (rule.OutputOverlap start) = code.OutputOverlap
code_of (rule.BlobMissing digest) = code.BlobMissing
code_of (rule.DigestDiffers actual) = code.DigestDiffers
code_of (rule.StoreFull names size) = code.StoreFull
code_of (rule.PoolTasksFull limit) = code.PoolTasksFull
code_of (rule.PoolBotsFull limit) = code.PoolBotsFull
code_of rule.LogFull = code.LogFull
code_of rule.KeeperFault = code.KeeperFault
code_of (rule.FrontAhead length) = code.FrontAhead
code_of rule.WantOfMemory = code.WantOfMemory
code_of (rule.OutputGone digest) = code.OutputGone

abbrev pub unfit_name : Unfit → List ℕ
unfit_name unfit.Dead = codes "dead"
unfit_name unfit.Quarantined = codes "quarantined"
unfit_name unfit.Terminating = codes "terminating"

-- one member, and two whose keys stand in their order
abbrev pub one : List ℕ → Data → Members
one key value = member key value no_members

abbrev pub two : List ℕ → Data → List ℕ → Data → Members
two key value other_key other = member key value (one other_key other)

-- what a refusal of the pool at a place tells beside its code
abbrev pub told_members : ℕ → Rule → Members
told_members place (rule.TooLarge limit) = one (codes "limit") (whole limit)
told_members place (rule.BadField field broken) = two (codes "field") (string field) (codes "rule") (string (rule_name broken))
told_members place (rule.Denied permission pool) = two (codes "permission") (string (permission_name permission)) (codes "pool") (string pool)
told_members place (rule.UuidReused task) = one (codes "task") (string (task_id place task))
told_members place (rule.BotUnfit why) = one (codes "why") (string (unfit_name why))
told_members place (rule.BotBusy task try_no) = one (codes "run") (run_data place (task, try_no))
told_members place (rule.ClaimOver task try_no state) = two (codes "run") (run_data place (task, try_no)) (codes "state") (string (state_name state))
told_members place (rule.NotClaimant bot) = one (codes "bot") (string bot)
told_members place (rule.AttemptOver state) = one (codes "state") (string (state_name state))
told_members place (rule.OutputGap length) = one (codes "length") (whole length)
told_members place (rule.OutputOverlap start) = one (codes "start") (whole start)
told_members place (rule.BlobMissing digest) = one (codes "digest") (string (encode_lower digest))
told_members place (rule.DigestDiffers actual) = one (codes "actual") (string (encode_lower actual))
told_members place (rule.StoreFull names size) = two (codes "names") (whole names) (codes "size") (whole size)
told_members place (rule.PoolTasksFull limit) = one (codes "limit") (whole limit)
told_members place (rule.PoolBotsFull limit) = one (codes "limit") (whole limit)
told_members place (rule.FrontAhead length) = one (codes "length") (whole length)
told_members place (rule.OutputGone digest) = one (codes "digest") (string (encode_lower digest))
told_members place why = no_members

-- the members of a refusal: its code, and what else it tells
abbrev pub refusal_members : ℕ → Rule → Members
refusal_members place why = put (codes "code") (string (code_name (code_of why))) (told_members place why)
