-- What is sent of a reply.
use Rattle.std.specs.Prelude.{ℕ, take, drop, Some, None}
use Rattle.swarm_model.specs.declared.rule.Rule.{Rule}
use Rattle.swarm_model.specs.declared.rule.Rule.TheVariants as rule
use Rattle.swarm_http.specs.declared.reply.Refusal.{Refusal}
use Rattle.swarm_http.specs.declared.reply.Refusal.TheVariants.{BadHead, LengthRequired, BodyTooLarge, BlobTooLarge, NoRoute, BadMethod, BadJson, FrontBroken, NoCaller, NoPool, NoTask, LogFull, KeeperFault, WantOfMemory}
use Rattle.swarm_http.specs.declared.reply.ReplyBytes.{ReplyBytes}
use Rattle.swarm_http.specs.declared.reply.ReplyBytes.TheVariants as shown
use Rattle.swarm_model.specs.declared.reply.Reply.TheVariants as reply
use Rattle.reply_bodies.specs.Bodies.{status_of}
use Rattle.swarm_http.specs.Requests.{broken_front}
use Rattle.swarm_http.specs.Replies.{Shown, refusal}

-- the rule of a refusal whose reply takes no memory
abbrev pub rule_of : Refusal → Rule
rule_of BadHead = rule.BadHead
rule_of LengthRequired = rule.LengthRequired
rule_of BodyTooLarge = rule.TooLarge 65536
rule_of BlobTooLarge = rule.TooLarge 16777216
rule_of NoRoute = rule.NoRoute
rule_of BadMethod = rule.BadMethod
rule_of BadJson = rule.BadJson
rule_of FrontBroken = broken_front
rule_of NoCaller = rule.NoCaller
rule_of NoPool = rule.NoPool
rule_of NoTask = rule.NoTask
rule_of LogFull = rule.LogFull
rule_of KeeperFault = rule.KeeperFault
rule_of WantOfMemory = rule.WantOfMemory

-- the status of a reply that is ready to be written
abbrev pub status_in : ReplyBytes → ℕ
status_in (shown.Refused why) = status_of (reply.No (rule_of why))
status_in (shown.Whole status size text) = status
status_in (shown.Blob status head content) = status
status_in (shown.WantOfMemoryAt front) = status_of (reply.No rule.WantOfMemory)

-- the head and the body of a reply that is ready to be written
abbrev pub shown_in : ReplyBytes → Shown
shown_in (shown.Refused why) = refusal None (rule_of why)
shown_in (shown.Whole status size text) = record { head = take size text.items; body = drop size text.items }
shown_in (shown.Blob status head content) = record { head = head.items; body = content }
shown_in (shown.WantOfMemoryAt front) = refusal (Some front) rule.WantOfMemory
