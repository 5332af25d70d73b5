use Rattle.std.proofs.Common.{sym, ap, None}
use Rattle.std.specs.Fmt.{digits}
use Rattle.json.specs.Print.{escape_byte}
use Rattle.reply_bodies.specs.Bodies.{body_of}
use Rattle.swarm_http.specs.Replies.{head_with, reply_with, shown, refusal}
use Rattle.swarm_http.specs.Sends.{rule_of}
use Rattle.swarm_http.proofs.send.refusal_parts.Goals as goal

pub returns-in-BadHead-clause-parts : goal.returns-in-BadHead-clause-parts
unfolding refusal shown reply_with head_with body_of digits escape_byte
returns-in-BadHead-clause-parts c = sym (ap (λ why. refusal None (rule_of why)) c.in-BadHead.is)

pub returns-in-LengthRequired-clause-parts : goal.returns-in-LengthRequired-clause-parts
unfolding refusal shown reply_with head_with body_of digits escape_byte
returns-in-LengthRequired-clause-parts c = sym (ap (λ why. refusal None (rule_of why)) c.in-LengthRequired.is)

pub returns-in-BodyTooLarge-clause-parts : goal.returns-in-BodyTooLarge-clause-parts
unfolding refusal shown reply_with head_with body_of digits escape_byte
returns-in-BodyTooLarge-clause-parts c = sym (ap (λ why. refusal None (rule_of why)) c.in-BodyTooLarge.is)

pub returns-in-BlobTooLarge-clause-parts : goal.returns-in-BlobTooLarge-clause-parts
unfolding refusal shown reply_with head_with body_of digits escape_byte
returns-in-BlobTooLarge-clause-parts c = sym (ap (λ why. refusal None (rule_of why)) c.in-BlobTooLarge.is)

pub returns-in-NoRoute-clause-parts : goal.returns-in-NoRoute-clause-parts
unfolding refusal shown reply_with head_with body_of digits escape_byte
returns-in-NoRoute-clause-parts c = sym (ap (λ why. refusal None (rule_of why)) c.in-NoRoute.is)

pub returns-in-BadMethod-clause-parts : goal.returns-in-BadMethod-clause-parts
unfolding refusal shown reply_with head_with body_of digits escape_byte
returns-in-BadMethod-clause-parts c = sym (ap (λ why. refusal None (rule_of why)) c.in-BadMethod.is)

pub returns-in-BadJson-clause-parts : goal.returns-in-BadJson-clause-parts
unfolding refusal shown reply_with head_with body_of digits escape_byte
returns-in-BadJson-clause-parts c = sym (ap (λ why. refusal None (rule_of why)) c.in-BadJson.is)

pub returns-in-NoCaller-clause-parts : goal.returns-in-NoCaller-clause-parts
unfolding refusal shown reply_with head_with body_of digits escape_byte
returns-in-NoCaller-clause-parts c = sym (ap (λ why. refusal None (rule_of why)) c.in-NoCaller.is)

pub returns-in-NoPool-clause-parts : goal.returns-in-NoPool-clause-parts
unfolding refusal shown reply_with head_with body_of digits escape_byte
returns-in-NoPool-clause-parts c = sym (ap (λ why. refusal None (rule_of why)) c.in-NoPool.is)

pub returns-in-NoTask-clause-parts : goal.returns-in-NoTask-clause-parts
unfolding refusal shown reply_with head_with body_of digits escape_byte
returns-in-NoTask-clause-parts c = sym (ap (λ why. refusal None (rule_of why)) c.in-NoTask.is)

pub returns-in-LogFull-clause-parts : goal.returns-in-LogFull-clause-parts
unfolding refusal shown reply_with head_with body_of digits escape_byte
returns-in-LogFull-clause-parts c = sym (ap (λ why. refusal None (rule_of why)) c.in-LogFull.is)

pub returns-in-KeeperFault-clause-parts : goal.returns-in-KeeperFault-clause-parts
unfolding refusal shown reply_with head_with body_of digits escape_byte
returns-in-KeeperFault-clause-parts c = sym (ap (λ why. refusal None (rule_of why)) c.in-KeeperFault.is)

pub returns-in-WantOfMemory-clause-parts : goal.returns-in-WantOfMemory-clause-parts
unfolding refusal shown reply_with head_with body_of digits escape_byte
returns-in-WantOfMemory-clause-parts c = sym (ap (λ why. refusal None (rule_of why)) c.in-WantOfMemory.is)

pub returns-in-FrontBroken-clause-parts : goal.returns-in-FrontBroken-clause-parts
unfolding refusal shown reply_with head_with body_of digits escape_byte
returns-in-FrontBroken-clause-parts c = sym (ap (λ why. refusal None (rule_of why)) c.in-FrontBroken.is)
