use Rattle.std.proofs.Common.{refl, ap, ◌∙◌, Err}
use Rattle.swarm_model.specs.declared.rule.Rule.TheVariants as rule
use Rattle.swarm_http.specs.Requests.{with_front}
use Rattle.swarm_http.specs.Sends.{rule_of}
use Rattle.swarm_http.specs.Steps.{by_rule}
use Rattle.swarm_http.proofs.permitted_call.fault_reply.Goals as goal

pub returns-in-BadJson : goal.returns-in-BadJson
returns-in-BadJson c = λ asked is.
    by_rule rule.BadJson (ap (with_front c.args.after) (is (λ e. cc)) ∙ ap (λ f. with_front c.args.after (Err f)) c.in-BadJson.is) refl refl

pub returns-in-BadField : goal.returns-in-BadField
returns-in-BadField c = λ asked is.
    rw (ap (with_front c.args.after) (is (λ e. cc)) ∙ ap (λ f. with_front c.args.after (Err f)) c.in-BadField.is) c.refusal_reply.ensures

pub returns-in-NoPool : goal.returns-in-NoPool
returns-in-NoPool c = λ asked is.
    by_rule (rule_of c.unless_front_broken.result)
    (ap (with_front c.args.after) (is (λ e. cc)) ∙ ap (λ f. with_front c.args.after (Err f)) c.in-NoPool.is ∙ c.unless_front_broken.ensures) refl refl

pub returns-in-NoTask : goal.returns-in-NoTask
returns-in-NoTask c = λ asked is.
    by_rule (rule_of c.unless_front_broken-in-NoTask.result)
    (ap (with_front c.args.after) (is (λ e. cc)) ∙ ap (λ f. with_front c.args.after (Err f)) c.in-NoTask.is ∙ c.unless_front_broken-in-NoTask.ensures) refl refl
