use Rattle.std.proofs.Common.{◌∙◌, ap}
use Rattle.head_fields.specs.Numbers.{value_or_zero}
use Rattle.request_head.specs.HeadFields.{method_named, limit_at, after_number}
use Rattle.request_head.proofs.HeadLemmas.{refusal_read, method_read, says_read}
use Rattle.request_head.proofs.head_check.check_whole_head.Goals as goal

pub returns-in-Ok : goal.returns-in-Ok
returns-in-Ok c = λ h covers.
    let method = c.named-method.ensures ∙ ap method_named c.of.ensures in
    let target = c.target_text-target.ensures ∙ c.of-2.ensures in (
      refusal_read covers _ _ _ _ method c.only_number-length.ensures c.lacks-plain.ensures (c.limit_at-limit.ensures ∙ ap limit_at (c.as_bytes.ensures.value ∙ target))
          ∙ c.in-Ok.ensures.0,
      says_read covers _ method target (c.in-Ok.ensures.1 ∙ ap value_or_zero c.only_number-length.ensures) c.closes.ensures c.caller_told.ensures
          (c.from_number.ensures ∙ ap after_number c.only_number.ensures),
    )

pub returns-in-Err : goal.returns-in-Err
returns-in-Err c = λ h covers.
    let method = c.named-method.ensures ∙ ap method_named c.of.ensures in (
      refusal_read covers _ _ _ _ method c.only_number-length.ensures c.lacks-plain.ensures
          (c.limit_at-limit.ensures ∙ ap limit_at (c.as_bytes.ensures.value ∙ c.target_text-target.ensures ∙ c.of-2.ensures))
          ∙ c.in-Err.ensures,
      method_read covers method,
    )
