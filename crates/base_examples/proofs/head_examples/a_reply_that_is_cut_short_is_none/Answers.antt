use Rattle.std.proofs.Common.{◌≡◌, ◌++◌, ◌+◌, Some, length, arith, sym, ap, ◌∙◌}
use Rattle.std.proofs.lemmas.List.{length-append}
use Rattle.httparse.proofs.GrammarLemmas.{response_unique}
use Rattle.reply_reader.specs.Replies.{size_of}
use Rattle.base_examples.proofs.head_examples.a_reply_that_is_cut_short_is_none.Goals as goal

pub returns : goal.returns
returns c bytes front head is_head two short code body reply =
    let same = response_unique bytes reply.head head (body ++ reply.after) front reply.is_head.reads is_head.reads in
    let size : Some (length body) ≡ Some 2 = sym reply.size ∙ ap size_of same.0 ∙ two in
    let all : length body + length reply.after ≡ length front = sym (length-append body reply.after) ∙ ap length same.1 in
    let whole : length body ≡ 2 = cc in
    absurd (omega (arith, all, whole, short))
