use Rattle.std.proofs.Common.{rules, ◌∙◌, ap}
use Rattle.httparse.specs.Spans.{header_bytes, name_and_value}
use Rattle.reply_reader.specs.Replies.{size_of, size_of_fields}
use Rattle.reply_reader.proofs.ReplyLemmas.{few_fields}
use Rattle.reply_reader.proofs.head.check_head.Goals as goal

pub returns-in-Ok-Complete : goal.returns-in-Ok-Complete
unfolding size_of
returns-in-Ok-Complete c =
    let x = rw c.in-Ok-Complete.field-0-is at c.in-Ok-Complete.ensures.complete in
    let w = rw c.in-Ok-Complete.field-0-is at c.in-Ok-Complete.ensures.within in record {
      head = x.0;
      reads = x.1.reads;
      len = x.1.len;
      within = w.section.len_fits;
      few = few_fields (header_bytes c.args.text.now) name_and_value c.parse_response.new.headers x.0.fields c.in-Ok-Complete.head.headers x.1.fields (search rules);
      size_is = c.body_size.ensures ∙ ap size_of_fields x.1.fields;
      code_is = x.1.code;
    }
