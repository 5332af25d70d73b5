use Rattle.request_head.proofs.HeadLemmas.{covers_whole, judged_head}
use Rattle.request_head.proofs.head_check.check_head.Goals as goal

pub returns-in-Some : goal.returns-in-Some
returns-in-Some c =
    let w = c.in-Some.ensures in
    judged_head c.args.text.now c.check_whole_head.result (record {
      head = w.head;
      is_head = w.is_head;
      due = c.check_whole_head.ensures w.head (covers_whole c.args.text.now c.whole_head.new.headers c.in-Some.head w);
    })
