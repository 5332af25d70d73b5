use Rattle.std.proofs.Common.{◌≡◌}
use Rattle.batch_plays.specs.Saving.{text_at}
use Rattle.batch_plays.proofs.Saved.{reads_well}
use Rattle.batch_plays.proofs.saved_batch.SavedBatch.read_again.Goals as goal

pub unreachable-requires : goal.unreachable-requires
unreachable-requires c =
    let text_is : c.as_bytes.result.now ≡ text_at c.args.saved c.args.self.now = cc (c.as_bytes.ensures.value, c.as_str.ensures, c.in_ok-text.ensures, c.text.ensures) in
    reads_well c.args.saved c.args.self.now c.as_bytes.result.now c.read_again.new.self c.read_again.result c.in-Err-Broken.field-0 c.in-Err-Broken.field-0-0 c.in-Err-Broken.field-0-1 c.requires.progress text_is
    c.read_again.ensures c.in-Err-Broken.is c.in-Err-Broken.field-0-is
