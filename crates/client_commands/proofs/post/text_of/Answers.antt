use Rattle.serde_json.specs.View.{view}
use Rattle.client_commands.proofs.Meanings.{read_back}
use Rattle.client_commands.proofs.post.text_of.Goals as goal

pub returns : goal.returns
returns c = read_back (view c.args.value.now) c.to_string.result c.requires c.to_string.ensures.reads_back
