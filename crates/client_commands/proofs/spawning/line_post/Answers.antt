use Rattle.std.proofs.Common.{◌≡◌, subst, sym}
use Rattle.json_fields.specs.Readings.{reading}
use Rattle.swarm_batch.specs.Batches.{body_data}
use Rattle.client_commands.proofs.spawning.line_post.Goals as goal

pub returns : goal.returns
returns c = record {
  route = c.new_task_post.ensures.route;
  path = c.new_task_post.ensures.path;
  body = subst (λ text. reading text ≡ body_data c.args.batch.now c.args.line) (sym c.new_task_post.ensures.body) c.in_ok-body.ensures;
}
