use Rattle.std.proofs.Common.{◌∙◌, ap, drop}
use Rattle.std.proofs.Math.Seq.{drop-length}
use Rattle.swarm_http.proofs.request_reader.RequestReader.clear.Goals as goal

pub returns : goal.returns
returns c = c.remove_front.ensures ∙ ap (λ n. drop n c.args.self.now.pending) c.len-left.ensures.length ∙ drop-length c.args.self.now.pending
