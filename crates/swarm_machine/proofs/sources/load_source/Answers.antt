-- What was made ready is the link of the row.
use Rattle.std.proofs.Common.{◌≡◌, List, Option, ap, ◌∙◌, subst}
use Rattle.std.specs.Option.{option_map}
use Rattle.pool_index.specs.declared.source_link.SourceLink.{SourceLink}
use Rattle.pool_index.specs.Sources.{AreWith}
use Rattle.index_laws.specs.TaskSources.{link_under, source_of}
use Rattle.swarm_machine.proofs.sources.load_source.Goals as goal

pub returns : goal.returns
returns c =
    let task = c.args.task.now in
    let mid = c.prepare_hash.new.sources in
    let new = c.add.new.self.links in
    let ready : mid.ready ≡ source_of task = c.in_ok-prepare_hash.ensures.ready ∙ ap (option_map (link_under task)) c.in_ok-hash.ensures in
    subst (λ (links : List SourceLink). AreWith (source_of task) links new) c.prepare_hash.ensures.links
    (subst (λ (o : Option SourceLink). AreWith o mid.links new) ready c.add.ensures.links)
