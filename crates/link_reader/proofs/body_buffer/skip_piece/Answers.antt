use Rattle.std.proofs.Common.{◌≤◌, length, arith}
use Rattle.std.proofs.lemmas.Grind.{common_steps}
use Rattle.link_reader.proofs.PieceLemmas.{forgotten}
use Rattle.link_reader.proofs.body_buffer.skip_piece.Goals as goal

pub returns : goal.returns
returns g c =
    let room : length c.read.new.into ≤ c.args.most = grind (arith, common_steps) in
    forgotten c.read.result c.read.new.into room c.read.ensures
