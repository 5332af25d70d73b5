use Rattle.region.proofs.Bands.{updated-greatest}
use Rattle.region.proofs.hole_sizes.update_band.Goals as goal

pub returns : goal.returns
returns c =
    record {
      indexed = updated-greatest c.args.sizes.now c.args.greatest.now c.args.unit c.requires.unit c.min-end.result c.greatest_of.result c.min-end.ensures
          c.greatest_of.ensures.bound c.greatest_of.ensures.reached c.requires.indexed;
    }
