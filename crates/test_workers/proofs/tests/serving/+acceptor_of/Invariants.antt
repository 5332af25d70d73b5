use Rattle.std.proofs.Common.{length}
use Rattle.test_workers.proofs.tests.serving.+acceptor_of.Given as goal

abbrev pub decreases-acceptor_of : goal.decreases-acceptor_of
decreases-acceptor_of l = length l.links.now
