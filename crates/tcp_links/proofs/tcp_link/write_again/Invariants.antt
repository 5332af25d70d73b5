use Rattle.std.specs.Io.KnownBytes.{Keeps}
use Rattle.tcp_links.proofs.tcp_link.write_again.Given as goal

abbrev pub invariant-loop : goal.invariant-loop
invariant-loop g l = Keeps (g.W.Write.contents l.fn.writer) (g.W.Write.contents l.writer)
