-- One round more is posted.
use Rattle.std.proofs.Common.{◌+◌, length, arith}
use Rattle.board_workers.proofs.Following.{reads_none, reads_on}
use Rattle.board_workers.proofs.rounds.run_rounds.Goals as goal

pub loop-round-init : goal.loop-round-init
loop-round-init g c = record { may = c.requires.may; reads = reads_none (length c.args.server.now.turnstiles.items) _ }

pub loop-round-preserved : goal.loop-round-preserved
loop-round-preserved g c = record {
  may = c.post_all-passes.ensures.may c.loop-round._round (omega (arith, c.loop-round-test.true, c.requires.rounds)) c.loop-round.invariant.may;
  reads = reads_on (length c.args.server.now.turnstiles.items) _ _ _ c.loop-round.invariant.reads c.post_all-passes.ensures.reads;
}

pub returns-then-wait_round-clause-may : goal.returns-then-wait_round-clause-may
returns-then-wait_round-clause-may g c =
    (c.loop-round._round + 1, c.post_all-passes.ensures.may c.loop-round._round (omega (arith, c.loop-round-test.true, c.requires.rounds)) c.loop-round.invariant.may)

pub returns-then-wait_round-clause-reads : goal.returns-then-wait_round-clause-reads
returns-then-wait_round-clause-reads g c =
    reads_on (length c.args.server.now.turnstiles.items) _ _ _ c.loop-round.invariant.reads c.post_all-passes.ensures.reads
