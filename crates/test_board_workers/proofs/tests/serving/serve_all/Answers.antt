-- The machine of a pool can be sent to the thread of a worker.
use denote.Param.Send.{sendable}
use Rattle.swarm_machine.proofs.Sending.{pool_send}
use Rattle.test_board_workers.proofs.tests.serving.serve_all.Goals as goal

pub serve_with_boards-requires-send-M : goal.serve_with_boards-requires-send-M
serve_with_boards-requires-send-M g c κs within = search (pool_send, sendable) depth 20
