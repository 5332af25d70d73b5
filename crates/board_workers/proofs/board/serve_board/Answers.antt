-- What the board did.
use Rattle.board_workers.specs.Boards.{IsBoardSession}
use Rattle.board_workers.proofs.Telling.{served_told}
use Rattle.board_workers.proofs.board.serve_board.Goals as goal

pub returns : goal.returns
returns g c = served_told (λ x. g.V.Views.known x.0) IsBoardSession (g.A.Acceptor.state c.args.board.now.acceptor) _ _ _ c.args.connections c.serve_links-board.result c.serve_links-board.ensures
