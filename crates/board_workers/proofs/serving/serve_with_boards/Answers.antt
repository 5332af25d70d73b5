-- What the crews did, told of the closed logs.
use Rattle.std.proofs.Common.{◌≡◌, ◌+◌, ◌≤◌, ◌∙◌, length, map, ap, arith, refl, sym}
use Rattle.std.proofs.lemmas.List.{length-map}
use denote.Param.Send.{sendable}
use Rattle.shared_doors.specs.Machines.{lasting_in}
use Rattle.swarm_boards.specs.contracts.board_views.BoardViewsViews.TheImpl.{ghosts}
use Rattle.swarm_workers.proofs.Closing.{closed_begin, kept_at, none_past, settings_closed}
use Rattle.swarm_workers.proofs.Crewing.{as_many, below_map, same_settings, some_of}
use Rattle.swarm_workers.proofs.Serving.{gives_told}
use Rattle.swarm_workers.proofs.Slices.{map_both}
use Rattle.board_workers.specs.Crews.{fails_at_boards}
use Rattle.board_workers.proofs.Sending.{views_send}
use Rattle.board_workers.proofs.Shutting.{both_out}
use Rattle.board_workers.proofs.Splitting.{may_post}
use Rattle.board_workers.specs.Boards.{new_view}
use Rattle.board_workers.proofs.Views.{all_given, boards_viewed}
use Rattle.board_workers.proofs.Closing.{crew_alone, crew_served}
use Rattle.board_workers.proofs.serving.serve_with_boards.Goals as goal

pub serve_beside-stop-requires-send-V : goal.serve_beside-stop-requires-send-V
serve_beside-stop-requires-send-V g c κs within = search (views_send, sendable) depth 20

pub serve_beside-stop-requires-clause-some : goal.serve_beside-stop-requires-clause-some
serve_beside-stop-requires-clause-some g c κs within =
    some_of c.make_workers-crew.result.items c.make_workers-crew.result.items c.args.workers refl
    (as_many _ _ c.make_workers-crew.result.items c.in_ok-acceptors.acceptors.items c.args.workers c.make_workers-crew.ensures.acceptors c.in_ok-acceptors.ensures.number) c.requires.workers.0

pub serve_beside-stop-requires-clause-pools : goal.serve_beside-stop-requires-clause-pools
serve_beside-stop-requires-clause-pools g c κs within =
    boards_viewed ghosts.known (λ b. b.views) c.args.settings.now.pools c.make_boards-boards.result.items c.in_ok-server.field-0.views.items c.make_boards-boards.ensures.views c.in_ok-server.ensures.views

pub serve_beside-stop-requires-clause-may : goal.serve_beside-stop-requires-clause-may
serve_beside-stop-requires-clause-may g c κs within =
    may_post (lasting_in g.M.Machine.kept) _ c.args.workers c.args.settings.now.pools _ _ c.in_ok-server.ensures.posts c.in_ok-server.ensures.settings c.in_ok-server.ensures.posters

pub serve_beside-stop-requires-clause-out : goal.serve_beside-stop-requires-clause-out
serve_beside-stop-requires-clause-out g c κs within =
    let count = as_many _ _ c.make_workers-crew.result.items c.in_ok-acceptors.acceptors.items c.args.workers c.make_workers-crew.ensures.acceptors c.in_ok-acceptors.ensures.number in
    let board_count = ap length c.make_boards-boards.ensures.acceptors in
    let low : length c.make_workers-crew.result.items + length c.make_boards-boards.result.items ≤ c.args.workers + c.args.plan.boards =
    omega (arith, count, board_count, length-map c.make_boards-boards.result.items (λ b. b.acceptor), c.in-Ok.ensures.number) in
    both_out _ _ _ c.args.workers c.args.plan.boards _ c.in_ok-acceptors.ensures.out c.in-Ok.ensures.out low

pub unreachable-requires : goal.unreachable-requires
unreachable-requires g c =
    let out = c.in-Err-close.ensures.refused.2 in
    let count = as_many _ _ c.make_workers-crew.result.items c.in_ok-acceptors.acceptors.items c.args.workers c.make_workers-crew.ensures.acceptors c.in_ok-acceptors.ensures.number in
    out.2 (crew_alone _ _ _ _ c.args.connections c.args.plan.connections _ c.args.workers c.make_workers-crew.result.items c.make_boards-boards.result.items _ _ _ _ _
    (length-map _ _) count c.serve_beside-stop.ensures.served c.make_workers-crew.ensures.doors (c.make_workers-crew.ensures.made (c.args.workers + 1) c.in_ok-server.ensures.made) c.requires.workers.0
    (λ p low. c.in_ok-server.ensures.posts.new p low) out.0 (below_map _ _ out.0 out.1))

pub returns-in-Ok-close-clause-serves : goal.returns-in-Ok-close-clause-serves
returns-in-Ok-close-clause-serves g c =
    let state = g.N.Acceptor.Acceptor.state in
    let boards = c.make_boards-boards.result.items in
    let count = as_many _ _ c.make_workers-crew.result.items c.in_ok-acceptors.acceptors.items c.args.workers c.make_workers-crew.ensures.acceptors c.in_ok-acceptors.ensures.number in
    crew_served _ _ _ _ c.args.connections c.args.plan.connections _ c.args.workers c.make_workers-crew.result.items boards _ _ _ _ _
    (length-map _ _) count c.serve_beside-stop.ensures.served c.make_workers-crew.ensures.doors (c.make_workers-crew.ensures.made (c.args.workers + 1) c.in_ok-server.ensures.made) c.requires.workers.0
    (λ p low. c.in_ok-server.ensures.posts.new p low)
    state c.in_ok-acceptors.acceptors.items c.in-Ok.board_acceptors.items c.args.settings.now _ _ _ _ _ _
    (same_settings _ _ c.args.settings.now c.in_ok-server.ensures.store c.in_ok-server.ensures.settings) refl refl c.in_ok-acceptors.ensures c.in-Ok.ensures
    c.make_workers-crew.ensures.acceptors (sym (map_both state (λ b. b.acceptor) boards) ∙ ap (map state) c.make_boards-boards.ensures.acceptors)
    c.make_workers-crew.ensures.clocks
    (all_given (λ v. ghosts.known v ≡ map new_view c.args.settings.now.pools) (λ b. b.views) boards c.in_ok-server.field-0.views.items c.make_boards-boards.ensures.views c.in_ok-server.ensures.views)
    (kept_at (lasting_in g.M.Machine.kept) _ _ _ _ c.in-Ok-close.ensures.closed c.in_ok-server.ensures.opening)
    (none_past (lasting_in g.M.Machine.kept) _ _ _ _ c.in-Ok-close.ensures.closed)

pub returns-in-Ok-close-clause-pools : goal.returns-in-Ok-close-clause-pools
returns-in-Ok-close-clause-pools g c = settings_closed (lasting_in g.M.Machine.kept) _ _ _ _ c.in-Ok-close.ensures.closed ∙ c.in_ok-server.ensures.settings

pub returns-in-Ok-close-clause-starts : goal.returns-in-Ok-close-clause-starts
returns-in-Ok-close-clause-starts g c =
    closed_begin (lasting_in g.M.Machine.kept) _ _ _ _ _ c.in-Ok-close.ensures.closed c.in_ok-server.ensures.settings

pub returns-in-Err-clause-serves : goal.returns-in-Err-clause-serves
returns-in-Err-clause-serves g c =
    let state = g.N.Acceptor.Acceptor.state in
    fails_at_boards (record {
      acceptors = map state c.in_ok-acceptors.acceptors.items;
      between = g.N.Listener.state c.listen.new.self;
      refused = g.N.Listener.state c.listen-2.new.self;
      gives = gives_told state c.in_ok-acceptors.acceptors.items (map state c.in_ok-acceptors.acceptors.items) _ _ _ _ refl c.in_ok-acceptors.ensures;
      fails = c.in-Err.ensures;
      shuts = c.shut_all.ensures;
    })
