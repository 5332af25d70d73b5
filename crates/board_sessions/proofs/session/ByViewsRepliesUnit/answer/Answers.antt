use Rattle.board_sessions.proofs.session.ByViewsRepliesUnit.answer.Goals as goal

pub answer_request-requires-clause-pools : goal.answer_request-requires-clause-pools
answer_request-requires-clause-pools g c = c.requires.may.1

pub returns-clause-does : goal.returns-clause-does
returns-clause-does g c = c.answer_request.ensures.answers

pub returns-clause-may : goal.returns-clause-may
returns-clause-may g c = λ n m. c.answer_request.ensures.pools
