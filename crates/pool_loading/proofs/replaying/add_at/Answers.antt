use Rattle.pool_loading.proofs.replaying.add_at.Goals as goal

pub returns-in-Err-Refused-clause-adds : goal.returns-in-Err-Refused-clause-adds
returns-in-Err-Refused-clause-adds g c = tt
