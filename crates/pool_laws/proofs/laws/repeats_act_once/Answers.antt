-- Each answer is looked up by its conditions.
use Rattle.pool_laws.proofs.RepeatLaws.{new_task_law, uuid_taken_law, claim_again_law, claim_over_law, handshake_law, update_again_law, update_over_law, contact_law}
use Rattle.pool_laws.proofs.laws.repeats_act_once.Goals as goal

pub returns : goal.returns
returns c = record { new_task = new_task_law; uuid_taken = uuid_taken_law; claim = claim_again_law; claim_over = claim_over_law; handshake = handshake_law; update = update_again_law; update_over = update_over_law; contact = contact_law }
