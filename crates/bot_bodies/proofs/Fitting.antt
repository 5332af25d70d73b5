-- Which requests of bots and on bots fit the pools of their names.
use Rattle.std.proofs.Common.{◌≡◌, ℕ, ◌≤◌, true, ◌||◌, List, [], length, Option, Some, None, Ok, ◌∙◌, sym, ap, le-leb}
use Rattle.std.specs.Result.{result_unwrap_or}
use Rattle.std.specs.Prelude.{IsTrue}
use Rattle.std.proofs.lemmas.Bool.{and_from}
use Rattle.dimensions.specs.Alike.{same, same_laws}
use Rattle.dimensions.specs.BotRules.{are_bot_checked, pool_of_bot}
use Rattle.dimensions.specs.declared.bot_dims.BotDims.{BotDims}
use Rattle.swarm_model.specs.declared.pool_settings.PoolSettings.{PoolSettings}
use Rattle.swarm_model.specs.declared.request.Request.TheVariants as ask
use Rattle.dimensions.specs.Rules.{is_empty}
use Rattle.swarm_model.specs.Fits.{fits_bot, fits_message, is_limit, is_name}
use Rattle.swarm_model.specs.declared.entry.EventKind.{EventKind}
use Rattle.task_props.specs.Digests.{digest_in}
use Rattle.task_props.specs.Sorted.{is_file, is_path}
use Rattle.task_checks.proofs.Digests.{is_digest-digest_in}
use Rattle.json_fields.specs.Digests.{or_no_digest}
use Rattle.bot_bodies.specs.BotCalls.{FitsNamed}

-- a bot with these dimensions fits each pool of their name
bot_fits : (bot : List ℕ) (dims : BotDims) → is_name bot ≡ true → are_bot_checked bot dims ≡ true → (pool : PoolSettings) → IsTrue (same pool.name (pool_of_bot dims)) → fits_bot pool bot dims ≡ true
bot_fits bot dims named checked pool is = and_from _ _ named (and_from _ _ checked (sym (same_laws.symm pool.name (pool_of_bot dims)) ∙ is))

pub handshake_fits : (bot session quarantined : List ℕ) (dims : BotDims) → is_name bot ≡ true → is_name session ≡ true → are_bot_checked bot dims ≡ true → length quarantined ≤ 256
    → FitsNamed (record { pool = pool_of_bot dims; request = ask.Handshake bot session dims quarantined })
handshake_fits bot session quarantined dims named fresh checked short = λ pool is.
    and_from _ _ (bot_fits bot dims named checked pool is) (and_from _ _ fresh (le-leb (length quarantined) 256 short))

pub poll_fits : (bot quarantined : List ℕ) (dims : BotDims) → is_name bot ≡ true → are_bot_checked bot dims ≡ true → length quarantined ≤ 256
    → FitsNamed (record { pool = pool_of_bot dims; request = ask.Poll bot dims quarantined })
poll_fits bot quarantined dims named checked short = λ pool is. and_from _ _ (bot_fits bot dims named checked pool is) (le-leb (length quarantined) 256 short)

pub claim_fits : (pool bot claim : List ℕ) → is_name bot ≡ true → is_name claim ≡ true → FitsNamed (record { pool = pool; request = ask.Claim bot claim })
claim_fits pool bot claim named fresh = λ _ _. and_from _ _ named fresh

pub event_fits : (pool bot message : List ℕ) (kind : EventKind) → is_name bot ≡ true → fits_message kind message ≡ true → FitsNamed (record { pool = pool; request = ask.Event bot kind message })
event_fits pool bot message kind named fitting = λ _ _. and_from _ _ named fitting

pub terminate_fits : (pool bot : List ℕ) → is_name bot ≡ true → FitsNamed (record { pool = pool; request = ask.Terminate bot })
terminate_fits pool bot named = λ _ _. named

pub get_bot_fits : (pool bot : List ℕ) → is_name bot ≡ true → FitsNamed (record { pool = pool; request = ask.Bot bot })
get_bot_fits pool bot named = λ _ _. named

pub list_bots_fits : (pool after : List ℕ) (limit : ℕ) → is_limit limit ≡ true → (is_empty after || is_name after) ≡ true → FitsNamed (record { pool = pool; request = ask.Bots limit after })
list_bots_fits pool after limit within named = λ _ _. and_from _ _ within named

-- a file with a path below a folder, a digest that was written and a size within the range
pub file_fits : (path text digest : List ℕ) (size : ℕ) → is_path path ≡ true → or_no_digest (digest_in text) ≡ Ok digest → size ≤ 16777216
    → is_file (record { path = path; digest = digest; size = size }) ≡ true
file_fits path text digest size named written within = and_from _ _ named (and_from _ _ (is_digest-digest_in text digest (found (digest_in text) written)) (le-leb size 16777216 within))
  where
    found : (o : Option (List ℕ)) → or_no_digest o ≡ Ok digest → o ≡ Some digest
    found None h = absurd (cc)
    found (Some d) h = ap (λ r. Some (result_unwrap_or r [])) h
