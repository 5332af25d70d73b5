-- What is written of a code is read as this code.
use Rattle.std.proofs.Common.{◌≡◌, Some, refl}
use Rattle.refusal_codes.specs.declared.refusal_code.RefusalCode.{RefusalCode}
use Rattle.refusal_codes.specs.declared.refusal_code.RefusalCode.TheVariants as code
use Rattle.refusal_codes.specs.Codes.{code_name, code_number, code_named, code_numbered}

pub name_is_read : (c : RefusalCode) → code_named (code_name c) ≡ Some c
unfolding code_named
name_is_read code.BadHead = refl
name_is_read code.LengthRequired = refl
name_is_read code.TooLarge = refl
name_is_read code.NoRoute = refl
name_is_read code.BadMethod = refl
name_is_read code.BadJson = refl
name_is_read code.BadField = refl
name_is_read code.NoCaller = refl
name_is_read code.Denied = refl
name_is_read code.NoPool = refl
name_is_read code.NoTask = refl
name_is_read code.NoBot = refl
name_is_read code.UuidReused = refl
name_is_read code.BotUnfit = refl
name_is_read code.BotBusy = refl
name_is_read code.ClaimOver = refl
name_is_read code.NotClaimant = refl
name_is_read code.AttemptOver = refl
name_is_read code.OutputGap = refl
name_is_read code.OutputOverlap = refl
name_is_read code.BlobMissing = refl
name_is_read code.DigestDiffers = refl
name_is_read code.StoreFull = refl
name_is_read code.PoolTasksFull = refl
name_is_read code.PoolBotsFull = refl
name_is_read code.LogFull = refl
name_is_read code.FrontAhead = refl
name_is_read code.KeeperFault = refl
name_is_read code.WantOfMemory = refl
name_is_read code.OutputGone = refl

pub number_is_read : (c : RefusalCode) → code_numbered (code_number c) ≡ Some c
unfolding code_numbered
number_is_read code.BadHead = refl
number_is_read code.LengthRequired = refl
number_is_read code.TooLarge = refl
number_is_read code.NoRoute = refl
number_is_read code.BadMethod = refl
number_is_read code.BadJson = refl
number_is_read code.BadField = refl
number_is_read code.NoCaller = refl
number_is_read code.Denied = refl
number_is_read code.NoPool = refl
number_is_read code.NoTask = refl
number_is_read code.NoBot = refl
number_is_read code.UuidReused = refl
number_is_read code.BotUnfit = refl
number_is_read code.BotBusy = refl
number_is_read code.ClaimOver = refl
number_is_read code.NotClaimant = refl
number_is_read code.AttemptOver = refl
number_is_read code.OutputGap = refl
number_is_read code.OutputOverlap = refl
number_is_read code.BlobMissing = refl
number_is_read code.DigestDiffers = refl
number_is_read code.StoreFull = refl
number_is_read code.PoolTasksFull = refl
number_is_read code.PoolBotsFull = refl
number_is_read code.LogFull = refl
number_is_read code.FrontAhead = refl
number_is_read code.KeeperFault = refl
number_is_read code.WantOfMemory = refl
number_is_read code.OutputGone = refl
