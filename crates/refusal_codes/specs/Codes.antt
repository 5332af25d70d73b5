-- The table of the codes: the number, the status and the name of each, by docs/protocol.md.
use Rattle.std.specs.Prelude.{ℕ, ◌==◌, Bool, true, false, List, [], ◌∷◌, Option, codes, nat_eq}
use Rattle.std.specs.List.{find}
use Rattle.std.specs.Cmp.Lexicographic.{pointwise}
use Rattle.refusal_codes.specs.declared.refusal_code.RefusalCode.{RefusalCode}
use Rattle.refusal_codes.specs.declared.refusal_code.RefusalCode.TheVariants as code

-- the number, the status (RFC 9110, section 15) and the name
abbrev pub code_row : RefusalCode → ℕ × ℕ × List ℕ
code_row code.BadHead = (1, 400, codes "bad_head")
code_row code.LengthRequired = (2, 411, codes "length_required")
code_row code.TooLarge = (3, 413, codes "too_large")
code_row code.NoRoute = (4, 404, codes "no_route")
code_row code.BadMethod = (5, 405, codes "bad_method")
code_row code.BadJson = (6, 400, codes "bad_json")
code_row code.BadField = (7, 400, codes "bad_field")
code_row code.NoCaller = (8, 401, codes "no_caller")
code_row code.Denied = (9, 403, codes "denied")
code_row code.NoPool = (10, 404, codes "no_pool")
code_row code.NoTask = (11, 404, codes "no_task")
code_row code.NoBot = (12, 404, codes "no_bot")
code_row code.UuidReused = (13, 409, codes "uuid_reused")
code_row code.BotUnfit = (14, 409, codes "bot_unfit")
code_row code.BotBusy = (15, 409, codes "bot_busy")
code_row code.ClaimOver = (16, 409, codes "claim_over")
code_row code.NotClaimant = (17, 403, codes "not_claimant")
code_row code.AttemptOver = (18, 409, codes "attempt_over")
code_row code.OutputGap = (19, 409, codes "output_gap")
code_row code.OutputOverlap = (20, 409, codes "output_overlap")
code_row code.BlobMissing = (21, 409, codes "blob_missing")
code_row code.DigestDiffers = (22, 400, codes "digest_differs")
code_row code.StoreFull = (23, 507, codes "store_full")
code_row code.PoolTasksFull = (24, 503, codes "pool_tasks_full")
code_row code.PoolBotsFull = (25, 503, codes "pool_bots_full")
code_row code.LogFull = (26, 503, codes "log_full")
code_row code.FrontAhead = (27, 409, codes "front_ahead")
code_row code.KeeperFault = (28, 503, codes "keeper_fault")
code_row code.WantOfMemory = (29, 503, codes "want_of_memory")
code_row code.OutputGone = (30, 410, codes "output_gone")

abbrev pub code_number : RefusalCode → ℕ
code_number code = (code_row code).0

abbrev pub code_status : RefusalCode → ℕ
code_status code = (code_row code).1

abbrev pub code_name : RefusalCode → List ℕ
code_name code = (code_row code).2

-- all codes, in the order of their numbers
abbrev pub all_codes : List RefusalCode
all_codes =
    code.BadHead ∷
    code.LengthRequired ∷
    code.TooLarge ∷
    code.NoRoute ∷
    code.BadMethod ∷
    code.BadJson ∷
    code.BadField ∷
    code.NoCaller ∷
    code.Denied ∷
    code.NoPool ∷
    code.NoTask ∷
    code.NoBot ∷
    code.UuidReused ∷
    code.BotUnfit ∷
    code.BotBusy ∷
    code.ClaimOver ∷
    code.NotClaimant ∷
    code.AttemptOver ∷
    code.OutputGap ∷
    code.OutputOverlap ∷
    code.BlobMissing ∷
    code.DigestDiffers ∷
    code.StoreFull ∷
    code.PoolTasksFull ∷
    code.PoolBotsFull ∷
    code.LogFull ∷
    code.FrontAhead ∷
    code.KeeperFault ∷
    code.WantOfMemory ∷
    code.OutputGone ∷
    []

-- the code that has the name
unfoldable pub code_named : List ℕ → Option RefusalCode
code_named name = find (λ code. pointwise nat_eq (code_name code) name) all_codes

-- the code that has the number
unfoldable pub code_numbered : ℕ → Option RefusalCode
code_numbered number = find (λ code. code_number code == number) all_codes

-- the pool could not act now: its log is full, its keeper failed, or there was no memory
abbrev pub is_transient_code : RefusalCode → Bool
is_transient_code code.LogFull = true
is_transient_code code.KeeperFault = true
is_transient_code code.WantOfMemory = true
is_transient_code other = false
