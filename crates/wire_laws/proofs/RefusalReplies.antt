-- A refusal is told by its code and its body.
use Rattle.std.proofs.Common.{Ordering, Less, Equal, Greater, ◌≡◌, ℕ, List, Some, refl, ap, ◌∙◌, arith}
use Rattle.std.specs.Prelude.{codes}
use Rattle.std.specs.Ordering.{nat_cmp}
use Rattle.std.specs.Cmp.Lexicographic.{slice_cmp}
use Rattle.serde_json.specs.Data.{Data, object, Members, no_members, member, put}
use Rattle.serde_json.specs.Find.{get_member}
use Rattle.refusal_codes.specs.declared.refusal_code.RefusalCode.TheVariants as code
use Rattle.refusal_codes.proofs.CodeLemmas.{name_is_read}
use Rattle.wire_laws.specs.Types.{Rule, Route}
use Rattle.swarm_model.specs.declared.rule.Rule.TheVariants as rule
use Rattle.swarm_model.specs.declared.reply.Reply.TheVariants as reply
use Rattle.json_fields.specs.Fields.{present, required_text_in}
use Rattle.reply_bodies.specs.Refusals.{code_of, told_members, refusal_members}
use Rattle.reply_bodies.specs.Bodies.{body_of}
use Rattle.server_calls.specs.Reading.{told_of, in_value}
use Rattle.server_calls.specs.Refusals.{refusal_in}
use Rattle.refusal_codes.specs.Codes.{code_name}
use Rattle.serde_json.specs.Data.{string}
use Rattle.wire_laws.specs.Fitting.{IsPlace, FitsRefusal}
use Rattle.wire_laws.specs.Told.{IsTold}
use Rattle.wire_laws.proofs.Readable.{IsReadable, reading-compact_text}
use Rattle.wire_laws.proofs.Words.{code_utf8, code_is_refused, state_utf8, permission_utf8, rule_utf8, unfit_utf8}
use Rattle.wire_laws.proofs.DigestTexts.{digest_utf8}
use Rattle.wire_laws.proofs.IdTexts.{task_id_utf8, run_id_utf8}

refusal_readable : (place : ℕ) → IsPlace place → (why : Rule) → FitsRefusal why → IsReadable 127 (object (refusal_members place why))
refusal_readable place p rule.BadHead h = (refl, refl, (code_utf8 code.BadHead, tt))
refusal_readable place p rule.LengthRequired h = (refl, refl, (code_utf8 code.LengthRequired, tt))
refusal_readable place p (rule.TooLarge limit) h = (refl, refl, (code_utf8 code.TooLarge, (omega (arith, h), tt)))
refusal_readable place p (rule.BadField field broken) h = (refl, refl, (code_utf8 code.BadField, (h, (rule_utf8 broken, tt))))
refusal_readable place p (rule.Denied permission pool) h = (refl, refl, (code_utf8 code.Denied, (permission_utf8 permission, (h, tt))))
refusal_readable place p (rule.UuidReused task) h = (refl, refl, (code_utf8 code.UuidReused, (task_id_utf8 place task p h, tt)))
refusal_readable place p (rule.BotUnfit why) h = (refl, refl, (code_utf8 code.BotUnfit, (unfit_utf8 why, tt)))
refusal_readable place p (rule.BotBusy task try_no) h = (refl, refl, (code_utf8 code.BotBusy, (run_id_utf8 place (task, try_no) p h, tt)))
refusal_readable place p (rule.ClaimOver task try_no state) h = (refl, refl, (code_utf8 code.ClaimOver, (run_id_utf8 place (task, try_no) p h, (state_utf8 state, tt))))
refusal_readable place p (rule.NotClaimant bot) h = (refl, refl, (h, (code_utf8 code.NotClaimant, tt)))
refusal_readable place p (rule.AttemptOver state) h = (refl, refl, (code_utf8 code.AttemptOver, (state_utf8 state, tt)))
refusal_readable place p (rule.OutputGap length) h = (refl, refl, (code_utf8 code.OutputGap, (omega (arith, h), tt)))
refusal_readable place p (rule.OutputOverlap start) h = (refl, refl, (code_utf8 code.OutputOverlap, (omega (arith, h), tt)))
refusal_readable place p (rule.BlobMissing digest) h = (refl, refl, (code_utf8 code.BlobMissing, (digest_utf8 digest h, tt)))
refusal_readable place p (rule.DigestDiffers actual) h = (refl, refl, (digest_utf8 actual h, (code_utf8 code.DigestDiffers, tt)))
refusal_readable place p (rule.StoreFull names size) h = (refl, refl, (code_utf8 code.StoreFull, (omega (arith, h.0), (omega (arith, h.1), tt))))
refusal_readable place p (rule.PoolTasksFull limit) h = (refl, refl, (code_utf8 code.PoolTasksFull, (omega (arith, h), tt)))
refusal_readable place p (rule.PoolBotsFull limit) h = (refl, refl, (code_utf8 code.PoolBotsFull, (omega (arith, h), tt)))
refusal_readable place p (rule.FrontAhead length) h = (refl, refl, (code_utf8 code.FrontAhead, (h, tt)))
refusal_readable place p (rule.OutputGone digest) h = (refl, refl, (code_utf8 code.OutputGone, (digest_utf8 digest h, tt)))
refusal_readable place p rule.NoRoute h = (refl, refl, (code_utf8 code.NoRoute, tt))
refusal_readable place p rule.BadMethod h = (refl, refl, (code_utf8 code.BadMethod, tt))
refusal_readable place p rule.BadJson h = (refl, refl, (code_utf8 code.BadJson, tt))
refusal_readable place p rule.NoCaller h = (refl, refl, (code_utf8 code.NoCaller, tt))
refusal_readable place p rule.NoPool h = (refl, refl, (code_utf8 code.NoPool, tt))
refusal_readable place p rule.NoTask h = (refl, refl, (code_utf8 code.NoTask, tt))
refusal_readable place p rule.NoBot h = (refl, refl, (code_utf8 code.NoBot, tt))
refusal_readable place p rule.LogFull h = (refl, refl, (code_utf8 code.LogFull, tt))
refusal_readable place p rule.KeeperFault h = (refl, refl, (code_utf8 code.KeeperFault, tt))
refusal_readable place p rule.WantOfMemory h = (refl, refl, (code_utf8 code.WantOfMemory, tt))

-- the code is found among the members
found_by : (l : List ℕ) (e d : Data) (ms : Members) (o : Ordering) → slice_cmp nat_cmp (codes "code") l ≡ o → get_member (codes "code") (put (codes "code") d ms) ≡ Some d
    → get_member (codes "code") (put (codes "code") d (member l e ms)) ≡ Some d
found_by l e d ms Less h more = rw h refl
found_by l e d ms Equal h more = rw h (rw h refl)
found_by l e d ms Greater h more = rw h (rw h more)

code_found : (d : Data) (ms : Members) → get_member (codes "code") (put (codes "code") d ms) ≡ Some d
code_found d no_members = refl
code_found d (member l e ms) = found_by l e d ms (slice_cmp nat_cmp (codes "code") l) refl (code_found d ms)

pub refusal_is_told : (call : Route) (place : ℕ) (why : Rule) (pieces : List (List ℕ)) → IsPlace place → FitsRefusal why → IsTold call place (reply.No why) pieces
unfolding told_of body_of refusal_in required_text_in present
refusal_is_told call place why pieces p h =
    let body = body_of place (reply.No why) pieces in
    rw (code_is_refused (code_of why))
    (ap (in_value (refusal_in body)) (reading-compact_text (object (refusal_members place why)) (refusal_readable place p why h))
    ∙ rw (code_found (string (code_name (code_of why))) (told_members place why), name_is_read (code_of why)) refl)
