-- Replies of flags and numbers are told as they are.
use Rattle.std.proofs.Common.{ℕ, Bool, List, refl, ap, ◌∙◌}
use Rattle.std.specs.Prelude.{codes}
use Rattle.std.specs.Str.{IsUtf8}
use Rattle.json.proofs.Printed.Utf8.{IsUtf8-are_ascii}
use Rattle.serde_json.specs.Data.{object}
use Rattle.swarm_model.specs.declared.reply.Reply.TheVariants as reply
use Rattle.routes.specs.declared.route.Route.TheVariants as route
use Rattle.json_fields.specs.Fields.{present, required_text_in, optional_number_in, unknown_key}
use Rattle.reply_bodies.specs.Bodies.{body_of, reply_members}
use Rattle.server_calls.specs.Reading.{told_of, in_value}
use Rattle.server_calls.specs.Members.{with_keys, flag_in, whole_in as member_whole_in}
use Rattle.server_calls.specs.Tasks.{checked_cancel, cancel_flags_in, canceled_in, count_in}
use Rattle.server_calls.specs.Bots.{shaken_in, terminating_in, noted_in, updated_in}
use Rattle.server_calls.specs.Blobs.{put_in}
use Rattle.server_calls.specs.Commands.{sleep_in, polled_in, claimed_in}
use Rattle.wire_laws.specs.Fitting.{IsLong}
use Rattle.wire_laws.specs.Told.{IsTold}
use Rattle.wire_laws.proofs.Readable.{reading-compact_text}
use Rattle.wire_laws.proofs.MemberLemmas.{long_is}

pub canceled_is_told : (place : ℕ) (canceled was_running : Bool) (pieces : List (List ℕ)) → IsTold route.CancelTask place (reply.Canceled canceled was_running) pieces
unfolding told_of body_of canceled_in checked_cancel cancel_flags_in flag_in with_keys unknown_key present
canceled_is_told place canceled was_running pieces =
    ap (in_value canceled_in) (reading-compact_text (object (reply_members place (reply.Canceled canceled was_running) pieces)) (refl, refl, (tt, (tt, tt))))

pub updated_is_told : (place : ℕ) (must_stop : Bool) (pieces : List (List ℕ)) → IsTold route.TaskUpdate place (reply.Updated must_stop) pieces
unfolding told_of body_of updated_in flag_in with_keys unknown_key present
updated_is_told place must_stop pieces =
    ap (in_value updated_in) (reading-compact_text (object (reply_members place (reply.Updated must_stop) pieces)) (refl, refl, (tt, tt)))

pub put_is_told : (place : ℕ) (fresh : Bool) (pieces : List (List ℕ)) → IsTold route.PutBlob place (reply.Put fresh) pieces
unfolding told_of body_of put_in flag_in with_keys unknown_key present
put_is_told place fresh pieces =
    ap (in_value put_in) (reading-compact_text (object (reply_members place (reply.Put fresh) pieces)) (refl, refl, (tt, tt)))

pub noted_is_told : (place : ℕ) (pieces : List (List ℕ)) → IsTold route.Event place reply.Noted pieces
unfolding told_of body_of noted_in with_keys unknown_key
noted_is_told place pieces = ap (in_value noted_in) (reading-compact_text (object (reply_members place reply.Noted pieces)) (refl, refl, tt))

pub terminating_is_told : (place : ℕ) (pieces : List (List ℕ)) → IsTold route.TerminateBot place reply.Terminating pieces
unfolding told_of body_of terminating_in with_keys unknown_key
terminating_is_told place pieces = ap (in_value terminating_in) (reading-compact_text (object (reply_members place reply.Terminating pieces)) (refl, refl, tt))

pub shaken_is_told : (place : ℕ) (bot : List ℕ) (pieces : List (List ℕ)) → IsUtf8 bot → IsTold route.Handshake place (reply.Shaken bot) pieces
unfolding told_of body_of shaken_in with_keys unknown_key required_text_in present
shaken_is_told place bot pieces h = ap (in_value shaken_in) (reading-compact_text (object (reply_members place (reply.Shaken bot) pieces)) (refl, refl, (h, tt)))

pub count_is_told : (place count : ℕ) (pieces : List (List ℕ)) → IsLong count → IsTold route.CountTasks place (reply.Count count) pieces
unfolding told_of body_of count_in member_whole_in with_keys unknown_key optional_number_in present
count_is_told place count pieces h =
    ap (in_value count_in) (reading-compact_text (object (reply_members place (reply.Count count) pieces)) (refl, refl, (h, tt))) ∙ rw (long_is count h) refl

pub sleep_is_told : (place secs : ℕ) (pieces : List (List ℕ)) → IsLong secs → IsTold route.Poll place (reply.Sleep secs) pieces
unfolding told_of body_of polled_in sleep_in member_whole_in with_keys unknown_key required_text_in optional_number_in present
sleep_is_told place secs pieces h =
    ap (in_value polled_in) (reading-compact_text (object (reply_members place (reply.Sleep secs) pieces)) (refl, refl, (IsUtf8-are_ascii (codes "sleep") refl, (h, tt))))
    ∙ rw (long_is secs h) refl

pub claim_hint_is_told : (place : ℕ) (pieces : List (List ℕ)) → IsTold route.Poll place reply.ClaimHint pieces
unfolding told_of body_of polled_in with_keys unknown_key required_text_in present
claim_hint_is_told place pieces =
    ap (in_value polled_in) (reading-compact_text (object (reply_members place reply.ClaimHint pieces)) (refl, refl, (IsUtf8-are_ascii (codes "claim") refl, tt)))

pub terminate_is_told : (place : ℕ) (pieces : List (List ℕ)) → IsTold route.Poll place reply.Terminate pieces
unfolding told_of body_of polled_in with_keys unknown_key required_text_in present
terminate_is_told place pieces =
    ap (in_value polled_in) (reading-compact_text (object (reply_members place reply.Terminate pieces)) (refl, refl, (IsUtf8-are_ascii (codes "terminate") refl, tt)))

pub skip_is_told : (place : ℕ) (pieces : List (List ℕ)) → IsTold route.Claim place reply.Skip pieces
unfolding told_of body_of claimed_in with_keys unknown_key required_text_in present
skip_is_told place pieces =
    ap (in_value claimed_in) (reading-compact_text (object (reply_members place reply.Skip pieces)) (refl, refl, (IsUtf8-are_ascii (codes "skip") refl, tt)))
