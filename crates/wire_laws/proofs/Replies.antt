-- Each reply to a call is told.
use Rattle.std.proofs.Common.{◌≡◌, ℕ, List, sym, subst}
use Rattle.wire_laws.specs.Types.{Reply, Route}
use Rattle.swarm_model.specs.declared.reply.Reply.TheVariants as reply
use Rattle.routes.specs.declared.route.Route.TheVariants as route
use Rattle.wire_laws.specs.Told.{IsTold, RepliesAreTold}
use Rattle.wire_laws.proofs.SimpleReplies.{canceled_is_told, updated_is_told, put_is_told, noted_is_told, terminating_is_told, shaken_is_told, count_is_told, sleep_is_told, claim_hint_is_told, terminate_is_told, skip_is_told}
use Rattle.wire_laws.proofs.RefusalReplies.{refusal_is_told}
use Rattle.wire_laws.proofs.TaskReplies.{new_is_told, result_is_told}
use Rattle.wire_laws.proofs.BotReplies.{bot_is_told}
use Rattle.wire_laws.proofs.PageReplies.{tasks_is_told, bots_is_told}
use Rattle.wire_laws.proofs.BlobReplies.{stdout_is_told, blob_is_told, missing_is_told}
use Rattle.wire_laws.proofs.RunReplies.{run_is_told}

-- on the call that it answers
on : (call other : Route) (place : ℕ) (r : Reply) (pieces : List (List ℕ)) → call ≡ other → IsTold other place r pieces → IsTold call place r pieces
on call other place r pieces e h = subst (λ (c : Route). IsTold c place r pieces) (sym e) h

pub replies_told : RepliesAreTold
replies_told call place (reply.New task state) pieces is fits = on call route.NewTask place (reply.New task state) pieces is (new_is_told place task state pieces fits.0 fits.1)
replies_told call place (reply.Canceled canceled was_running) pieces is fits = on call route.CancelTask place (reply.Canceled canceled was_running) pieces is (canceled_is_told place canceled was_running pieces)
replies_told call place (reply.Result task) pieces is fits = on call route.GetResult place (reply.Result task) pieces is (result_is_told place task pieces fits.0 fits.1)
replies_told call place (reply.Stdout state parts) pieces is fits = on call route.GetStdout place (reply.Stdout state parts) pieces is (stdout_is_told place state parts pieces fits)
replies_told call place (reply.Tasks items cursor) pieces is fits = on call route.ListTasks place (reply.Tasks items cursor) pieces is (tasks_is_told place items cursor pieces fits.0 fits.1 fits.2)
replies_told call place (reply.Count count) pieces is fits = on call route.CountTasks place (reply.Count count) pieces is (count_is_told place count pieces fits)
replies_told call place (reply.Shaken bot) pieces is fits = on call route.Handshake place (reply.Shaken bot) pieces is (shaken_is_told place bot pieces fits)
replies_told call place (reply.Sleep secs) pieces is fits = on call route.Poll place (reply.Sleep secs) pieces is (sleep_is_told place secs pieces fits)
replies_told call place reply.ClaimHint pieces is fits = on call route.Poll place reply.ClaimHint pieces is (claim_hint_is_told place pieces)
replies_told call place reply.Terminate pieces is fits = on call route.Poll place reply.Terminate pieces is (terminate_is_told place pieces)
replies_told call place (reply.Run task try_no slice tolerance properties) pieces is fits =
    on call route.Claim place (reply.Run task try_no slice tolerance properties) pieces is (run_is_told place task try_no slice tolerance properties pieces fits.0 fits.1 fits.2 fits.3 fits.4)
replies_told call place reply.Skip pieces is fits = on call route.Claim place reply.Skip pieces is (skip_is_told place pieces)
replies_told call place reply.Noted pieces is fits = on call route.Event place reply.Noted pieces is (noted_is_told place pieces)
replies_told call place (reply.Updated must_stop) pieces is fits = on call route.TaskUpdate place (reply.Updated must_stop) pieces is (updated_is_told place must_stop pieces)
replies_told call place reply.Terminating pieces is fits = on call route.TerminateBot place reply.Terminating pieces is (terminating_is_told place pieces)
replies_told call place (reply.Bots items cursor) pieces is fits = on call route.ListBots place (reply.Bots items cursor) pieces is (bots_is_told place items cursor pieces fits.0 fits.1 fits.2)
replies_told call place (reply.Bot bot) pieces is fits = on call route.GetBot place (reply.Bot bot) pieces is (bot_is_told place bot pieces fits.0 fits.1)
replies_told call place (reply.Put fresh) pieces is fits = on call route.PutBlob place (reply.Put fresh) pieces is (put_is_told place fresh pieces)
replies_told call place (reply.Blob digest size) pieces is fits = on call route.GetBlob place (reply.Blob digest size) pieces is (blob_is_told place digest size pieces fits)
replies_told call place (reply.Missing blobs) pieces is fits = on call route.FindMissing place (reply.Missing blobs) pieces is (missing_is_told place blobs pieces fits)
replies_told call place (reply.No why) pieces is fits = refusal_is_told call place why pieces fits.0 fits.1
