use Rattle.std.proofs.Common.{◌≡◌, subst}
use Rattle.std.specs.Prelude.{IfOk}
use Rattle.swarm_http.specs.Replies.{Shown}
use Rattle.swarm_http.specs.Sends.{status_in, shown_in}
use Rattle.swarm_http.proofs.Blobs.{blob_shown}
use Rattle.swarm_http.proofs.reply.whole_reply.Goals as goal

pub returns-in-Blob-clause-text : goal.returns-in-Blob-clause-text
returns-in-Blob-clause-text c =
    subst (λ (it : Shown). IfOk c.blob_reply.result (λ s. shown_in s ≡ it))
    (blob_shown c.args.place c.args.front c.args.reply.now c.in-Blob.digest c.in-Blob.size c.args.pieces c.in-Blob.is c.status_of-status.ensures.status c.content_type-media_type.ensures c.first_piece-content.ensures)
    c.blob_reply.ensures.text

pub returns-in-Blob-clause-status : goal.returns-in-Blob-clause-status
returns-in-Blob-clause-status c = subst (λ n. IfOk c.blob_reply.result (λ s. status_in s ≡ n)) c.status_of-status.ensures.status c.blob_reply.ensures.status
