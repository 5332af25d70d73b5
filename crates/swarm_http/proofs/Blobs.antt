-- The reply that is a blob.
use Rattle.std.proofs.Common.{◌≡◌, ℕ, List, [], ◌∷◌, refl, Option}
use Rattle.std.specs.Prelude.{get_or}
use Rattle.swarm_model.specs.declared.reply.Reply.{Reply}
use Rattle.swarm_model.specs.declared.reply.Reply.TheVariants as reply
use Rattle.reply_bodies.specs.Bodies.{body_of, content_type_of, status_of}
use Rattle.swarm_http.specs.Replies.{reply_with, shown}

-- its body is the first piece
blob_body : (place : ℕ) (digest : List ℕ) (size : ℕ) (pieces : List (List ℕ)) → body_of place (reply.Blob digest size) pieces ≡ get_or pieces 0 []
unfolding body_of
blob_body place digest size [] = refl
blob_body place digest size (piece ∷ pieces) = refl

pub blob_shown : (place : ℕ) (front : Option ℕ) (answered : Reply) (digest : List ℕ) (size : ℕ) (pieces : List (List ℕ)) {status : ℕ} {media_type content : List ℕ}
    → answered ≡ reply.Blob digest size → status ≡ status_of answered → media_type ≡ content_type_of answered → content ≡ get_or pieces 0 []
    → reply_with status media_type front content ≡ shown place front answered pieces
unfolding shown
blob_shown place front answered digest size pieces is s m c = rw (s, m, c, is, blob_body place digest size pieces) refl
