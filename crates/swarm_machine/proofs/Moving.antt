-- A deadline that is taken out, and one that is put in.
use Rattle.std.proofs.Common.{List, [], inl, inr, sym, ap, Option, Some, None}
use Rattle.std.proofs.lemmas.Option.{same_Some}
use Rattle.swarm_machine.specs.Types.{Deadline, PoolState}
use Rattle.pool_index.specs.QueuedDeadlines.{Adds, Removes}
use Rattle.index_laws.specs.BlobDeadlines.{AreBlobDeadlines, AreMoved}
use Rattle.swarm_machine.specs.Loading.{with_bots}

pub none_moved : (old : List Deadline) → AreMoved None None old old
none_moved old = record { each = λ x. (λ c. inr (c, λ e. cc (e)), λ h. elim h [ inl e ↦ absurd (cc (e)) | inr pair ↦ pair.0 ]) }

pub taken_out : (d : Deadline) (old new : List Deadline) → Removes d old new → AreMoved (Some d) None old new
taken_out d old new removes =
    record {
      each = λ x. (
        λ c. let pair = (removes.each x).0 c in inr (pair.0, λ e. pair.1 (sym (same_Some d x e))),
        λ h. elim h [ inl e ↦ absurd (cc (e)) | inr pair ↦ (removes.each x).1 (pair.0, λ e. pair.1 (ap (λ (y : Deadline). Some y) (sym e))) ],
      );
    }

pub put_in : (d : Deadline) (old new : List Deadline) → Adds d old new → AreMoved None (Some d) old new
put_in d old new adds =
    record {
      each = λ x. (
        λ c. elim ((adds.each x).0 c) [ inl e ↦ inl (ap (λ (y : Deadline). Some y) (sym e)) | inr a ↦ inr (a, λ e. cc (e)) ],
        λ h. elim h [ inl e ↦ (adds.each x).1 (inl (sym (same_Some d x e))) | inr pair ↦ (adds.each x).1 (inr pair.0) ],
      );
    }

-- first one goes, and then one comes
pub moved : (left come : Option Deadline) (old rest new : List Deadline) → AreMoved left None old rest → AreMoved None come rest new → AreMoved left come old new
moved left come old rest new out back =
    record {
      each = λ x. (
        λ c. elim ((back.each x).0 c) [
          | inl e ↦ inl e
          | inr pair ↦ elim ((out.each x).0 pair.0) [ inl e ↦ absurd (cc (e)) | inr own ↦ inr own ]
        ],
        λ h. elim h [ inl e ↦ (back.each x).1 (inl e) | inr own ↦ (back.each x).1 (inr ((out.each x).1 (inr own), λ e. cc (e))) ],
      );
    }

-- a pool without rows has no blob
pub no_blob_ends : (s : PoolState) → AreBlobDeadlines [] (with_bots s [])
no_blob_ends s = record { each = λ d. (λ c. c, λ c. c) }
