-- Where there is a reply, and where there is none.
use Rattle.std.proofs.Common.{map, min, ◌≡◌, ℕ, ◌≤◌, List, [], ◌++◌, length, take, drop, Option, Some, None, IfSome, Result, Ok, Err, refl, sym, ap, ◌∙◌, arith, append_assoc, append-nil, length-append, subst}
use Rattle.std.proofs.lemmas.List.{take-append-drop, take-append-le, append_cancel_left, length-map, length-take}
use Rattle.std.proofs.Math.Seq.{take-append_seam}
use Rattle.std.specs.Io.KnownBytes.{IsAtEnd}
use Rattle.httparse.specs.Grammar.{print_response, HasNoResponse, status_code}
use Rattle.httparse.proofs.GrammarLemmas.{response_unique, response_prefix_free}
use Rattle.sw_base.specs.Faults.{Rose, CountsFault}
use Rattle.sw_base.specs.Link.{LinkState, IsClean, Moves, SameOutput}
use Rattle.sw_base.proofs.Moving.{Moves-refl, Moves-trans, SameOutput-refl, SameOutput-trans, clean_still}
use Rattle.link_reader.specs.Bodies.{IsWhole, IsCut}
use Rattle.link_reader.specs.Heads.{Grows}
use Rattle.reply_reader.specs.declared.received.Received.{Received}
use Rattle.reply_reader.specs.declared.head.ReplyHead.{ReplyHead}
use Rattle.reply_reader.specs.Replies.{size_of, IsReply, HasNoReply}
use Rattle.reply_reader.specs.Reading.{IsHeadAt, EndsWithoutReply, Takes, TakesBody, Receives}

-- there is no reply, whatever follows
abbrev pub NeverReplies : List ℕ → Type 0
NeverReplies bytes = (more : List ℕ) → HasNoReply (bytes ++ more)

told : (bytes : List ℕ) (left : Option (List ℕ)) → NeverReplies bytes → IfSome left (λ l. HasNoReply (bytes ++ l))
told bytes None lost = tt
told bytes (Some l) lost = lost l

at_end : (bytes : List ℕ) (left : Option (List ℕ)) → IsAtEnd left → HasNoReply bytes → IfSome left (λ l. HasNoReply (bytes ++ l))
at_end bytes None end none = tt
at_end bytes (Some l) end none = subst (λ k. HasNoReply (bytes ++ k)) (sym end) (subst HasNoReply (sym (append-nil bytes)) none)

pub ended_early : (bytes : List ℕ) (after : LinkState) → NeverReplies bytes → EndsWithoutReply bytes after
ended_early bytes after lost = (subst HasNoReply (append-nil bytes) (lost []), told bytes after.left lost)

pub ended_at_end : (bytes : List ℕ) (after : LinkState) → IsAtEnd after.left → HasNoReply bytes → EndsWithoutReply bytes after
ended_at_end bytes after end none = (none, at_end bytes after.left end none)

-- a head that tells no size
pub lost_sizeless : {bytes : List ℕ} {code n : ℕ} {size : Option ℕ} → IsHeadAt bytes code n size → size ≡ None → NeverReplies bytes
lost_sizeless {bytes = bytes} {n = n} at is_none = λ more code body reply.
    let same = response_prefix_free bytes more at.head reply.head (drop n bytes) (body ++ reply.after) at.reads reply.is_head.reads in
    let none : size_of reply.head ≡ None = ap size_of (sym same.0) ∙ sym at.size_is ∙ is_none in
    cc (none, reply.size)

front : (head bytes rest more : List ℕ) → bytes ++ more ≡ head ++ rest → length head ≤ length bytes → bytes ≡ head ++ drop (length head) bytes
front head bytes rest more e le =
    let first : take (length head) bytes ≡ head =
    sym (take-append-le (length head) bytes more le) ∙ ap (take (length head)) e ∙ take-append_seam head rest in
    sym (take-append-drop (length head) bytes) ∙ ap (λ l. l ++ drop (length head) bytes) first

-- no head in as many bytes as a head may have
pub lost_long : {bytes : List ℕ} → HasNoResponse bytes → length bytes ≡ 16384 → NeverReplies bytes
lost_long {bytes = bytes} none long = λ more code body reply.
    none reply.head (drop (length (print_response reply.head)) bytes)
    (reply.is_head.reads.0, front (print_response reply.head) bytes (body ++ reply.after) more reply.is_head.reads.1 (omega (arith, reply.is_head.short)))

-- a body of the size that the head tells
pub reply_whole : {pending rest : List ℕ} {code n size : ℕ} (taken body : List ℕ) → length pending ≤ 16384 → IsHeadAt pending code n (Some size)
    → IsWhole (pending ++ taken) (take n pending) rest size body → (more : List ℕ) → IsReply ((pending ++ taken) ++ more) code body
reply_whole {pending = pending} {rest = rest} {n = n} {size = size} taken body short at whole more =
    let text : take n pending ≡ print_response at.head =
    ap (take n) at.reads.1 ∙ ap (λ k. take k (print_response at.head ++ drop n pending)) at.len ∙ take-append_seam (print_response at.head) (drop n pending) in
    let is : (pending ++ taken) ++ more ≡ print_response at.head ++ (body ++ (rest ++ more)) =
    ap (λ l. l ++ more) (whole.input_is ∙ ap (λ l. l ++ (body ++ rest)) text)
    ∙ append_assoc (print_response at.head) (body ++ rest) more
    ∙ ap (λ l. print_response at.head ++ l) (append_assoc body rest more) in
    record {
      head = at.head;
      after = rest ++ more;
      is_head = record { reads = (at.reads.0, is); short = omega (arith, at.len, at.within); few = at.few };
      size = sym at.size_is ∙ ap Some (sym whole.length_is);
      code_is = at.code_is;
    }

-- a body that is cut short
pub lost_cut : {pending : List ℕ} {code n size : ℕ} (taken : List ℕ) → IsHeadAt pending code n (Some size) → IsCut (pending ++ taken) (take n pending) size → HasNoReply (pending ++ taken)
lost_cut {pending = pending} {n = n} {size = size} taken at cut = λ code body reply.
    let same = response_prefix_free pending taken at.head reply.head (drop n pending) (body ++ reply.after) at.reads reply.is_head.reads in
    let sizes : Some size ≡ Some (length body) = at.size_is ∙ ap size_of same.0 ∙ reply.size in
    let size_is : size ≡ length body = cc in
    let rest : drop n pending ++ taken ≡ cut.front =
    append_cancel_left (take n pending) (drop n pending ++ taken) cut.front
    (sym (append_assoc (take n pending) (drop n pending) taken) ∙ ap (λ l. l ++ taken) (take-append-drop n pending) ∙ cut.input_is) in
    let all : cut.front ≡ body ++ reply.after = sym rest ∙ same.1 in
    omega (arith, cut.short, ap length all, length-append body reply.after)

-- no more fields than there was room for
pub few_fields : {A B C : Type 0} (f : A → C) (g : B → C) (xs : List A) (ys : List B) (n : ℕ) → map f (take n xs) ≡ map g ys → length xs ≤ 64 → length ys ≤ 64
few_fields f g xs ys n e le =
    let same : length ys ≡ min n (length xs) = sym (length-map ys g) ∙ ap length (sym e) ∙ length-map (take n xs) f ∙ length-take n xs in
    omega arith

-- reads so far, of which none failed
pub record SoFar (before now : LinkState) (pending : List ℕ) : Type 0 where
  pub moves : Moves before now pending []
  pub output : SameOutput before now
  pub well : now.read_faults ≡ before.read_faults

pub none_read : (s : LinkState) (pending : List ℕ) → pending ≡ [] → SoFar s s pending
none_read s pending none = record { moves = subst (λ p. Moves s s p []) (sym none) (Moves-refl s); output = SameOutput-refl s; well = refl }

grown : {s t u : LinkState} {old new : List ℕ} → Moves s t old [] → Grows t u old new → Moves s u new []
grown {s = s} {u = u} m g = subst (λ p. Moves s u p []) (sym g.grown) (Moves-trans m g.moves)

pub one_more : {s t u : LinkState} {old new : List ℕ} → SoFar s t old → Grows t u old new → u.read_faults ≡ t.read_faults → SoFar s u new
one_more x g well = record { moves = grown x.moves g; output = SameOutput-trans x.output g.output; well = well ∙ x.well }

pub still_clean : {s t : LinkState} {pending : List ℕ} → SoFar s t pending → IsClean s → IsClean t
still_clean x clean = clean_still x.output clean

-- what a call took that failed no read
pub taken_well : {T E : Type 0} {s t : LinkState} {pending : List ℕ} → SoFar s t pending → (v : T) → Takes {E = E} s t pending (Ok v)
taken_well x v = record { moves = x.moves; output = x.output; faults = x.well }

-- the last read failed
pub taken_ill : {T E : Type 0} {s t u : LinkState} {old new : List ℕ} → SoFar s t old → Grows t u old new → Rose t.read_faults u.read_faults → (e : E) → Takes {T = T} s u new (Err e)
taken_ill {u = u} x g rose e = record { moves = grown x.moves g; output = SameOutput-trans x.output g.output; faults = subst (λ n. Rose n u.read_faults) x.well rose }

-- what one call took that failed no read, and then another
pub taken_both : {T U E F : Type 0} {s t u : LinkState} {x y : List ℕ} {v : T} {r : Result U F} → Takes {E = E} s t x (Ok v) → Takes t u y r → Takes s u (x ++ y) r
taken_both {u = u} {r = r} a b = record {
  moves = Moves-trans a.moves b.moves;
  output = SameOutput-trans a.output b.output;
  faults = subst (λ n. CountsFault r n u.read_faults) a.faults b.faults;
}

-- the head was read, and then the body
pub read_both : {E F : Type 0} {s t u : LinkState} {pending : List ℕ} {h : ReplyHead} {v : Option ReplyHead} {result : Result Received F} → Takes {E = E} s t pending (Ok v) → length pending ≤ 16384
    → IsHeadAt pending h.code h.len (Some h.size) → TakesBody t u pending h result → Receives s u result
read_both {pending = pending} a short at b = record {
  taken = pending ++ b.taken;
  takes = taken_both a b.takes;
  outcome = b.outcome short at;
}

-- the bytes begin with one reply at most
pub reply_unique : (bytes : List ℕ) (code other : ℕ) (body text : List ℕ) → IsReply bytes code body → IsReply bytes other text → (code ≡ other) × (body ≡ text)
reply_unique bytes code other body text x y =
    let same = response_unique bytes x.head y.head (body ++ x.after) (text ++ y.after) x.is_head.reads y.is_head.reads in
    let sizes : Some (length body) ≡ Some (length text) = sym x.size ∙ ap size_of same.0 ∙ y.size in
    let size : length body ≡ length text = cc in (
      x.code_is ∙ ap status_code same.0 ∙ sym y.code_is,
      sym (take-append_seam body x.after) ∙ ap (take (length body)) same.1 ∙ ap (λ n. take n (text ++ y.after)) size ∙ take-append_seam text y.after,
    )
