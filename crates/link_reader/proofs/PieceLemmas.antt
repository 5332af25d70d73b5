-- A body, as far as it has been read.
use Rattle.std.proofs.Common.{◌≡◌, ℕ, ◌+◌, ◌-◌, ◌<◌, ◌≤◌, List, [], ◌++◌, length, take, drop, arith, refl, sym, ap, ◌∙◌, append_assoc, append-nil, length-append, Option, Some, None, Result, Ok, Err, Bool, true, false, if◌then◌else◌, subst}
use Rattle.std.proofs.lemmas.List.{take-append-drop, take-append-le, take-take, drop-drop, drop_all, length-take, length-take-le, length-drop}
use Rattle.std.proofs.Math.Seq.{take-add}
use Rattle.sw_base.specs.Link.{LinkState, IsClean, Moves, SameOutput, Reads}
use Rattle.sw_base.proofs.Moving.{Moves-trans, Moves-refl, SameOutput-refl, SameOutput-trans, clean_still}
use Rattle.link_reader.specs.declared.body_end.BodyEnd.TheVariants.{Ended}
use Rattle.link_reader.specs.Bodies.{ReadsBody}
use Rattle.link_reader.specs.Pieces.{IsKept, TakesPiece}

pub record SoFar (before now : LinkState) (old pending : List ℕ) (head size got : ℕ) (kept : Option (List ℕ)) : Type 0 where
  pub taken : List ℕ
  pub front : List ℕ
  pub moves : Moves before now taken []
  pub output : SameOutput before now
  pub faults : now.read_faults ≡ before.read_faults
  pub input_is : old ++ taken ≡ take head old ++ (front ++ pending)
  pub kept_is : IsKept kept front
  pub got_is : length front ≡ got
  pub within : got ≤ size
  pub used : got < size → pending ≡ []

pub begun : (s : LinkState) (old pending piece : List ℕ) (head size got : ℕ) (kept : Option (List ℕ))
    → pending ≡ drop (head + got) old → piece ≡ take got (drop head old) → IsKept kept piece
    → head + got ≤ length old → got ≤ size → (got < size → length old ≤ head + got)
    → SoFar s s old pending head size got kept
begun s old pending piece head size got kept after is keep fits within used = record {
  taken = [];
  front = take got (drop head old);
  moves = Moves-refl s;
  output = SameOutput-refl s;
  faults = refl;
  input_is = append-nil old ∙ sym (take-append-drop head old)
      ∙ ap (λ l. take head old ++ l) (sym (take-append-drop got (drop head old)) ∙ ap (λ l. take got (drop head old) ++ l) (drop-drop got head old ∙ sym after));
  kept_is = subst (IsKept kept) is keep;
  got_is = length-take-le got (drop head old) (omega (arith, length-drop head old));
  within = within;
  used = λ less. after ∙ drop_all (head + got) old (used less);
}

pub one_more : {E : Type 0} {s t u : LinkState} {old pending : List ℕ} {head size got : ℕ} {kept more : Option (List ℕ)} {result : Result ℕ E}
    → SoFar s t old pending head size got kept → got < size → (p : TakesPiece t u kept more (size - got) result)
    → length p.taken ≤ size - got → u.read_faults ≡ t.read_faults
    → SoFar s u old pending head size (got + length p.taken) more
one_more {old = old} {pending = pending} {head = head} {size = size} {got = got} x less p bound well =
    let none : pending ≡ [] = x.used less in
    let join : old ++ (x.taken ++ p.taken) ≡ take head old ++ ((x.front ++ p.taken) ++ pending) =
    sym (append_assoc old x.taken p.taken) ∙ ap (λ l. l ++ p.taken) (x.input_is ∙ ap (λ l. take head old ++ (x.front ++ l)) none ∙ ap (λ l. take head old ++ l) (append-nil x.front))
    ∙ append_assoc (take head old) x.front p.taken ∙ ap (λ l. take head old ++ l) (sym (append-nil (x.front ++ p.taken)) ∙ ap (λ l. (x.front ++ p.taken) ++ l) (sym none))
    in record {
      taken = x.taken ++ p.taken;
      front = x.front ++ p.taken;
      moves = Moves-trans x.moves p.moves;
      output = SameOutput-trans x.output p.output;
      faults = well ∙ x.faults;
      input_is = join;
      kept_is = p.keeps x.front x.kept_is;
      got_is = omega (arith, length-append x.front p.taken, x.got_is);
      within = omega (arith, x.within);
      used = λ _. none;
    }

pub still_clean : {s t : LinkState} {old pending : List ℕ} {head size got : ℕ} {kept : Option (List ℕ)} → SoFar s t old pending head size got kept → IsClean s → IsClean t
still_clean x clean = clean_still x.output clean

-- the input ended in the body: fewer bytes of it came than its head told
pub ended : {E : Type 0} {s t u : LinkState} {old pending : List ℕ} {head size got n : ℕ} {kept more : Option (List ℕ)}
    → SoFar s t old pending head size got kept → got < size → TakesPiece {E = E} t u kept more (size - got) (Ok n) → n ≡ 0
    → ReadsBody {E = E} s u old pending head size (Ok Ended)
ended {s = s} {u = u} {old = old} {pending = pending} {head = head} {size = size} {got = got} {more = more} x less p zero =
    let nothing : length p.taken ≡ 0 = p.outcome.0 ∙ zero in
    let none : pending ≡ [] = x.used less in
    let y : SoFar s u old pending head size (got + length p.taken) more = one_more x less p (omega arith) p.faults in
    record {
      taken = y.taken;
      moves = y.moves;
      output = y.output;
      faults = y.faults;
      outcome = (
        p.outcome.2 zero,
        record {
          front = y.front;
          input_is = y.input_is ∙ ap (λ l. take head old ++ (y.front ++ l)) none ∙ ap (λ l. take head old ++ l) (append-nil y.front);
          short = omega (arith, y.got_is, nothing);
        },
        none,
      );
    }

-- a read whose bytes are forgotten
pub forgotten : {E : Type 0} {s t : LinkState} {most : ℕ} (result : Result ℕ E) (into : List ℕ) → length into ≤ most
    → Reads {E = E} s t result into → TakesPiece {E = E} s t None None most result
forgotten (Ok n) into room r = record {
  taken = take n into;
  moves = r.moves;
  output = r.output;
  faults = r.faults;
  keeps = λ bytes is. tt;
  outcome = (length-take-le n into r.bound, omega (arith, r.bound), r.end);
}
forgotten (Err e) into room r = record {
  taken = [];
  moves = r.moves;
  output = r.output;
  faults = r.faults;
  keeps = λ bytes is. tt;
  outcome = refl;
}

-- the first bytes stay where more are put behind them, or none
pub front_stays : (grows : Bool) (bytes more new : List ℕ) (front size : ℕ) → front ≤ size → front ≤ length bytes
    → new ≡ (if grows then take size bytes ++ more else bytes) → take front new ≡ take front bytes
front_stays true bytes more new front size order within is =
    ap (λ l. take front l) is ∙ take-append-le front (take size bytes) more (omega (arith, length-take size bytes)) ∙ take-take front size bytes order
front_stays false bytes more new front size order within is = ap (λ l. take front l) is

-- a read behind the bytes that are kept: those of it that came are kept too
pub kept_behind : {E : Type 0} {s t : LinkState} (whole : Bool) (old : Option (List ℕ)) (before new : List ℕ) (filled most n : ℕ)
    → (if whole then Some (take filled before) else None) ≡ old → whole ≡ true → take filled new ≡ take filled before → length new ≤ filled + most
    → Reads {E = E} s t (Ok n) (drop filled new)
    → TakesPiece {E = E} s t old (if whole then Some (take (filled + n) new) else None) most (Ok n)
kept_behind false old before new filled most n view is same room r = absurd (cc)
kept_behind true old before new filled most n view is same room r = record {
  taken = take n (drop filled new);
  moves = r.moves;
  output = r.output;
  faults = r.faults;
  keeps = λ bytes is.
      let now : take filled before ≡ bytes = subst (λ o. IsKept o bytes) (sym view) is in
      take-add filled n new ∙ ap (λ l. l ++ take n (drop filled new)) (same ∙ now);
  outcome = (length-take-le n (drop filled new) r.bound, omega (arith, r.bound, length-drop filled new), r.end);
}
