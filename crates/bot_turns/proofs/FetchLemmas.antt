-- Inputs that are fetched one after the other.
use Rattle.std.proofs.Common.{◌≡◌, ℕ, suc, ◌+◌, ◌<◌, length, take, drop, get_or, List, [], ◌∷◌, ◌++◌, refl, ap, subst}
use Rattle.std.specs.Prelude.{Ok, Err}
use Rattle.bot_turns.specs.Types.{File, Hands, BotEvent}
use Rattle.sw_base.specs.Dialers.{DialerState}
use Rattle.bot_turns.specs.Inputs.{FetchesFile, FetchesAll, FetchEnds}
use Rattle.bot_turns.proofs.SplitLemmas.{take_next, parts_at}

fetched_next : (h : Hands) (files : List File) (file : File) (bytes : List ℕ) (inputs : List (List ℕ × List ℕ)) (a b c : DialerState) →
    FetchesAll h files inputs a b → FetchesFile h file (Ok bytes) b c → FetchesAll h (files ++ file ∷ []) (inputs ++ (file.path, bytes) ∷ []) a c
fetched_next h [] file bytes inputs a b c f g =
    record { bytes = bytes; others = []; mid = c; fetches = subst (λ s. FetchesFile h file (Ok bytes) s c) f.1 g; rest = (refl, refl); is = ap (λ l. l ++ (file.path, bytes) ∷ []) f.0 }
fetched_next h (first ∷ files) file bytes inputs a b c f g =
    record {
      bytes = f.bytes;
      others = f.others ++ (file.path, bytes) ∷ [];
      mid = f.mid;
      fetches = f.fetches;
      rest = fetched_next h files file bytes f.others f.mid b c f.rest g;
      is = ap (λ l. l ++ (file.path, bytes) ∷ []) f.is;
    }

pub fetched_at : (h : Hands) (files : List File) (i : ℕ) (file : File) (bytes : List ℕ) (inputs : List (List ℕ × List ℕ)) (a b c : DialerState) →
    i < length files → file ≡ get_or files i file → FetchesAll h (take i files) inputs a b → FetchesFile h file (Ok bytes) b c → FetchesAll h (take (i + 1) files) (inputs ++ (file.path, bytes) ∷ []) a c
fetched_at h files i file bytes inputs a b c p q f g =
    subst (λ l. FetchesAll h l (inputs ++ (file.path, bytes) ∷ []) a c) (take_next files i file p q) (fetched_next h (take i files) file bytes inputs a b c f g)

pub ended_at : (h : Hands) (files : List File) (i : ℕ) (file : File) (e : BotEvent) (inputs : List (List ℕ × List ℕ)) (a b c : DialerState) →
    i < length files → file ≡ get_or files i file → FetchesAll h (take i files) inputs a b → FetchesFile h file (Err e) b c → FetchEnds h files e a c
ended_at h files i file e inputs a b c p q f g =
    record { done = take i files; file = file; left = drop (suc i) files; inputs = inputs; mid = b; parts = parts_at files i file p q; fetched = f; fails = g }
