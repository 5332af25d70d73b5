-- What records keep after a call on their file.
use Rattle.std.proofs.Common.{◌≡◌, ◌∙◌, ℕ, ◌-◌, List, [], ◌∷◌, ◌++◌, length, take, Option, Some, None, option_map, IfSome, IsSomeAnd, ◌⊎◌, inl, inr, refl, sym, ap, subst, arith, length-append}
use Rattle.std.proofs.Math.Seq.{take-append_seam}
use Rattle.swarm_keeper.specs.Tables.{Tables, appended}
use Rattle.sqlite_keeper.specs.Files.{Alike, Knows, taken_out, Begins, Holds}
use Rattle.sqlite_keeper.specs.Kept.{Keeps, Looks}
use Rattle.sqlite_keeper.specs.declared.known.Known.{Known}
use Rattle.sqlite_keeper.specs.declared.known.Begun.{Begun}
use Rattle.sqlite_keeper.specs.declared.records.Records.{Records}
use Rattle.sqlite_keeper.specs.declared.standing.Standing.TheVariants.{Open, Shut}
use Rattle.sqlite_keeper.proofs.Blobs.{changed_same, put_back_all}

alike_after : {a b c : Tables} → Alike a b → Alike b c → Alike a c
alike_after h k = record { base = h.base ∙ k.base; count = h.count ∙ k.count; lines = h.lines ∙ k.lines; bytes = λ d. h.bytes d ∙ k.bytes d }

alike_knows : {k : Known} {a b : Tables} → Alike a b → Knows k b → Knows k a
alike_knows h k = record { count = k.count ∙ sym h.count; base_lines = k.base_lines ∙ ap length (sym h.base); lines = k.lines ∙ ap length (sym h.lines) }

pub alike_appended : (line : List ℕ) (add : Option (List ℕ)) (bytes : List ℕ) (remove : Option (List ℕ)) {a b : Tables} → Alike a b → Alike (appended line add bytes remove a) (appended line add bytes remove b)
alike_appended line add bytes remove {a = a} {b = b} h = record {
  base = h.base;
  count = h.count;
  lines = ap (λ xs. xs ++ line ∷ []) h.lines;
  bytes = changed_same add bytes remove a.blobs b.blobs h.bytes;
}

-- the last line goes as it came
last_taken : (xs : List (List ℕ)) (line : List ℕ) → take (length (xs ++ line ∷ []) - 1) (xs ++ line ∷ []) ≡ xs
last_taken xs line =
    let n : length (xs ++ line ∷ []) - 1 ≡ length xs = omega (arith, length-append xs (line ∷ [])) in
    rw n (take-append_seam xs (line ∷ []))

taken_alike : {b : Begun} {k : Known} {add : Option (List ℕ)} {remove : Option (List ℕ)} {s : Tables} (line bytes : List ℕ) → Begins b k add remove s → Alike (taken_out b (appended line add bytes remove s)) s
taken_alike {add = add} {remove = remove} {s = s} line bytes h = record {
  base = refl;
  count = refl;
  lines = last_taken s.lines line;
  bytes = λ d. rw (h.added, h.removed) (put_back_all s add bytes remove d);
}

pub appends : (o : Option Tables) (k : Known) (begun : Option Begun) (b : Begun) (add remove : Option (List ℕ)) (line bytes : List ℕ) → IfSome o (Begins b k add remove) → (t : Tables) → IsSomeAnd o (λ s. Holds Open k begun s t) → IsSomeAnd (option_map (appended line add bytes remove) o) (λ s. Holds Open b.known begun s (appended line add bytes remove t))
appends None k begun b add remove line bytes i t h = absurd h
appends (Some s) k begun b add remove line bytes i t h = record {
  knows = record {
    count = i.count ∙ h.knows.count;
    base_lines = i.base_lines ∙ h.knows.base_lines;
    lines = omega (arith, i.lines, h.knows.lines, length-append t.lines (line ∷ []));
  };
  alike = alike_appended line add bytes remove h.alike;
  unbegun = h.unbegun;
}

-- a call that failed, and doesn't stand
pub unchanged : (o : Option Tables) (k : Known) (begun : Option Begun) (b : Begun) (add remove : Option (List ℕ)) → IfSome o (Begins b k add remove) → (t : Tables) → IsSomeAnd o (λ s. Holds Open k begun s t) → IsSomeAnd o (λ s. Holds Shut k (Some b) s t)
unchanged None k begun b add remove i t h = absurd h
unchanged (Some s) k begun b add remove i t h = record {
  knows = h.knows;
  alike = λ _. h.alike;
  can = record {
    more = omega (arith, i.lines);
    taken = λ knows. absurd (omega (arith, i.lines, h.knows.lines, knows.lines, ap length h.alike.lines));
  };
}

-- and one that stands all the same
pub stands_appended : (o : Option Tables) (k : Known) (begun : Option Begun) (b : Begun) (add remove : Option (List ℕ)) (line bytes : List ℕ) → IfSome o (Begins b k add remove) → (t : Tables) → IsSomeAnd o (λ s. Holds Open k begun s t) → IsSomeAnd (option_map (appended line add bytes remove) o) (λ s. Holds Shut k (Some b) s t)
stands_appended None k begun b add remove line bytes i t h = absurd h
stands_appended (Some s) k begun b add remove line bytes i t h = record {
  knows = h.knows;
  alike = λ knows. absurd (omega (arith, h.knows.lines, knows.lines, ap length h.alike.lines, length-append s.lines (line ∷ [])));
  can = record {
    more = omega (arith, i.lines);
    taken = λ _. alike_after (taken_alike line bytes i) h.alike;
  };
}

as_open : {F : Type 0} (stands : F → Option Tables) (a : Records F) (t : Tables) → a.standing ≡ Open → Keeps stands a t → IsSomeAnd (stands a.file) (λ s. Holds Open a.known a.begun s t)
as_open stands a t is_open h = subst (λ x. IsSomeAnd (stands a.file) (λ s. Holds x a.known a.begun s t)) is_open h

-- after a call that was kept; `b` is after its begin
pub has_appended : {F : Type 0} (stands : F → Option Tables) (a b d : Records F) (n : Begun) (add remove : Option (List ℕ)) (line bytes : List ℕ) → a.standing ≡ Open → Looks stands a b → IfSome (stands a.file) (Begins n a.known add remove) → stands d.file ≡ option_map (appended line add bytes remove) (stands b.file) → d.standing ≡ b.standing → d.known ≡ n.known → d.begun ≡ b.begun → (t : Tables) → Keeps stands a t → Keeps stands d (appended line add bytes remove t)
has_appended stands a b d n add remove line bytes is_open looks begins file standing known begun t h =
    rw (file, standing, known, begun, looks.same, looks.standing, is_open, looks.begun)
    (appends (stands a.file) a.known a.begun n add remove line bytes begins t (as_open stands a t is_open h))

-- after one that failed
pub may_have_appended : {F : Type 0} (stands : F → Option Tables) (a b d : Records F) (n : Begun) (add remove : Option (List ℕ)) (line bytes : List ℕ) → a.standing ≡ Open → Looks stands a b → IfSome (stands a.file) (Begins n a.known add remove) → (stands d.file ≡ stands b.file) ⊎ (stands d.file ≡ option_map (appended line add bytes remove) (stands b.file)) → d.standing ≡ Shut → d.known ≡ b.known → d.begun ≡ Some n → (t : Tables) → Keeps stands a t → Keeps stands d t
may_have_appended stands a b d n add remove line bytes is_open looks begins (inl file) standing known begun t h =
    rw (file, standing, known, begun, looks.same, looks.known)
    (unchanged (stands a.file) a.known a.begun n add remove begins t (as_open stands a t is_open h))
may_have_appended stands a b d n add remove line bytes is_open looks begins (inr file) standing known begun t h =
    rw (file, standing, known, begun, looks.same, looks.known)
    (stands_appended (stands a.file) a.known a.begun n add remove line bytes begins t (as_open stands a t is_open h))
