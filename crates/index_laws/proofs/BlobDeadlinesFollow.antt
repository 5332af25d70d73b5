-- After an entry only the deadline of the blob that it may change differs.
use Rattle.std.proofs.Common.{◌≡◌, ◌≢◌, ◌↔◌, ℕ, ◌+◌, ◌≤◌, Bool, true, false, not, cond, List, [], ◌∷◌, ◌++◌, ◌⊎◌, inl, inr, map, find, refl, sym, ap, ◌∙◌, subst, Option, Some, None}
use Rattle.std.specs.List.{count_by, filter}
use Rattle.std.specs.Option.{option_map, option_map_or, option_and_then}
use Rattle.std.proofs.lemmas.Bool.{cases_Bool, eq-eqb, cond-false}
use Rattle.blob_rows.proofs.Texts.{same_text}
use Rattle.index_laws.specs.Types.{BlobRow, Chunk, Deadline, PoolState, EntryKind}
use Rattle.blob_rows.specs.BlobRows.{BlobRowsState, has_digest, is_blob, is_other, blob_of, renewed, renewed_until, longer_kept, place_for, new_blob, put}
use Rattle.swarm_model.specs.declared.entry.EntryKind.TheVariants as kind
use Rattle.swarm_model.specs.Deadlines.{blob_end}
use Rattle.swarm_model.specs.Effects.{life, blobs_in, put_chunk, with_blobs, fresh_chunk, attempt_of, after}
use Rattle.swarm_model.specs.Soundness.{IsSound}
use Rattle.pool_laws.proofs.Lists.{Among, Found, find_is, found_once, filter_is, filter_has, among_left, among_map, each_append, each_one, each_map}
use Rattle.pool_laws.proofs.Sound.{sound_after}
use Rattle.index_laws.specs.BlobDeadlines.{blob_of_chunk, touched_blob, BlobDeadlinesFollow}
use Rattle.index_laws.proofs.Keys.{among_of, contains_of}

-- a row that gives the deadline
record Gives (rows : List BlobRow) (d : Deadline) : Type 0 where
  row : BlobRow
  among : Among row rows
  is : blob_end row ≡ d

given : (rows : List BlobRow) (d : Deadline) → Among d (map blob_end rows) → Gives rows d
given rows d a = each_map (λ (x : Deadline). Gives rows x) blob_end rows (λ row b. record { row = row; among = b; is = refl }) d a

listed : (rows : List BlobRow) (row : BlobRow) (d : Deadline) → Among row rows → blob_end row ≡ d → Among d (map blob_end rows)
listed rows row d a is = subst (λ (x : Deadline). Among x (map blob_end rows)) is (among_map blob_end rows row a)

-- ---- rows of which only those that pass a test differ

module _ (test : BlobRow → Bool) where
  -- the rows that do not pass are the same
  record SameOthers (old new : List BlobRow) : Type 0 where
    back : (x : BlobRow) → Among x new → test x ≡ false → Among x old
    kept : (x : BlobRow) → Among x old → test x ≡ false → Among x new

  same_others : (rows : List BlobRow) → SameOthers rows rows
  same_others rows = record { back = λ x a none. a; kept = λ x a none. a }

  -- where each row that passes is changed
  mapped : (f : BlobRow → BlobRow) → ((x : BlobRow) → test x ≡ false → f x ≡ x) → ((x : BlobRow) → test (f x) ≡ test x) → (rows : List BlobRow) → SameOthers rows (map f rows)
  mapped f stays same rows =
      record {
        back = each_map (λ (y : BlobRow). test y ≡ false → Among y rows) f rows (λ x a none.
            subst (λ (y : BlobRow). Among y rows) (sym (stays x (sym (same x) ∙ none))) a);
        kept = λ x a none. subst (λ (y : BlobRow). Among y (map f rows)) (stays x none) (among_map f rows x a);
      }

  -- where one that passes is added
  added : (one : BlobRow) → test one ≡ true → (rows : List BlobRow) → SameOthers rows (rows ++ one ∷ [])
  added one passes rows =
      record {
        back = each_append (λ (y : BlobRow). test y ≡ false → Among y rows) rows (one ∷ []) (λ x a none. a)
            (each_one (λ (y : BlobRow). test y ≡ false → Among y rows) one (λ none. absurd (cc (passes, none))));
        kept = λ x a none. among_left x rows (one ∷ []) a;
      }

  -- where those that pass are taken out
  removed : (keeps : BlobRow → Bool) → ((x : BlobRow) → keeps x ≡ not (test x)) → (rows : List BlobRow) → SameOthers rows (filter keeps rows)
  removed keeps is rows =
      record {
        back = λ x a none. (filter_is keeps rows x a).among;
        kept = λ x a none. filter_has keeps rows x a (is x ∙ ap not none);
      }

  -- one row passes at most, and no two rows have one number: so only its deadline is moved
  module _ (old new : List BlobRow) (others : SameOthers old new) (few : count_by test old ≤ 1) (few_new : count_by test new ≤ 1) (numbers : (n : ℕ) → count_by (is_blob n) old ≤ 1) where
    abbrev gone : Option Deadline
    gone = option_map blob_end (find test old)

    abbrev come : Option Deadline
    come = option_map blob_end (find test new)

    found_end : (rows : List BlobRow) (d : Deadline) → option_map blob_end (find test rows) ≡ Some d → (x : BlobRow) × (Found test rows x × (blob_end x ≡ d))
    found_end rows d is = by_row (find test rows) refl is
      where
        by_row : (r : Option BlobRow) → find test rows ≡ r → option_map blob_end r ≡ Some d → (x : BlobRow) × (Found test rows x × (blob_end x ≡ d))
        by_row None e is = absurd (cc (is))
        by_row (Some x) e is = (x, (find_is test rows x e, cc (is)))

    found_at : (rows : List BlobRow) → count_by test rows ≤ 1 → (x : BlobRow) (d : Deadline) → Among x rows → test x ≡ true → blob_end x ≡ d → option_map blob_end (find test rows) ≡ Some d
    found_at rows low x d a passes is = ap (option_map blob_end) (found_once test rows x a passes low) ∙ ap (λ (y : Deadline). Some y) is

    one_row : (x y : BlobRow) → Among x old → Among y old → x.no ≡ y.no → x ≡ y
    one_row x y a b e =
        let first : find (is_blob y.no) old ≡ Some x = found_once (is_blob y.no) old x a (eq-eqb x.no y.no e) (numbers y.no) in
        let second : find (is_blob y.no) old ≡ Some y = found_once (is_blob y.no) old y b (eq-eqb y.no y.no refl) (numbers y.no) in
        let some : Some x ≡ Some y = sym first ∙ second in
        cc (some)

    forth : (d : Deadline) → Among d (map blob_end new) → (come ≡ Some d) ⊎ (Among d (map blob_end old) × (gone ≢ Some d))
    forth d a = elim (cases_Bool (test g.row)) [
      | inl passes ↦ inl (found_at new few_new g.row d g.among passes g.is)
      | inr none ↦ inr (listed old g.row d (others.back g.row g.among none) g.is, apart none)
    ]
      where
        g : Gives new d
        g = given new d a

        apart : test g.row ≡ false → gone ≢ Some d
        apart none is =
            let f = found_end old d is in
            let same : f.0 ≡ g.row = one_row f.0 g.row f.1.0.among (others.back g.row g.among none) (ap (λ (x : Deadline). x.number) (f.1.1 ∙ sym g.is)) in
            let passes : test g.row ≡ true = subst (λ (x : BlobRow). test x ≡ true) same f.1.0.passes in
            absurd (cc (passes, none))

    back_new : (d : Deadline) → (come ≡ Some d) ⊎ (Among d (map blob_end old) × (gone ≢ Some d)) → Among d (map blob_end new)
    back_new d (inl is) = let f = found_end new d is in listed new f.0 d f.1.0.among f.1.1
    back_new d (inr pair) =
        let g : Gives old d = given old d pair.0 in
        elim (cases_Bool (test g.row)) [
          | inl passes ↦ absurd (pair.1 (found_at old few g.row d g.among passes g.is))
          | inr none ↦ listed new g.row d (others.kept g.row g.among none) g.is
        ]

    moved : (d : Deadline) → Among d (map blob_end new) ↔ ((come ≡ Some d) ⊎ (Among d (map blob_end old) × (gone ≢ Some d)))
    moved d = (forth d, back_new d)

-- ---- what an entry does to the rows

-- the deadlines of rows after a change
record IsMoved (old new : List BlobRow) (gone come : Option BlobRow) : Type 0 where
  each : (d : Deadline) → Among d (map blob_end new) ↔ ((option_map blob_end come ≡ Some d) ⊎ (Among d (map blob_end old) × (option_map blob_end gone ≢ Some d)))

nothing_moved : (rows : List BlobRow) → IsMoved rows rows None None
nothing_moved rows = record { each = λ d. (λ a. inr (a, λ e. cc (e)), λ h. elim h [ inl e ↦ absurd (cc (e)) | inr pair ↦ pair.0 ]) }

module _ (s : BlobRowsState) (deadline : ℕ) (digest : List ℕ) (size : ℕ) where
  abbrev with_new : Option ℕ → BlobRowsState
  with_new r = option_map_or (λ place. record s { rows = s.rows ++ new_blob s deadline digest size place ∷ []; placed = s.placed + 1 }) r s

  -- a put changes the rows of the digest alone
  put_others : SameOthers (has_digest digest) s.rows (put s deadline digest size).rows
  put_others = by_row (blob_of s.rows digest)
    where
      by_place : (r : Option ℕ) → SameOthers (has_digest digest) s.rows (with_new r).rows
      by_place None = same_others (has_digest digest) s.rows
      by_place (Some place) = added (has_digest digest) (new_blob s deadline digest size place) (same_text digest digest refl) s.rows

      stays : (x : BlobRow) → has_digest digest x ≡ false → renewed_until deadline digest x ≡ x
      stays x none = cond-false (has_digest digest x) (renewed deadline x) x none

      of_test : (x : BlobRow) (c : Bool) → has_digest digest (cond c (renewed deadline x) x) ≡ has_digest digest x
      of_test x true = refl
      of_test x false = refl

      by_row : (r : Option BlobRow) → SameOthers (has_digest digest) s.rows (option_map_or (λ row. record s { rows = map (renewed_until deadline digest) s.rows }) r (with_new (place_for s size))).rows
      by_row None = by_place (place_for s size)
      by_row (Some row) = mapped (has_digest digest) (renewed_until deadline digest) stays (λ x. of_test x (has_digest digest x)) s.rows

-- a longer life changes the row of the number alone
longer_others : (secs n : ℕ) (rows : List BlobRow) → SameOthers (is_blob n) rows (map (longer_kept secs n) rows)
longer_others secs n rows = mapped (is_blob n) (longer_kept secs n) stays (λ x. of_test x (is_blob n x)) rows
  where
    stays : (x : BlobRow) → is_blob n x ≡ false → longer_kept secs n x ≡ x
    stays x none = cond-false (is_blob n x) (renewed (x.deadline + secs) x) x none

    of_test : (x : BlobRow) (c : Bool) → is_blob n (cond c (renewed (x.deadline + secs) x) x) ≡ is_blob n x
    of_test x true = refl
    of_test x false = refl

module _ (s : PoolState) (o : IsSound s) (m : ℕ) where
  abbrev FewOfDigest : List BlobRow → Type 0
  FewOfDigest rows = (digest : List ℕ) → count_by (has_digest digest) rows ≤ 1

  abbrev FewOfNumber : List BlobRow → Type 0
  FewOfNumber rows = (n : ℕ) → count_by (is_blob n) rows ≤ 1

  abbrev put_rows : List ℕ → ℕ → List BlobRow
  put_rows digest size = (put (blobs_in s) (m + life s) digest size).rows

  put_moved : (digest : List ℕ) (size : ℕ) → FewOfDigest (put_rows digest size) → IsMoved s.blobs (put_rows digest size) (blob_of s.blobs digest) (blob_of (put_rows digest size) digest)
  put_moved digest size few =
      record {
        each = moved (has_digest digest) s.blobs (put_rows digest size) (put_others (blobs_in s) (m + life s) digest size) (o.digests digest) (few digest) o.numbers;
      }

  chunk_moved : (r : Option Chunk) → FewOfDigest (put_chunk s m r).blobs →
      IsMoved s.blobs (put_chunk s m r).blobs (option_and_then (blob_of_chunk s.blobs) r) (option_and_then (blob_of_chunk (put_chunk s m r).blobs) r)
  chunk_moved None few = nothing_moved s.blobs
  chunk_moved (Some chunk) few = put_moved chunk.digest chunk.size few

  kind_moved : (k : EntryKind) → FewOfDigest (with_blobs s m k).blobs → FewOfNumber (with_blobs s m k).blobs →
      IsMoved s.blobs (with_blobs s m k).blobs (touched_blob s k s.blobs) (touched_blob s k (with_blobs s m k).blobs)
  kind_moved (kind.Blob n true) digests numbers =
      record {
        each = moved (is_blob n) s.blobs (map (longer_kept (life s) n) s.blobs) (longer_others (life s) n s.blobs) (o.numbers n) (numbers n) o.numbers;
      }
  kind_moved (kind.Blob n false) digests numbers =
      record {
        each = moved (is_blob n) s.blobs (filter (is_other n) s.blobs) (removed (is_blob n) (is_other n) (λ x. refl) s.blobs) (o.numbers n) (numbers n) o.numbers;
      }
  kind_moved (kind.Put digest size) digests numbers = put_moved digest size digests
  kind_moved (kind.Update b t try_no chunk last) digests numbers = chunk_moved (fresh_chunk (attempt_of s t) chunk) digests
  kind_moved k digests numbers = nothing_moved s.blobs

pub blob_deadlines_follow : BlobDeadlinesFollow
blob_deadlines_follow s e o follows old new are moves =
    let sound = sound_after s e o follows in
    let rows = (after s e).blobs in
    let law = kind_moved s o e.moment e.kind sound.digests sound.numbers in
    record {
      each = λ d. (
        λ c. contains_of (map blob_end rows) d (elim ((moves.each d).0 c) [
          | inl e ↦ (law.each d).1 (inl e)
          | inr pair ↦ (law.each d).1 (inr (among_of (map blob_end s.blobs) d ((are.each d).0 pair.0), pair.1))
        ]),
        λ c. (moves.each d).1 (elim ((law.each d).0 (among_of (map blob_end rows) d c)) [
          | inl e ↦ inl e
          | inr pair ↦ inr ((are.each d).1 (contains_of (map blob_end s.blobs) d pair.0), pair.1)
        ]),
      );
    }
