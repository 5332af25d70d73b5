-- What is kept once an entry is.
use Rattle.std.proofs.Common.{Bor, ◌≡◌, ◌++◌, ℕ, Bool, true, false, List, [], ◌∷◌, map, filter, Option, None, Some, IsTrue, IfSome, is_some, refl, ap, sym, subst, ◌∙◌}
use Rattle.std.specs.Prelude.{◌&&◌}
use Rattle.std.specs.Option.{option_map, unwrap_or}
use Rattle.std.proofs.lemmas.Bool.{false≢true}
use Rattle.std.proofs.lemmas.List.{map-append}
use Rattle.dimensions.specs.Alike.{same}
use Rattle.entry_lines.specs.Lines.{entry_of_line}
use Rattle.pool_loading.specs.Records.{base_in, AreLinesOf, AreRecords}
use Rattle.swarm_keeper.specs.Tables.{Tables, is_other, bytes_of, without, with_blob, appended}
use Rattle.pool_laws.proofs.Alike.{same_is, is_same, same_self}
use Rattle.pool_laws.proofs.Bots.{settings_same}
use Rattle.swarm_history.specs.Types.{Entry, PoolSettings}
use Rattle.swarm_model.specs.Bytes.{HeldBytes, new_digest, removed_digest, with_bytes, without_bytes, with_new, without_removed}
use Rattle.swarm_model.specs.MachineState.{MachineState}
use Rattle.swarm_history.specs.Records.{AreMachineRecords, KeepsEntry}
use Rattle.swarm_history.specs.Settling.{with_entry}

-- blobs as they are kept
abbrev Blobs : Type 0
Blobs = List (List ℕ × List ℕ)

same_both : (a b : List ℕ) (t : Bool) → same a b ≡ t → same b a ≡ t
same_both a b true e = is_same b a (sym (same_is a b e))
same_both a b false e = by_other (same b a) refl
  where
    by_other : (o : Bool) → same b a ≡ o → o ≡ false
    by_other false f = refl
    by_other true f = absurd (false≢true (sym e ∙ is_same a b (sym (same_is b a f))))

-- a digest that another is the same as, is the same as it
same_through : (a d x : List ℕ) (t : Bool) → same a d ≡ true → same d x ≡ t → same a x ≡ t
same_through a d x t e f = ap (λ (y : List ℕ). same y x) (same_is a d e) ∙ f

-- the bytes of other digests stay where one is removed
others_stay : (blobs : Blobs) (d x : List ℕ) → same d x ≡ false → bytes_of (filter (is_other d) blobs) x ≡ bytes_of blobs x
others_stay [] d x e = refl
others_stay (blob ∷ blobs) d x e = by_first (others_stay blobs d x e) (same blob.0 d) refl (same blob.0 x) refl
  where
    by_first : bytes_of (filter (is_other d) blobs) x ≡ bytes_of blobs x → (t : Bool) → same blob.0 d ≡ t → (u : Bool) → same blob.0 x ≡ u
        → bytes_of (filter (is_other d) (blob ∷ blobs)) x ≡ bytes_of (blob ∷ blobs) x
    by_first rest true f u g = rw (f, same_through blob.0 d x false f e) rest
    by_first rest false f true g = rw (f, g) refl
    by_first rest false f false g = rw (f, g) rest

-- and where one is added at the end
others_before : (blobs : Blobs) (d bytes x : List ℕ) → same d x ≡ false → bytes_of (blobs ++ (d, bytes) ∷ []) x ≡ bytes_of blobs x
others_before [] d bytes x e = rw e refl
others_before (blob ∷ blobs) d bytes x e = by_first (others_before blobs d bytes x e) (same blob.0 x) refl
  where
    by_first : bytes_of (blobs ++ (d, bytes) ∷ []) x ≡ bytes_of blobs x → (t : Bool) → same blob.0 x ≡ t
        → bytes_of (blob ∷ (blobs ++ (d, bytes) ∷ [])) x ≡ bytes_of (blob ∷ blobs) x
    by_first rest true f = rw f refl
    by_first rest false f = rw f rest

-- the one that is added has its bytes, where there was none of its digest
added_has : (blobs : Blobs) (d bytes : List ℕ) → bytes_of (filter (is_other d) blobs ++ (d, bytes) ∷ []) d ≡ Some bytes
added_has [] d bytes = rw (same_self d) refl
added_has (blob ∷ blobs) d bytes = by_first (added_has blobs d bytes) (same blob.0 d) refl
  where
    by_first : bytes_of (filter (is_other d) blobs ++ (d, bytes) ∷ []) d ≡ Some bytes → (t : Bool) → same blob.0 d ≡ t
        → bytes_of (filter (is_other d) (blob ∷ blobs) ++ (d, bytes) ∷ []) d ≡ Some bytes
    by_first rest true f = rw f rest
    by_first rest false f = rw f (rw f rest)

-- what is held of each digest is kept
abbrev Cover : Blobs → HeldBytes → Type 0
Cover blobs held = (x : List ℕ) → IsTrue (is_some (held x)) → bytes_of blobs x ≡ held x

cover_without : (blobs : Blobs) (held : HeldBytes) (d : List ℕ) → Cover blobs held → Cover (filter (is_other d) blobs) (without_bytes d held)
cover_without blobs held d cover x = by_same (same x d) refl
  where
    by_same : (t : Bool) → same x d ≡ t → IsTrue (is_some (without_bytes d held x)) → bytes_of (filter (is_other d) blobs) x ≡ without_bytes d held x
    by_same true e = rw e (λ there. absurd (false≢true there))
    by_same false e = rw e (λ there. others_stay blobs d x (same_both x d false e) ∙ cover x there)

cover_with : (blobs : Blobs) (held : HeldBytes) (d bytes : List ℕ) → Cover blobs held → Cover (filter (is_other d) blobs ++ (d, bytes) ∷ []) (with_bytes d bytes held)
cover_with blobs held d bytes cover x = by_same (same x d) refl
  where
    by_same : (t : Bool) → same x d ≡ t → IsTrue (is_some (with_bytes d bytes held x)) → bytes_of (filter (is_other d) blobs ++ (d, bytes) ∷ []) x ≡ with_bytes d bytes held x
    by_same true e = rw e (λ there. ap (bytes_of (filter (is_other d) blobs ++ (d, bytes) ∷ [])) (same_is x d e) ∙ added_has blobs d bytes)
    by_same false e = rw e (λ there.
        others_before (filter (is_other d) blobs) d bytes x (same_both x d false e) ∙ others_stay blobs d x (same_both x d false e) ∙ cover x there)

cover_removed : (blobs : Blobs) (held : HeldBytes) (o : Option (List ℕ)) → Cover blobs held → Cover (without o blobs) (without_removed o held)
cover_removed blobs held None cover = cover
cover_removed blobs held (Some d) cover = cover_without blobs held d cover

-- the content is that which came
abbrev IsContent : Option (List ℕ) → List ℕ → Type 0
IsContent bytes content = IfSome bytes (λ b. content ≡ b)

cover_added : (blobs : Blobs) (held : HeldBytes) (o bytes : Option (List ℕ)) (content : List ℕ) → IsContent bytes content
    → (IsTrue (is_some o) → IsTrue (is_some bytes)) → Cover blobs held → Cover (with_blob o content blobs) (with_new o bytes held)
cover_added blobs held None bytes content is whole cover = cover
cover_added blobs held (Some d) None content is whole cover = absurd (false≢true (whole refl))
cover_added blobs held (Some d) (Some b) content is whole cover =
    subst (λ (c : List ℕ). Cover (filter (is_other d) blobs ++ (d, c) ∷ []) (with_bytes d b held)) (sym is) (cover_with blobs held d b cover)

lines_more : (lines : List (List ℕ)) (log : List Entry) (line : List ℕ) (entry : Entry) → entry_of_line line ≡ Some entry → AreLinesOf lines log
    → AreLinesOf (lines ++ line ∷ []) (log ++ entry ∷ [])
lines_more lines log line entry is are =
    map-append entry_of_line lines (line ∷ []) ∙ ap (λ (o : Option Entry). map entry_of_line lines ++ o ∷ []) is ∙ ap (λ (all : List (Option Entry)). all ++ Some entry ∷ []) are
    ∙ sym (map-append Some log (entry ∷ []))

records_after : (kept : MachineState) (t : Tables) (entry : Entry) (line content : List ℕ) (bytes : Option (List ℕ)) → entry_of_line line ≡ Some entry → IsContent bytes content
    → (IsTrue (is_some (new_digest kept.pool entry.kind)) → IsTrue (is_some bytes)) → AreRecords kept t
    → AreRecords (with_entry kept entry bytes) (appended line (new_digest kept.pool entry.kind) content (removed_digest kept.pool entry.kind) t)
records_after kept t entry line content bytes is has whole are = record {
  base = ap (λ (p : PoolSettings). base_in p t.base) (settings_same kept.pool entry.moment entry.kind) ∙ are.base;
  count = are.count;
  lines = lines_more t.lines kept.log line entry is are.lines;
  blobs = cover_added (without (removed_digest kept.pool entry.kind) t.blobs) (without_removed (removed_digest kept.pool entry.kind) kept.held)
      (new_digest kept.pool entry.kind) bytes content has whole
      (cover_removed t.blobs kept.held (removed_digest kept.pool entry.kind) are.blobs);
}

-- the content is what is handed on of the bytes that came
pub content_is : (bytes : Option (Bor (List ℕ))) (other content : Bor (List ℕ)) → content ≡ unwrap_or bytes other → IsContent (option_map (λ b. b.now) bytes) content.now
content_is None other content is = tt
content_is (Some b) other content is = ap (λ (r : Bor (List ℕ)). r.now) is

-- what is appended, added and removed is the entry's
pub keeps_entry : (kept : MachineState) (told : Option Tables) (entry : Entry) (line content : List ℕ) (bytes added removed : Option (List ℕ)) → entry_of_line line ≡ Some entry → IsContent bytes content
    → added ≡ new_digest kept.pool entry.kind → removed ≡ removed_digest kept.pool entry.kind
    → KeepsEntry kept entry bytes told (option_map (appended line added content removed) told)
keeps_entry kept None entry line content bytes added removed is has adds drops = refl
keeps_entry kept (Some t) entry line content bytes added removed is has adds drops = record {
  line = line;
  reads_back = is;
  content = content;
  content_is = has;
  tables = rw (adds, drops) refl;
}

-- a sure keeper tells no records
pub untold : (sure tells : Bool) (told : Option Tables) (kept : MachineState) (entry : Entry) (bytes : Option (List ℕ)) → (sure && tells) ≡ false → is_some told ≡ tells → sure ≡ true
    → KeepsEntry kept entry bytes told told
untold sure tells None kept entry bytes sure_untold is sure_is = refl
untold sure tells (Some t) kept entry bytes sure_untold is sure_is = absurd (cc)

-- where they are told, the records are those of the machine with the entry
pub told_after : (kept : MachineState) (told new : Option Tables) (entry : Entry) (bytes : Option (List ℕ)) → KeepsEntry kept entry bytes told new
    → (IsTrue (is_some (new_digest kept.pool entry.kind)) → IsTrue (is_some bytes)) → AreMachineRecords told kept → AreMachineRecords new (with_entry kept entry bytes)
told_after kept None new entry bytes keeps whole are = subst (λ (o : Option Tables). AreMachineRecords o (with_entry kept entry bytes)) (sym keeps) tt
told_after kept (Some t) new entry bytes keeps whole are =
    subst (λ (o : Option Tables). AreMachineRecords o (with_entry kept entry bytes)) (sym keeps.tables)
    (records_after kept t entry keeps.line keeps.content bytes keeps.reads_back keeps.content_is whole are)
