-- What a file has of a blob after blobs are put and dropped.
use Rattle.std.proofs.Common.{◌≡◌, ◌∙◌, ℕ, List, [], ◌∷◌, Bool, true, false, Option, Some, None, option_map, find, refl, sym, subst}
use Rattle.std.specs.Option.{option_or}
use Rattle.std.specs.Cmp.Lexicographic.{bytes_decides}
use Rattle.std.proofs.lemmas.List.Folds.{find-append}
use Rattle.dimensions.specs.Alike.{same}
use Rattle.swarm_keeper.specs.Tables.{Tables, is_of, bytes_of, without, with_blob}
use Rattle.sqlite_keeper.specs.Files.{with_bytes, put_back, blob_before}

same_self : (e : List ℕ) → same e e ≡ true
same_self e = (bytes_decides e e).1 refl

same_is : {e d : List ℕ} → same e d ≡ true → e ≡ d
same_is {e = e} {d = d} h = (bytes_decides e d).0 h

gone : (e : List ℕ) (bs : List (List ℕ × List ℕ)) → bytes_of (without (Some e) bs) e ≡ None
gone e [] = refl
gone e (x ∷ bs) = step (same x.0 e) refl (gone e bs)
  where
    step : (b : Bool) → same x.0 e ≡ b → bytes_of (without (Some e) bs) e ≡ None → bytes_of (without (Some e) (x ∷ bs)) e ≡ None
    step true h rest = rw h rest
    step false h rest = rw (h, h) rest

left : (e d : List ℕ) → same e d ≡ false → (bs : List (List ℕ × List ℕ)) → bytes_of (without (Some e) bs) d ≡ bytes_of bs d
left e d differ [] = refl
left e d differ (x ∷ bs) = step (same x.0 e) (same x.0 d) refl refl (left e d differ bs)
  where
    step : (b c : Bool) → same x.0 e ≡ b → same x.0 d ≡ c → bytes_of (without (Some e) bs) d ≡ bytes_of bs d → bytes_of (without (Some e) (x ∷ bs)) d ≡ bytes_of (x ∷ bs) d
    step true c h g rest =
        let other : same x.0 d ≡ false = subst (λ y. same y d ≡ false) (sym (same_is h)) differ in
        rw (h, other) rest
    step false true h g rest = rw (h, g) refl
    step false false h g rest = rw (h, g) rest

put : (e b : List ℕ) (bs : List (List ℕ × List ℕ)) → bytes_of (with_blob (Some e) b bs) e ≡ Some b
put e b bs = rw (find-append (is_of e) (without (Some e) bs) ((e, b) ∷ [])) (last (find (is_of e) (without (Some e) bs)) (gone e bs))
  where
    last : (o : Option (List ℕ × List ℕ)) → option_map (λ (blob : List ℕ × List ℕ). blob.1) o ≡ None → option_map (λ (blob : List ℕ × List ℕ). blob.1) (option_or o (find (is_of e) ((e, b) ∷ []))) ≡ Some b
    last None h = rw (same_self e) refl
    last (Some x) h = absurd (cc)

put_past : (e b d : List ℕ) → same e d ≡ false → (bs : List (List ℕ × List ℕ)) → bytes_of (with_blob (Some e) b bs) d ≡ bytes_of bs d
put_past e b d differ bs = rw (find-append (is_of d) (without (Some e) bs) ((e, b) ∷ [])) (first (find (is_of d) (without (Some e) bs))) ∙ left e d differ bs
  where
    first : (o : Option (List ℕ × List ℕ)) → option_map (λ (blob : List ℕ × List ℕ). blob.1) (option_or o (find (is_of d) ((e, b) ∷ []))) ≡ option_map (λ (blob : List ℕ × List ℕ). blob.1) o
    first None = rw differ refl
    first (Some x) = refl

pub has : (e : List ℕ) (o : Option (List ℕ)) (bs : List (List ℕ × List ℕ)) → bytes_of (with_bytes e o bs) e ≡ o
has e None bs = gone e bs
has e (Some b) bs = put e b bs

pub has_others : (e d : List ℕ) → same e d ≡ false → (o : Option (List ℕ)) (bs : List (List ℕ × List ℕ)) → bytes_of (with_bytes e o bs) d ≡ bytes_of bs d
has_others e d differ None bs = left e d differ bs
has_others e d differ (Some b) bs = put_past e b d differ bs

-- what can't be told apart can't be told apart after a change either
with_same : (e : List ℕ) (o : Option (List ℕ)) (cs bs : List (List ℕ × List ℕ)) → ((d : List ℕ) → bytes_of cs d ≡ bytes_of bs d) → (d : List ℕ) → bytes_of (with_bytes e o cs) d ≡ bytes_of (with_bytes e o bs) d
with_same e o cs bs alike d = step (same e d) refl
  where
    step : (b : Bool) → same e d ≡ b → bytes_of (with_bytes e o cs) d ≡ bytes_of (with_bytes e o bs) d
    step true h =
        let at : bytes_of (with_bytes e o cs) e ≡ bytes_of (with_bytes e o bs) e = has e o cs ∙ sym (has e o bs) in
        subst (λ y. bytes_of (with_bytes e o cs) y ≡ bytes_of (with_bytes e o bs) y) (same_is h) at
    step false h = has_others e d h o cs ∙ alike d ∙ sym (has_others e d h o bs)

dropped_same : (remove : Option (List ℕ)) (cs bs : List (List ℕ × List ℕ)) → ((d : List ℕ) → bytes_of cs d ≡ bytes_of bs d) → (d : List ℕ) → bytes_of (without remove cs) d ≡ bytes_of (without remove bs) d
dropped_same None cs bs alike d = alike d
dropped_same (Some e) cs bs alike d = with_same e None cs bs alike d

pub changed_same : (add : Option (List ℕ)) (bytes : List ℕ) (remove : Option (List ℕ)) (cs bs : List (List ℕ × List ℕ)) → ((d : List ℕ) → bytes_of cs d ≡ bytes_of bs d) → (d : List ℕ) → bytes_of (with_blob add bytes (without remove cs)) d ≡ bytes_of (with_blob add bytes (without remove bs)) d
changed_same None bytes remove cs bs alike d = dropped_same remove cs bs alike d
changed_same (Some e) bytes remove cs bs alike d = with_same e (Some bytes) (without remove cs) (without remove bs) (dropped_same remove cs bs alike) d

-- a blob that is put back is cs it was, and no other is changed
back : (t : Tables) (e : List ℕ) (bs : List (List ℕ × List ℕ)) (d : List ℕ) → (same e d ≡ false → bytes_of bs d ≡ bytes_of t.blobs d) → bytes_of (put_back (Some (blob_before t e)) bs) d ≡ bytes_of t.blobs d
back t e bs d others = step (same e d) refl
  where
    step : (b : Bool) → same e d ≡ b → bytes_of (put_back (Some (blob_before t e)) bs) d ≡ bytes_of t.blobs d
    step true h = subst (λ y. bytes_of (put_back (Some (blob_before t e)) bs) y ≡ bytes_of t.blobs y) (same_is h) (has e (bytes_of t.blobs e) bs)
    step false h = has_others e d h (bytes_of t.blobs e) bs ∙ others h

back_added : (t : Tables) (add : Option (List ℕ)) (bytes : List ℕ) (bs : List (List ℕ × List ℕ)) (d : List ℕ) → bytes_of bs d ≡ bytes_of t.blobs d → bytes_of (put_back (option_map (blob_before t) add) (with_blob add bytes bs)) d ≡ bytes_of t.blobs d
back_added t None bytes bs d h = h
back_added t (Some e) bytes bs d h = back t e (with_blob (Some e) bytes bs) d (λ differ. put_past e bytes d differ bs ∙ h)

pub put_back_all : (t : Tables) (add : Option (List ℕ)) (bytes : List ℕ) (remove : Option (List ℕ)) (d : List ℕ) → bytes_of (put_back (option_map (blob_before t) remove) (put_back (option_map (blob_before t) add) (with_blob add bytes (without remove t.blobs)))) d ≡ bytes_of t.blobs d
put_back_all t add bytes None d = back_added t add bytes t.blobs d refl
put_back_all t add bytes (Some e) d = back t e (put_back (option_map (blob_before t) add) (with_blob add bytes (without (Some e) t.blobs))) d (λ differ. back_added t add bytes (without (Some e) t.blobs) d (left e d differ t.blobs))
