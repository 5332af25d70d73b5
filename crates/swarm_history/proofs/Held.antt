-- What a machine holds of the blobs that are there.
use Rattle.std.proofs.Common.{◌≡◌, ℕ, ◌==◌, ◌+◌, ◌<◌, ◌≤◌, List, [], ◌∷◌, ◌++◌, length, take, get_or, true, false, Option, Some, None, IsTrue, is_some, refl, sym, ap, subst, ◌∙◌}
use Rattle.std.specs.List.{AllZip}
use Rattle.std.specs.Option.{option_map_or}
use Rattle.std.proofs.lemmas.Bool.{eq-eqb, eqb-true, false≢true}
use Rattle.std.proofs.lemmas.List.{take_more}
use Rattle.sha2.specs.Sha256.{sha256}
use Rattle.swarm_history.specs.Types.{BlobRow, PoolState, Part}
use Rattle.blob_rows.specs.BlobRows.{has_digest}
use Rattle.swarm_model.specs.Finding.{blob_of, has_blob}
use Rattle.swarm_model.specs.MachineState.{MachineState, AreHeld}
use Rattle.pool_laws.proofs.Alike.{same_is}
use Rattle.pool_laws.proofs.Lists.{each, find_is}
use Rattle.pool_doors.specs.Doors.{IsPieceOf}
use Rattle.pool_laws.specs.NamedBlobs.{HasPart}

held_row : (kept : MachineState) → AreHeld kept → (digest : List ℕ) (size : ℕ) (o : Option BlobRow) → blob_of kept.pool digest ≡ o
    → option_map_or (λ blob. blob.size == size) o false ≡ true → IsTrue (is_some (kept.held digest))
held_row kept held digest size None is has = absurd (false≢true has)
held_row kept held digest size (Some blob) is has =
    let found = find_is (has_digest digest) kept.pool.blobs blob is in
    subst (λ d. IsTrue (is_some (kept.held d))) (same_is blob.digest digest found.passes)
    (each (λ (blob : BlobRow). IsTrue (is_some (kept.held blob.digest))) kept.pool.blobs held blob found.among)

-- the bytes of a blob that is there are held
pub held_of : (kept : MachineState) → AreHeld kept → (digest : List ℕ) (size : ℕ) → IsTrue (has_blob kept.pool digest size) → IsTrue (is_some (kept.held digest))
held_of kept held digest size has = held_row kept held digest size (blob_of kept.pool digest) refl has

-- of a digest of which no bytes are held there is no blob
pub absent_is : (kept : MachineState) → AreHeld kept → (digest : List ℕ) → kept.held digest ≡ None → blob_of kept.pool digest ≡ None
absent_is kept held digest none = by_row (blob_of kept.pool digest) refl
  where
    by_row : (o : Option BlobRow) → blob_of kept.pool digest ≡ o → o ≡ None
    by_row None is = refl
    by_row (Some blob) is = absurd (false≢true (sym (ap is_some none) ∙ held_row kept held digest blob.size (Some blob) is (eq-eqb blob.size blob.size refl)))

row_sizes : (a b : ℕ) (o : Option BlobRow) → option_map_or (λ blob. blob.size == a) o false ≡ true → option_map_or (λ blob. blob.size == b) o false ≡ true → a ≡ b
row_sizes a b None has_a has_b = absurd (false≢true has_a)
row_sizes a b (Some blob) has_a has_b = sym (eqb-true blob.size a has_a) ∙ eqb-true blob.size b has_b

-- a blob has one size
pub one_size : (s : PoolState) (digest : List ℕ) (a b : ℕ) → IsTrue (has_blob s digest a) → IsTrue (has_blob s digest b) → a ≡ b
one_size s digest a b has_a has_b = row_sizes a b (blob_of s digest) has_a has_b

-- ---- pieces

-- bytes that a part's blob has are a piece of the part
pub piece_is : (s : PoolState) (part : Part) (piece : List ℕ) → HasPart s part → sha256 piece ≡ part.digest → IsTrue (has_blob s part.digest (length piece)) → IsPieceOf part piece
piece_is s part piece has named sized = (named, subst (λ size. part.to ≤ size) (one_size s part.digest has.0 (length piece) has.1 sized) has.2)

zip_push : {A B : Type 0} (R : A → B → Type 0) (xs : List A) (ys : List B) (x : A) (y : B) → AllZip R xs ys → R x y → AllZip R (xs ++ x ∷ []) (ys ++ y ∷ [])
zip_push R [] [] x y all one = (one, tt)
zip_push R [] (b ∷ ys) x y all one = absurd all
zip_push R (a ∷ xs) [] x y all one = absurd all
zip_push R (a ∷ xs) (b ∷ ys) x y all one = (all.0, zip_push R xs ys x y all.1 one)

-- one part more has its piece
pub piece_more : (parts : List Part) (pieces : List (List ℕ)) (i : ℕ) (d : Part) (piece : List ℕ) → i < length parts → AllZip IsPieceOf (take i parts) pieces
    → IsPieceOf (get_or parts i d) piece → AllZip IsPieceOf (take (i + 1) parts) (pieces ++ piece ∷ [])
piece_more parts pieces i d piece low all one =
    subst (λ passed. AllZip IsPieceOf passed (pieces ++ piece ∷ [])) (sym (take_more parts i d low))
    (zip_push IsPieceOf (take i parts) pieces (get_or parts i d) piece all one)
