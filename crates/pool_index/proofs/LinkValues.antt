-- The link with a key, where no two links have the same.
use Rattle.std.proofs.Common.{◌≡◌, ◌≢◌, ℕ, zero, suc, ◌<◌, List, [], ◌∷◌, ◌++◌, map, length, get_or, set, refl, sym, ap, ◌∙◌, subst, arith, Bool, true, false, cond, Option, Some, None, ◌&&◌}
use Rattle.std.specs.List.{AllPairs}
use Rattle.std.specs.Cmp.Lexicographic.{bytes_decides}
use Rattle.std.proofs.lemmas.Bool.{and_parts}
use Rattle.std.proofs.lemmas.List.{length-map, length-set, get_or-set_same}
use Rattle.std.proofs.Math.Seq.{map-set_same}
use Rattle.dimensions.specs.Alike.{same, same_pair}
use Rattle.pool_index.specs.SortedLinks.{Key, key_at, link_of, HasKeyAt, HasNoKey, AreSorted, AreByKey, Sets, taken_in}
use Rattle.pool_index.proofs.LinkSearch.{key_at-map}

-- ---- keys

same_key : (a b : Key) → a ≡ b → same_pair a b ≡ true
same_key a b is =
    let first : same a.0 b.0 ≡ true = (bytes_decides a.0 b.0).1 (ap (λ (k : Key). k.0) is) in
    let second : same a.1 b.1 ≡ true = (bytes_decides a.1 b.1).1 (ap (λ (k : Key). k.1) is) in
    ap (λ (t : Bool). t && same a.1 b.1) first ∙ second

key_is : (a b : Key) → same_pair a b ≡ true → a ≡ b
key_is a b h =
    let parts = and_parts (same a.0 b.0) (same a.1 b.1) h in
    let first = (bytes_decides a.0 b.0).0 parts.0 in
    let second = (bytes_decides a.1 b.1).0 parts.1 in
    λ i. (first i, second i)

by_test : (t : Bool) (a b : Key) → same_pair a b ≡ t → a ≢ b → t ≡ false
by_test true a b is other = absurd (other (key_is a b is))
by_test false a b is other = refl

other_key : (a b : Key) → a ≢ b → same_pair a b ≡ false
other_key a b other = by_test (same_pair a b) a b refl other

-- ---- the first link with a key

module _ {L : Type 0} (key : L → Key) where
  rest : (link : L) (links : List L) → AllPairs (λ a b. a ≢ b) (map key (link ∷ links)) → AllPairs (λ a b. a ≢ b) (map key links)
  rest link links apart i j d less within = apart (suc i) (suc j) d (omega arith) (omega arith)

  first_apart : (link : L) (links : List L) (k : ℕ) → k < length links → AllPairs (λ a b. a ≢ b) (map key (link ∷ links)) → key link ≢ key_at (map key links) k
  first_apart link links k low apart is = apart 0 (suc k) ([], []) (omega arith) (omega (arith, length-map links key)) is

  take_first : (link : L) (links : List L) (sought : Key) → key link ≡ sought → link_of key (link ∷ links) sought ≡ Some link
  take_first link links sought is = ap (λ (t : Bool). cond t (Some link) (link_of key links sought)) (same_key (key link) sought is)

  pass_first : (link : L) (links : List L) (sought : Key) → key link ≢ sought → link_of key (link ∷ links) sought ≡ link_of key links sought
  pass_first link links sought other = ap (λ (t : Bool). cond t (Some link) (link_of key links sought)) (other_key (key link) sought other)

  pub found_at : (links : List L) (sought : Key) (k : ℕ) (d : L) → k < length links → key_at (map key links) k ≡ sought → AllPairs (λ a b. a ≢ b) (map key links) → link_of key links sought ≡ Some (get_or links k d)
  found_at [] sought k d low is apart = absurd (omega arith)
  found_at (link ∷ links) sought zero d low is apart = take_first link links sought is
  found_at (link ∷ links) sought (suc k) d low is apart =
      pass_first link links sought (λ same. first_apart link links k (omega arith) apart (same ∙ sym is))
      ∙ found_at links sought k d (omega arith) is (rest link links apart)

  pub none_value : (links : List L) (sought : Key) → HasNoKey key links sought → link_of key links sought ≡ None
  none_value [] sought none = refl
  none_value (link ∷ links) sought none =
      pass_first link links sought (none.none link (0, omega arith, refl))
      ∙ none_value links sought (record { none = λ other among is. none.none other (suc among.0, (let within = among.1 in omega arith), among.2) is })

  -- ---- one link is set

  pub set_other : (links : List L) (k : ℕ) (link : L) (other : Key) → k < length links → key link ≡ key_at (map key links) k → key link ≢ other → link_of key (set links k link) other ≡ link_of key links other
  set_other [] k link other low is differs = absurd (omega arith)
  set_other (first ∷ links) zero link other low is differs =
      pass_first link links other differs ∙ sym (pass_first first links other (λ e. differs (is ∙ e)))
  set_other (first ∷ links) (suc k) link other low is differs =
      ap (λ (o : Option L). cond (same_pair (key first) other) (Some first) o) (set_other links k link other (omega arith) is differs)

  -- ---- one link is added

  pub push_own : (links : List L) (link : L) (sought : Key) → key link ≡ sought → link_of key links sought ≡ None → link_of key (links ++ link ∷ []) sought ≡ Some link
  push_own [] link sought is none = take_first link [] sought is
  push_own (first ∷ links) link sought is none = by_first (same_pair (key first) sought) none (push_own links link sought is)
    where
      by_first : (t : Bool) → cond t (Some first) (link_of key links sought) ≡ None → (link_of key links sought ≡ None → link_of key (links ++ link ∷ []) sought ≡ Some link) →
          cond t (Some first) (link_of key (links ++ link ∷ []) sought) ≡ Some link
      by_first true none more = absurd (cc)
      by_first false none more = more none

  pub push_other : (links : List L) (link : L) (other : Key) → key link ≢ other → link_of key (links ++ link ∷ []) other ≡ link_of key links other
  push_other [] link other differs = pass_first link [] other differs
  push_other (first ∷ links) link other differs = ap (λ (o : Option L). cond (same_pair (key first) other) (Some first) o) (push_other links link other differs)

  pub push_sets : (links : List L) (link : L) → HasNoKey key links (key link) → Sets key (key link) link links (links ++ link ∷ [])
  push_sets links link none = record {
    own = push_own links link (key link) refl (none_value links (key link) none);
    others = λ other differs. push_other links link other (λ is. differs (sym is));
  }

  -- ---- the link at a place

  module _ (links : List L) (order : List ℕ) (sorted : AreSorted key links order) (sought : Key) (place : ℕ) (has : HasKeyAt key links sought place) where
    pub found_value : (link : L) → link ≡ get_or links place link → link_of key links sought ≡ Some link
    found_value link is =
        found_at links sought place link has.within (key_at-map key links place link has.within ∙ has.is link) sorted.apart ∙ ap (λ (l : L). Some l) (sym is)

    module _ (link : L) (is : key link ≡ sought) where
      keys_stay : map key (set links place link) ≡ map key links
      keys_stay = map-set_same key links place link link (is ∙ sym (has.is link))

      pub set_sorted : AreSorted key (set links place link) order
      set_sorted = subst (λ (ks : List Key). AreByKey ks order) (sym keys_stay) sorted

      pub set_sets : Sets key sought link links (set links place link)
      set_sets = record {
        own =
            found_at (set links place link) sought place link (omega (arith, has.within, length-set links place link))
            (ap (λ (ks : List Key). key_at ks place) keys_stay ∙ key_at-map key links place link has.within ∙ has.is link) set_sorted.apart
            ∙ ap (λ (l : L). Some l) (get_or-set_same links place link link has.within);
        others = λ other differs.
            set_other links place link other has.within (is ∙ sym (key_at-map key links place link has.within ∙ has.is link)) (λ e. differs (sym e ∙ is));
      }

  -- ---- a link takes in another one with its key

  module _ (merged : L → L → L) (keeps_key : (a b : L) → key (merged a b) ≡ key a) (links : List L) (link : L) where
    module _ (order : List ℕ) (sorted : AreSorted key links order) (place : ℕ) (has : HasKeyAt key links (key link) place) (first new : L) (there : first ≡ get_or links place first) (is : new ≡ merged first link) where
      key_stays : key new ≡ key link
      key_stays = ap key is ∙ keeps_key first link ∙ ap key there ∙ has.is first

      pub merged_sorted : AreSorted key (set links place new) order
      merged_sorted = set_sorted links order sorted (key link) place has new key_stays

      pub merged_sets : Sets key (key link) (taken_in merged link (link_of key links (key link))) links (set links place new)
      merged_sets =
          let old = found_value links order sorted (key link) place has first there in
          subst (λ (l : L). Sets key (key link) l links (set links place new)) (sym (ap (taken_in merged link) old ∙ sym is))
          (set_sets links order sorted (key link) place has new key_stays)

    pub added_sets : HasNoKey key links (key link) → Sets key (key link) (taken_in merged link (link_of key links (key link))) links (links ++ link ∷ [])
    added_sets none =
        subst (λ (l : L). Sets key (key link) l links (links ++ link ∷ [])) (sym (ap (taken_in merged link) (none_value links (key link) none)))
        (push_sets links link none)
