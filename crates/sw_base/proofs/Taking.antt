-- Taking acceptors that wait, one after another.
use Rattle.std.proofs.Common.{◌≡◌, ℕ, zero, suc, ◌+◌, Some, List, [], ◌∷◌, ◌++◌, map, drop, All, refl, sym, ap, ◌∙◌, arith, length-append, subst}
use Rattle.std.proofs.lemmas.List.{drop-map, drop-drop, map-append}
use Rattle.std.proofs.lemmas.List.Elements.{All-append, All-cons, All-nil, All-drop}
use Rattle.sw_base.specs.Acceptors.{AcceptorState}
use Rattle.sw_base.specs.Listeners.{IsGiven, IsTaken, IsShare, first_of, first_ones}

pub first_ones_more : (n : ℕ) (all : List AcceptorState) → first_ones (n + 1) all ≡ first_ones n all ++ first_of (drop n all) ∷ []
first_ones_more zero all = refl
first_ones_more (suc n) all =
    let e : suc n + 1 ≡ suc (n + 1) = omega arith in
    let swap : 1 + n ≡ suc n = omega arith in
    ap (λ k. first_ones k all) e ∙ ap (λ l. first_of all ∷ l) (first_ones_more n (drop 1 all) ∙ ap (λ l. first_ones n (drop 1 all) ++ first_of l ∷ []) (drop-drop n 1 all ∙ ap (λ k. drop k all) swap))

pub taken_none : {T : Type 0} (look : T → AcceptorState) (all : List T) → All (λ a. IsGiven (look a)) all → IsTaken look all all 0 []
taken_none look all given = record {
  number = refl;
  given_are = refl;
  rest_is = refl;
  fresh = All-nil (λ a. IsGiven (look a));
  still = given;
}

pub taken_more : {T : Type 0} (look : T → AcceptorState) (all rest left given : List T) (n : ℕ) (x : T) → IsTaken look all rest n given
    → look x ≡ first_of (map look rest) → IsGiven (look x) → left ≡ drop 1 rest → IsTaken look all left (n + 1) (given ++ x ∷ [])
taken_more look all rest left given n x t first fresh is = record {
  number = length-append given (x ∷ []) ∙ ap (λ k. k + 1) t.number;
  given_are = map-append look given (x ∷ [])
      ∙ ap (λ l. l ++ look x ∷ []) t.given_are
      ∙ ap (λ y. first_ones n (map look all) ++ y ∷ []) (first ∙ ap (λ l. first_of (map look l)) t.rest_is ∙ ap first_of (sym (drop-map look n all)))
      ∙ sym (first_ones_more n (map look all));
  rest_is = is ∙ ap (drop 1) t.rest_is ∙ drop-drop 1 n all;
  fresh = All-append (λ a. IsGiven (look a)) given (x ∷ []) t.fresh (All-cons (λ a. IsGiven (look a)) x [] fresh (All-nil (λ a. IsGiven (look a))));
  still = subst (All (λ a. IsGiven (look a))) (sym is) (All-drop (λ a. IsGiven (look a)) 1 rest t.still);
}

-- what was taken is a share of what waited
pub share_taken : {T : Type 0} {look : T → AcceptorState} {all rest given : List T} {n : ℕ} → IsTaken look all rest n given
    → IsShare (Some (map look all)) n (map look given) (Some (map look rest))
share_taken {look = look} {all = all} {n = n} t = record {
  given_are = t.given_are;
  rest_is = ap Some (ap (map look) t.rest_is ∙ sym (drop-map look n all));
}
