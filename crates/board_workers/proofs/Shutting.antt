-- Acceptors that are shut one after another, and passes that are joined.
use Rattle.std.proofs.Common.{◌≡◌, ℕ, ◌+◌, ◌≤◌, List, [], ◌∷◌, ◌++◌, length, map, Option, Some, None, IfSome, option_map, refl, sym, ap, subst, ◌∙◌, arith, append-nil, append_assoc}
use Rattle.std.proofs.lemmas.List.{map-append}
use Rattle.sw_base.specs.Acceptors.{AcceptorState}
use Rattle.sw_base.specs.Listeners.{ListenerState, Shuts}
use Rattle.sw_base.specs.Told.{Adds}
use Rattle.swarm_workers.specs.declared.worked.WorkStop.{WorkStop}
use Rattle.swarm_workers.specs.Crews.{ShutsAll, graver, gravest}
use Rattle.swarm_workers.proofs.JoinedDoors.{out_less, shuts_more, stop_more}
use Rattle.swarm_workers.proofs.NewDoors.{no_items}

-- The first of these are shut, and the rest are not.
pub record HasShut {W : Type 0} (acceptor : W → AcceptorState) (stopped : W → WorkStop) (all rest : List W) (before now : ListenerState) (first so_far : WorkStop) : Type 0 where
  pub done : List W
  pub parts : all ≡ done ++ rest
  pub shuts : ShutsAll (map acceptor done) before now
  pub stop_is : so_far ≡ gravest first (map stopped done)

module _ {W : Type 0} (acceptor : W → AcceptorState) (stopped : W → WorkStop) where
  pub shut_none : (all rest : List W) (before : ListenerState) (first : WorkStop) → rest ≡ all → HasShut acceptor stopped all rest before before first first
  shut_none all rest before first is = record { done = []; parts = sym is; shuts = refl; stop_is = refl }

  pub shut_more : (all old rest : List W) (w : W) (before now after : ListenerState) (first so_far new : WorkStop) → old ≡ w ∷ rest → Shuts (acceptor w) now after → new ≡ graver so_far (stopped w)
      → HasShut acceptor stopped all old before now first so_far → HasShut acceptor stopped all rest before after first new
  shut_more all old rest w before now after first so_far new is shut decides h = record {
    done = h.done ++ w ∷ [];
    parts = h.parts ∙ ap (λ (l : List W). h.done ++ l) is ∙ sym (append_assoc h.done (w ∷ []) rest);
    shuts = subst (λ (states : List AcceptorState). ShutsAll states before after) (sym (map-append acceptor h.done (w ∷ []))) (shuts_more (map acceptor h.done) (acceptor w) before now after h.shuts shut);
    stop_is = decides ∙ ap (λ (s : WorkStop). graver s (stopped w)) h.stop_is ∙ sym (stop_more first (map stopped h.done) (stopped w)) ∙ sym (ap (gravest first) (map-append stopped h.done (w ∷ [])));
  }

  pub shut_whole : (all rest : List W) (before now : ListenerState) (first so_far : WorkStop) → length rest ≡ 0 → HasShut acceptor stopped all rest before now first so_far
      → ShutsAll (map acceptor all) before now × (so_far ≡ gravest first (map stopped all))
  shut_whole all rest before now first so_far none h =
      let are : h.done ≡ all = sym (h.parts ∙ ap (λ (l : List W). h.done ++ l) (no_items rest none) ∙ append-nil h.done) in (
        subst (λ (ws : List W). ShutsAll (map acceptor ws) before now) are h.shuts,
        h.stop_is ∙ ap (λ (ws : List W). gravest first (map stopped ws)) are,
      )

-- as many as these, or fewer
pub enough_for : (out : Option ℕ) (m n : ℕ) → n ≤ m → IfSome out (λ k. m ≤ k) → IfSome out (λ k. n ≤ k)
enough_for None m n low enough = tt
enough_for (Some k) m n low enough = omega (arith, low, enough)

-- once these are shut, so many are left
pub left_out : (acceptors : List AcceptorState) (before after : ListenerState) (k m : ℕ) → k ≡ length acceptors → ShutsAll acceptors before after → IfSome before.out (λ n. k + m ≤ n) → IfSome after.out (λ n. m ≤ n)
left_out [] before after k m is all enough = subst (λ (s : ListenerState). IfSome s.out (λ n. m ≤ n)) (sym all) (enough_for before.out (k + m) m (omega arith) enough)
left_out (a ∷ acceptors) before after k m is all enough =
    left_out acceptors all.0 after (length acceptors) m refl all.2 (out_less before.out all.0.out (k + m) (length acceptors + m) (omega (arith, is)) all.1.out enough)

-- two lists of acceptors are shut, one behind the other
pub shuts_both : (xs ys : List AcceptorState) (before between after : ListenerState) → ShutsAll xs before between → ShutsAll ys between after → ShutsAll (xs ++ ys) before after
shuts_both [] ys before between after one two = subst (λ (s : ListenerState). ShutsAll ys s after) one two
shuts_both (x ∷ xs) ys before between after one two = (one.0, one.1, shuts_both xs ys one.0 between after one.2 two)

pub stops_both : (first : WorkStop) (xs ys : List WorkStop) → gravest first (xs ++ ys) ≡ gravest (gravest first xs) ys
stops_both first [] ys = refl
stops_both first (x ∷ xs) ys = stops_both (graver first x) xs ys

-- as many are out as were given by two calls
pub both_out : (a b c : Option ℕ) (m n k : ℕ) → Adds a b m → Adds b c n → k ≤ m + n → IfSome c (λ x. k ≤ x)
both_out None b c m n k one two low = subst (λ (o : Option ℕ). IfSome o (λ x. k ≤ x)) (sym (two ∙ ap (option_map (λ x. x + n)) one)) tt
both_out (Some a) b c m n k one two low = subst (λ (o : Option ℕ). IfSome o (λ x. k ≤ x)) (sym (two ∙ ap (option_map (λ x. x + n)) one)) (omega (arith, low))
