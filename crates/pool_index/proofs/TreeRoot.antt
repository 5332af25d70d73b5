-- The root of a tournament tree is the earliest of its leaves.
use Rattle.std.proofs.Common.{◌≡◌, ◌≢◌, ℕ, zero, suc, ◌+◌, ◌-◌, ◌*◌, ◌/◌, ◌<◌, ◌≤◌, List, ◌⊎◌, inl, inr, length, drop, set, refl, sym, ap, ◌∙◌, subst, arith, Option, Some, None}
use Rattle.std.proofs.lemmas.Bool.{cases_eq, cases_lt, cond_both}
use Rattle.std.proofs.lemmas.List.{get_or-drop, get_or_past, get_or-set_same, get_or-set_other}
use Rattle.swarm_model.specs.declared.deadline.Deadline.{Deadline}
use Rattle.swarm_model.specs.Deadlines.{is_earlier}
use Rattle.pool_index.specs.Deadlines.{earlier_of, deadline_at, IsFirstOf}
use Rattle.pool_index.specs.TreeNodes.{IsTreeExcept}
use Rattle.pool_index.proofs.DeadlineOrder.{Before, before_self, before_chain, before_left, before_right}

-- the earlier of two is one of them
one_of : (a b : Option Deadline) → (earlier_of a b ≡ a) ⊎ (earlier_of a b ≡ b)
one_of None None = inl refl
one_of None (Some b) = inr refl
one_of (Some a) None = inl refl
one_of (Some a) (Some b) =
    cond_both (is_earlier b a) b a (λ (x : Deadline). (Some x ≡ Some a) ⊎ (Some x ≡ Some b)) (λ t. inr refl) (λ f. inl refl)

-- a leaf with the deadline of a node
record HasLeaf (nodes : List (Option Deadline)) (w i : ℕ) : Type 0 where
  leaf : ℕ
  low : w ≤ leaf
  high : leaf < 2 * w
  same : deadline_at nodes leaf ≡ deadline_at nodes i

module _ (nodes : List (Option Deadline)) (w : ℕ) (tree : IsTreeExcept 0 w nodes) where
  under : (i : ℕ) → 1 < i → i < 2 * w → Before (deadline_at nodes (i / 2)) (deadline_at nodes i)
  under i low high =
      let a = deadline_at nodes (2 * (i / 2)) in
      let b = deadline_at nodes (2 * (i / 2) + 1) in
      let here_is : deadline_at nodes (i / 2) ≡ earlier_of a b = tree (i / 2) (omega arith) (omega arith) (omega arith) in
      subst (λ (x : Option Deadline). Before x (deadline_at nodes i)) (sym here_is)
      (elim (cases_eq i (2 * (i / 2))) [
        | inl e ↦ subst (λ (k : ℕ). Before (earlier_of a b) (deadline_at nodes k)) (sym e) (before_left a b)
        | inr ne ↦
            let e : i ≡ 2 * (i / 2) + 1 = omega arith in
            subst (λ (k : ℕ). Before (earlier_of a b) (deadline_at nodes k)) (sym e) (before_right a b)
      ])

  root_before : (n i : ℕ) → i ≤ n → 1 ≤ i → i < 2 * w → Before (deadline_at nodes 1) (deadline_at nodes i)
  root_before zero i le low high = absurd (omega arith)
  root_before (suc n) i le low high =
      elim (cases_eq i 1) [
        | inl e ↦ subst (λ (k : ℕ). Before (deadline_at nodes 1) (deadline_at nodes k)) (sym e) (before_self (deadline_at nodes 1))
        | inr ne ↦
            before_chain (deadline_at nodes 1) (deadline_at nodes (i / 2)) (deadline_at nodes i)
            (root_before n (i / 2) (omega arith) (omega arith) (omega arith)) (under i (omega arith) high)
      ]

  leaf_of : (n i : ℕ) → 2 * w ≤ i + n → 1 ≤ i → i < 2 * w → HasLeaf nodes w i
  leaf_of zero i le low high = absurd (omega arith)
  leaf_of (suc n) i le low high =
      elim (cases_lt i w) [
        | inr leaf ↦ record { leaf = i; low = leaf; high = high; same = refl }
        | inl inner ↦
            let here_is : deadline_at nodes i ≡ earlier_of (deadline_at nodes (2 * i)) (deadline_at nodes (2 * i + 1)) = tree i low inner (omega arith) in
            elim (one_of (deadline_at nodes (2 * i)) (deadline_at nodes (2 * i + 1))) [
              | inl e ↦
                  let h = leaf_of n (2 * i) (omega arith) (omega arith) (omega arith) in
                  record { leaf = h.leaf; low = h.low; high = h.high; same = h.same ∙ sym (here_is ∙ e) }
              | inr e ↦
                  let h = leaf_of n (2 * i + 1) (omega arith) (omega arith) (omega arith) in
                  record { leaf = h.leaf; low = h.low; high = h.high; same = h.same ∙ sym (here_is ∙ e) }
            ]
      ]

  module _ (size : length nodes ≡ 2 * w) (some : 1 ≤ w) where
    at_leaf : (k : ℕ) → deadline_at (drop w nodes) k ≡ deadline_at nodes (w + k)
    at_leaf k = get_or-drop w nodes k None

    past : (k : ℕ) → w ≤ k → deadline_at (drop w nodes) k ≡ None
    past k le = at_leaf k ∙ get_or_past nodes (w + k) None (omega arith)

    by_root : (o : Option Deadline) → deadline_at nodes 1 ≡ o → IsFirstOf (drop w nodes) o
    by_root None e = λ k. elim (cases_lt k w) [
      | inr beyond ↦ past k beyond
      | inl here ↦
          let b : Before None (deadline_at nodes (w + k)) =
          subst (λ (x : Option Deadline). Before x (deadline_at nodes (w + k))) e (root_before (w + k) (w + k) (omega arith) (omega arith) (omega arith)) in
          at_leaf k ∙ b
    ]
    by_root (Some d) e =
        let h = leaf_of (2 * w) 1 (omega arith) (omega arith) (omega arith) in
        let place : w + (h.leaf - w) ≡ h.leaf = (let low = h.low in omega arith) in
        record {
          place = h.leaf - w;
          there = at_leaf (h.leaf - w) ∙ ap (deadline_at nodes) place ∙ h.same ∙ e;
          least = λ k x is. elim (cases_lt k w) [
            | inr beyond ↦ absurd (let none = past k beyond in cc)
            | inl here ↦
                let there : deadline_at nodes (w + k) ≡ Some x = sym (at_leaf k) ∙ is in
                let b = root_before (w + k) (w + k) (omega arith) (omega arith) (omega arith) in
                subst (λ (y : Option Deadline). Before (Some d) y) there (subst (λ (y : Option Deadline). Before y (deadline_at nodes (w + k))) e b)
          ];
        }

    pub first_is : IsFirstOf (drop w nodes) (deadline_at nodes 1)
    first_is = by_root (deadline_at nodes 1) refl

-- ---- one inner node is computed anew

-- the node is right again, and its parent may be wrong
pub updated : (nodes : List (Option Deadline)) (w at : ℕ) → length nodes ≡ 2 * w → 1 ≤ at → at < w → IsTreeExcept at w nodes →
    IsTreeExcept (at / 2) w (set nodes at (earlier_of (deadline_at nodes (2 * at)) (deadline_at nodes (2 * at + 1))))
updated nodes w at size low high tree i least below other =
    elim (cases_eq i at) [
      | inl e ↦
          subst (λ (k : ℕ). deadline_at more k ≡ earlier_of (deadline_at more (2 * k)) (deadline_at more (2 * k + 1))) (sym e)
          (get_or-set_same nodes at earlier None (omega arith) ∙ sym (same_pair at (omega arith) (omega arith)))
      | inr ne ↦ get_or-set_other nodes at i earlier None ne ∙ tree i least below ne ∙ sym (same_pair i (omega arith) (omega arith))
    ]
  where
    earlier : Option Deadline
    earlier = earlier_of (deadline_at nodes (2 * at)) (deadline_at nodes (2 * at + 1))

    more : List (Option Deadline)
    more = set nodes at earlier

    same_pair : (k : ℕ) → 2 * k ≢ at → 2 * k + 1 ≢ at → earlier_of (deadline_at more (2 * k)) (deadline_at more (2 * k + 1)) ≡ earlier_of (deadline_at nodes (2 * k)) (deadline_at nodes (2 * k + 1))
    same_pair k even odd =
        ap (λ (x : Option Deadline). earlier_of x (deadline_at more (2 * k + 1))) (get_or-set_other nodes at (2 * k) earlier None even)
        ∙ ap (earlier_of (deadline_at nodes (2 * k))) (get_or-set_other nodes at (2 * k + 1) earlier None odd)

-- after the change of a leaf its parent may be wrong
pub leaf_set : (nodes : List (Option Deadline)) (w leaf : ℕ) (end : Option Deadline) → w ≤ leaf → IsTreeExcept 0 w nodes → IsTreeExcept (leaf / 2) w (set nodes leaf end)
leaf_set nodes w leaf end high tree i least below other =
    get_or-set_other nodes leaf i end None (omega arith) ∙ tree i least below (omega arith)
    ∙ sym (ap (λ (x : Option Deadline). earlier_of x (deadline_at (set nodes leaf end) (2 * i + 1))) (get_or-set_other nodes leaf (2 * i) end None (omega arith))
    ∙ ap (earlier_of (deadline_at nodes (2 * i))) (get_or-set_other nodes leaf (2 * i + 1) end None (omega arith)))
