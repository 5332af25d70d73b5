-- Names, claims and uuids that stand once, and rows of one of them that are one.
use Rattle.std.proofs.Common.{◌≡◌, ◌↔◌, ℕ, false, List, [], ◌∷◌, ◌++◌, map, flat_map, filter_map, All, inl, inr, refl, sym, ap, ◌∙◌, subst, arith, Option, Some, None, IfSome}
use Rattle.std.specs.List.{cons_option}
use Rattle.std.specs.Option.{option_map, option_to_list}
use Rattle.std.specs.Cmp.{IsTotalOrder, on_total, then_total}
use Rattle.std.specs.Cmp.Lexicographic.{nat_list_cmp_total}
use Rattle.std.specs.Ordering.{nat_cmp, ordering_then, is_eq}
use Rattle.std.specs.declared.cmp.Ordering.{Ordering}
use Rattle.std.specs.declared.cmp.Ordering.TheVariants.{Less, Equal, Greater}
use Rattle.std.proofs.lemmas.Cmp.{nat_cmp_total, ranked}
use Rattle.std.proofs.lemmas.List.Concat.{flat_map_single}
use Rattle.std.proofs.lemmas.Option.{same_Some}
use Rattle.dimensions.specs.Order.{text_cmp, pair_cmp}
use Rattle.dimensions.proofs.Orders.{texts-tied, then-first, then-other, pair_total}
use Rattle.base_checks.specs.Types.{Attempt, Retried, TaskRow, BotRow}
use Rattle.swarm_model.specs.Numbers.{AreNumbered}
use Rattle.swarm_model.specs.Effects.{no_of_task, no_of_bot}
use Rattle.swarm_model.specs.Soundness.{IsRightTry, HasKey, key_of, claim_key, lost_key, sent_key, AreClaimedApart, AreSentApart, AreNamedApart}
use Rattle.pool_laws.proofs.Lists.{Among, here, each, all, each_append, each_one, among_left, among_right}
use Rattle.base_checks.specs.Keys.{Differ, AreDistinct}
use Rattle.base_checks.specs.Rows.{name_of, claims_of, uuids_of, claim_cmp, HasRightTry, HaveOwnNames, HaveOwnClaims, HaveOwnUuids}
use Rattle.base_checks.proofs.RowKeys.{AreOne, one_of_distinct, distinct_of_one, pairs_join}

-- ---- lists of few keys

module _ {K : Type 0} where
  of_option : (o : Option K) (k : K) → Among k (option_to_list o) → o ≡ Some k
  of_option None k a = elim a [ ]
  of_option (Some x) k a = each_one (λ (j : K). Some x ≡ Some j) x refl k a

  to_option : (o : Option K) (k : K) → o ≡ Some k → Among k (option_to_list o)
  to_option None k e = absurd (cc (e))
  to_option (Some x) k e = subst (λ (j : K). Among j (x ∷ [])) (same_Some _ _ e) here

  module _ (cmp : K → K → Ordering) where
    distinct_one : (k : K) → AreDistinct cmp (k ∷ [])
    distinct_one k = λ i j d less low. absurd (omega (arith, less, low))

    distinct_option : (o : Option K) → AreDistinct cmp (option_to_list o)
    distinct_option None = λ i j d less low. absurd (omega (arith, less, low))
    distinct_option (Some k) = distinct_one k

-- ---- names

abbrev names_of : BotRow → List (List ℕ)
names_of bot = bot.name ∷ []

module _ (bots : List BotRow) where
  names_apart : AreOne names_of no_of_bot bots → HaveOwnNames bots
  names_apart one =
      all (λ (bot : BotRow). All (AreNamedApart bot) bots) bots
      (λ a p. all (AreNamedApart a) bots (λ b q e. one a b p q a.name here (subst (λ (name : List ℕ). Among name (b.name ∷ [])) (sym e) here)))

  one_by_name : HaveOwnNames bots → AreOne names_of no_of_bot bots
  one_by_name apart a b p q k e f =
      let first : a.name ≡ k = each_one (λ (name : List ℕ). a.name ≡ name) a.name refl k e in
      let second : b.name ≡ k = each_one (λ (name : List ℕ). b.name ≡ name) b.name refl k f in
      each (AreNamedApart a) bots (each (λ (bot : BotRow). All (AreNamedApart bot) bots) bots apart a p) b q (first ∙ sym second)

  all_names : flat_map names_of bots ≡ map name_of bots
  all_names = flat_map_single name_of bots

-- names stand once exactly where bots of one name are one
pub names_stand_once : (bots : List BotRow) → AreNumbered no_of_bot 1 bots → (AreDistinct text_cmp (map name_of bots) ↔ HaveOwnNames bots)
names_stand_once bots are = (
  λ distinct. names_apart bots (one_of_distinct names_of no_of_bot text_cmp nat_list_cmp_total texts-tied bots (subst (AreDistinct text_cmp) (sym (all_names bots)) distinct)),
  λ apart. subst (AreDistinct text_cmp) (all_names bots)
      (distinct_of_one names_of no_of_bot text_cmp nat_list_cmp_total texts-tied 1 bots are (λ bot a. distinct_one text_cmp bot.name) (one_by_name bots apart)),
)

-- ---- claims

abbrev Claim : Type 0
Claim = ℕ × List ℕ

claim_total : IsTotalOrder claim_cmp
claim_total = then_total (on_total (λ (c : Claim). c.0) nat_cmp_total) (on_total (λ (c : Claim). c.1) nat_list_cmp_total)

numbers-tied : (m n : ℕ) → nat_cmp m n ≡ Equal → m ≡ n
numbers-tied m n e = ranked m n Equal (sym e)

claims-tied : (a b : Claim) → claim_cmp a b ≡ Equal → a ≡ b
claims-tied a b e =
    let bots : a.0 ≡ b.0 = numbers-tied a.0 b.0 (then-first (nat_cmp a.0 b.0) (text_cmp a.1 b.1) e) in
    let ids : a.1 ≡ b.1 = texts-tied a.1 b.1 (then-other (nat_cmp a.0 b.0) (text_cmp a.1 b.1) e) in
    λ i. (bots i, ids i)

-- claims of two bots differ
bots_differ : (m n : ℕ) (rest : Ordering) → (m ≡ n → ⊥) → is_eq (ordering_then (nat_cmp m n) rest) ≡ false
bots_differ m n rest apart = by_order (nat_cmp m n) refl
  where
    by_order : (r : Ordering) → nat_cmp m n ≡ r → is_eq (ordering_then r rest) ≡ false
    by_order Less e = refl
    by_order Equal e = absurd (apart (numbers-tied m n e))
    by_order Greater e = refl

-- the two runs of a task have claims of their own
claims_distinct : (attempt : Option Attempt) (retried : Option Retried) → IfSome attempt (IsRightTry retried) →
    AreDistinct claim_cmp (option_to_list (option_map key_of attempt) ++ option_to_list (option_map (λ (lost : Retried). key_of lost.attempt) retried))
claims_distinct None retried right = distinct_option claim_cmp (option_map (λ (lost : Retried). key_of lost.attempt) retried)
claims_distinct (Some attempt) None right = distinct_one claim_cmp (key_of attempt)
claims_distinct (Some attempt) (Some lost) right =
    pairs_join (Differ claim_cmp) (key_of attempt ∷ []) (key_of lost.attempt ∷ []) (distinct_one claim_cmp (key_of attempt)) (distinct_one claim_cmp (key_of lost.attempt))
    (each_one (λ (a : Claim). (b : Claim) → Among b (key_of lost.attempt ∷ []) → Differ claim_cmp a b) (key_of attempt)
    (each_one (Differ claim_cmp (key_of attempt)) (key_of lost.attempt) (bots_differ attempt.bot lost.attempt.bot (text_cmp attempt.claim lost.attempt.claim) right.1)))

has_claim : (task : TaskRow) (claim : Claim) → Among claim (claims_of task) → HasKey task claim
has_claim task claim a =
    each_append (HasKey task) (option_to_list (claim_key task)) (option_to_list (lost_key task))
    (λ c b. inl (of_option (claim_key task) c b)) (λ c b. inr (of_option (lost_key task) c b)) claim a

among_claims : (task : TaskRow) (claim : Claim) → HasKey task claim → Among claim (claims_of task)
among_claims task claim (inl e) = among_left claim (option_to_list (claim_key task)) (option_to_list (lost_key task)) (to_option (claim_key task) claim e)
among_claims task claim (inr e) = among_right claim (option_to_list (claim_key task)) (option_to_list (lost_key task)) (to_option (lost_key task) claim e)

module _ (tasks : List TaskRow) where
  claims_apart : AreOne claims_of no_of_task tasks → HaveOwnClaims tasks
  claims_apart one =
      all (λ (task : TaskRow). All (AreClaimedApart task) tasks) tasks
      (λ a p. all (AreClaimedApart a) tasks (λ b q claim e f. one a b p q claim (among_claims a claim e) (among_claims b claim f)))

  one_by_claim : HaveOwnClaims tasks → AreOne claims_of no_of_task tasks
  one_by_claim apart a b p q claim e f =
      each (AreClaimedApart a) tasks (each (λ (task : TaskRow). All (AreClaimedApart task) tasks) tasks apart a p) b q claim (has_claim a claim e) (has_claim b claim f)

-- so do claims, where no task has one twice
pub claims_stand_once : (tasks : List TaskRow) → AreNumbered no_of_task 1 tasks → All HasRightTry tasks → (AreDistinct claim_cmp (flat_map claims_of tasks) ↔ HaveOwnClaims tasks)
claims_stand_once tasks are right = (
  λ distinct. claims_apart tasks (one_of_distinct claims_of no_of_task claim_cmp claim_total claims-tied tasks distinct),
  λ apart. distinct_of_one claims_of no_of_task claim_cmp claim_total claims-tied 1 tasks are
      (λ task a. claims_distinct task.attempt task.retried (each HasRightTry tasks right task a)) (one_by_claim tasks apart),
)

-- ---- uuids

abbrev Sent : Type 0
Sent = List ℕ × List ℕ

sent_tied : (a b : Sent) → pair_cmp a b ≡ Equal → a ≡ b
sent_tied a b e =
    let first : a.0 ≡ b.0 = texts-tied a.0 b.0 (then-first (text_cmp a.0 b.0) (text_cmp a.1 b.1) e) in
    let second : a.1 ≡ b.1 = texts-tied a.1 b.1 (then-other (text_cmp a.0 b.0) (text_cmp a.1 b.1) e) in
    λ i. (first i, second i)

with_option : (o : Option Sent) (keys : List Sent) → option_to_list o ++ keys ≡ cons_option o keys
with_option None keys = refl
with_option (Some key) keys = refl

pub all_uuids : (tasks : List TaskRow) → flat_map uuids_of tasks ≡ filter_map sent_key tasks
all_uuids [] = refl
all_uuids (task ∷ tasks) = ap (λ (keys : List Sent). uuids_of task ++ keys) (all_uuids tasks) ∙ with_option (sent_key task) (filter_map sent_key tasks)

module _ (tasks : List TaskRow) where
  sent_apart : AreOne uuids_of no_of_task tasks → HaveOwnUuids tasks
  sent_apart one =
      all (λ (task : TaskRow). All (AreSentApart task) tasks) tasks
      (λ a p. all (AreSentApart a) tasks (λ b q key e f. one a b p q key (to_option (sent_key a) key e) (to_option (sent_key b) key f)))

  one_by_uuid : HaveOwnUuids tasks → AreOne uuids_of no_of_task tasks
  one_by_uuid apart a b p q key e f =
      each (AreSentApart a) tasks (each (λ (task : TaskRow). All (AreSentApart task) tasks) tasks apart a p) b q key (of_option (sent_key a) key e) (of_option (sent_key b) key f)

-- and uuids that are not empty
pub uuids_stand_once : (tasks : List TaskRow) → AreNumbered no_of_task 1 tasks → (AreDistinct pair_cmp (filter_map sent_key tasks) ↔ HaveOwnUuids tasks)
uuids_stand_once tasks are = (
  λ distinct. sent_apart tasks (one_of_distinct uuids_of no_of_task pair_cmp pair_total sent_tied tasks (subst (AreDistinct pair_cmp) (sym (all_uuids tasks)) distinct)),
  λ apart. subst (AreDistinct pair_cmp) (all_uuids tasks)
      (distinct_of_one uuids_of no_of_task pair_cmp pair_total sent_tied 1 tasks are (λ task a. distinct_option pair_cmp (sent_key task)) (one_by_uuid tasks apart)),
)
