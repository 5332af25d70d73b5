-- The counts of the sets that are known.
use Rattle.std.proofs.Common.{◌≡◌, ℕ, ◌+◌, ◌-◌, ◌<◌, ◌≤◌, List, [], ◌∷◌, map, length, get_or, take, drop, refl, sym, ap, ◌∙◌, subst, Option, Some, Bool, true, false, cond, arith, drop-cons, add-one}
use Rattle.std.specs.Prelude.{nat_lt, not, if◌then◌else◌, ◌&&◌}
use Rattle.std.specs.Bool.{OnTrue, beq}
use Rattle.std.specs.List.{find, count_by, list_any, All}
use Rattle.std.proofs.lemmas.List.Elements.{All-head, All-tail, All-weaker, All-map}
use Rattle.std.proofs.lemmas.List.{map_more}
use Rattle.dimensions.proofs.Counting.{count-cons}
use Rattle.bot_registry.specs.Types.{DimSet, BotDims, BotRow}
use Rattle.dimensions.specs.Matching.{matches}
use Rattle.swarm_model.specs.Slices.{is_fit, could_run}
use Rattle.swarm_model.specs.Effects.{runs_task, silent_bot}
use Rattle.row_changes.specs.Bots.{silent_bot_if}
use Rattle.bot_registry.specs.declared.demand.Demand.{Demand}
use Rattle.bot_registry.specs.Acting.{row_of}
use Rattle.bot_registry.specs.Demands.{IsCounted, has_dims, recounted, CanRecount, count_after, IsCountedBut, IsCountedWith, MayInclude, capable_one, matching_one}
use Rattle.bot_registry.proofs.Alike.{sets_alike}
use Rattle.bot_registry.proofs.Counting.{some_counted, one_counted, one_of, count-push}

-- ---- a set that is known

find_passes : {X : Type 0} (p : X → Bool) (P : X → Type 0) (xs : List X) (x : X) → find p xs ≡ Some x → All P xs → (p x ≡ true) × P x
find_passes p P [] x found all = absurd (cc)
find_passes p P (y ∷ ys) x found all = by_test (p y) refl found (λ rest. find_passes p P ys x rest (All-tail P y ys all))
  where
    by_test : (t : Bool) → p y ≡ t → cond t (Some y) (find p ys) ≡ Some x → (find p ys ≡ Some x → (p x ≡ true) × P x) → (p x ≡ true) × P x
    by_test true passes found rest = let e : y ≡ x = cc in (subst (λ z. p z ≡ true) e passes, subst P e (All-head P y ys all))
    by_test false passes found rest = rest found

-- the count of a set that is known tells whether some bot could run it
pub known_set_tells : (rows : List BotRow) (dims : DimSet) (demands : List Demand) (demand : Demand) → find (has_dims dims) demands ≡ Some demand → All (IsCounted rows) demands →
    nat_lt 0 demand.count ≡ list_any (could_run dims) rows
known_set_tells rows dims demands demand found all =
    let known = find_passes (has_dims dims) (IsCounted rows) demands demand found all in
    let is = sets_alike demand.dims dims known.0 in
    ap (nat_lt 0) known.1 ∙ ap (λ (set : DimSet). nat_lt 0 (count_by (could_run set) rows)) is ∙ some_counted (could_run dims) rows

-- ---- a bot more or less

-- what is known of a set whose dimensions match the bot's, and of one whose don't
recounted_by : (bot : BotDims) (more : Bool) (Q : DimSet → ℕ → Type 0) (demand : Demand) → (matches bot demand.dims ≡ true → Q demand.dims (count_after more demand.count)) →
    (matches bot demand.dims ≡ false → Q demand.dims demand.count) → Q (recounted bot more demand).dims (recounted bot more demand).count
recounted_by bot more Q demand matched other = by_test (matches bot demand.dims) matched other
  where
    by_test : (t : Bool) → (t ≡ true → Q demand.dims (count_after more demand.count)) → (t ≡ false → Q demand.dims demand.count) →
        Q (if t then record demand { count = count_after more demand.count } else demand).dims (if t then record demand { count = count_after more demand.count } else demand).count
    by_test true matched other = matched refl
    by_test false matched other = other refl

-- a fit bot, and one that isn't
capable_fit : (dims : DimSet) (bot : BotRow) (t : Bool) → is_fit bot ≡ true → matches bot.dims dims ≡ t → capable_one dims (Some bot) ≡ cond {A = ℕ} t 1 0
capable_fit dims bot t fit is = ap (λ (b : Bool). cond {A = ℕ} (b && matches bot.dims dims) 1 0) fit ∙ ap (λ (b : Bool). cond {A = ℕ} b 1 0) is

capable_unfit : (dims : DimSet) (bot : BotRow) → is_fit bot ≡ false → capable_one dims (Some bot) ≡ 0
capable_unfit dims bot unfit = ap (λ (b : Bool). cond {A = ℕ} (b && matches bot.dims dims) 1 0) unfit

matching_is : (dims : DimSet) (bot : BotRow) (t : Bool) → matches bot.dims dims ≡ t → matching_one dims (Some bot) ≡ cond {A = ℕ} t 1 0
matching_is dims bot t is = ap (λ (b : Bool). cond {A = ℕ} b 1 0) is

on_true : (t : Bool) (P : Type 0) → (t ≡ true → P) → OnTrue t P
on_true true P f = f refl
on_true false P f = tt

module _ (bot : BotRow) (fit : is_fit bot ≡ true) where
  -- a bot that is among those that are included can be taken out
  pub can_remove : (demands : List Demand) → All (MayInclude bot) demands → All (CanRecount bot.dims false) demands
  can_remove demands all = All-weaker (MayInclude bot) (CanRecount bot.dims false) (λ demand holds.
      on_true (matches bot.dims demand.dims) (1 ≤ demand.count) (λ is. let one = capable_fit demand.dims bot true fit is in omega (arith, holds, one))) demands all

  -- the others are left
  pub others_left : (others : DimSet → ℕ) (demands : List Demand) → All (IsCountedWith others bot) demands → All (λ demand. demand.count ≡ others demand.dims) (map (recounted bot.dims false) demands)
  others_left others demands all = All-map (λ demand. demand.count ≡ others demand.dims) (recounted bot.dims false) demands
      (All-weaker (IsCountedWith others bot) (λ demand. (recounted bot.dims false demand).count ≡ others (recounted bot.dims false demand).dims) (λ demand has.
      recounted_by bot.dims false (λ dims count. count ≡ others dims) demand
      (λ is. let one = capable_fit demand.dims bot true fit is in omega (arith, has, one))
      (λ is. let none = capable_fit demand.dims bot false fit is in omega (arith, has, none))) demands all)

-- a bot that isn't counted as it is now, is
pub counted_again : (rows : List BotRow) (bot : BotRow) (included : Bool) → is_fit bot ≡ not included → (demands : List Demand) → All (IsCountedBut rows (Some bot) included) demands →
    All (IsCounted rows) (map (recounted bot.dims (not included)) demands)
counted_again rows bot included is demands all = All-map (IsCounted rows) (recounted bot.dims (not included)) demands
    (All-weaker (IsCountedBut rows (Some bot) included) (λ demand. IsCounted rows (recounted bot.dims (not included) demand)) (λ demand left.
    recounted_by bot.dims (not included) (λ dims count. count ≡ count_by (could_run dims) rows) demand (matched included is demand left) (other included is demand left)) demands all)
  where
    matched : (t : Bool) → is_fit bot ≡ not t → (demand : Demand) → IsCountedBut rows (Some bot) t demand → matches bot.dims demand.dims ≡ true → count_after (not t) demand.count ≡ count_by (could_run demand.dims) rows
    matched true unfit demand left m = omega (arith, left, capable_unfit demand.dims bot unfit, matching_is demand.dims bot true m)
    matched false fit demand left m = omega (arith, left, capable_fit demand.dims bot true fit m)

    other : (t : Bool) → is_fit bot ≡ not t → (demand : Demand) → IsCountedBut rows (Some bot) t demand → matches bot.dims demand.dims ≡ false → demand.count ≡ count_by (could_run demand.dims) rows
    other true unfit demand left m = omega (arith, left, capable_unfit demand.dims bot unfit, matching_is demand.dims bot false m)
    other false fit demand left m = omega (arith, left, capable_fit demand.dims bot false fit m)

-- ---- the bot of a number

module _ (rows : List BotRow) (number : ℕ) (bot : BotRow) (there : row_of rows number ≡ Some bot) where
  one_there : (dims : DimSet) → capable_one dims (Some bot) ≤ count_by (could_run dims) rows
  one_there dims = subst (λ (row : Option BotRow). capable_one dims row ≤ count_by (could_run dims) rows) there (one_counted (could_run dims) rows number)

  pub may_include : (demands : List Demand) → All (IsCounted rows) demands → All (MayInclude bot) demands
  may_include demands all = All-weaker (IsCounted rows) (MayInclude bot) (λ demand is. let one = one_there demand.dims in omega (arith, is, one)) demands all

  -- a fit bot that is taken out is no longer included
  pub removed : is_fit bot ≡ true → (demands : List Demand) → All (IsCounted rows) demands → All (IsCountedBut rows (row_of rows number) false) (map (recounted bot.dims false) demands)
  removed fit demands all =
      let others : DimSet → ℕ = λ dims. count_by (could_run dims) rows - capable_one dims (Some bot) in
      let low = others_left bot fit others demands (All-weaker (IsCounted rows) (IsCountedWith others bot) (λ demand is. let one = one_there demand.dims in omega (arith, is, one)) demands all) in
      subst (λ (row : Option BotRow). All (IsCountedBut rows row false) (map (recounted bot.dims false) demands)) (sym there)
      (All-weaker (λ demand. demand.count ≡ others demand.dims) (IsCountedBut rows (Some bot) false) (λ demand is. let one = one_there demand.dims in omega (arith, is, one)) (map (recounted bot.dims false) demands) low)

-- the row that was found is the one that is included
pub differ : (fit included : Bool) → not (beq fit included) ≡ true → fit ≡ not included
differ true true h = absurd (cc)
differ true false h = refl
differ false true h = refl
differ false false h = absurd (cc)

-- ---- silent bots

-- a silent bot runs nothing
silent_none : (task : ℕ) (dims : DimSet) (bot : BotRow) → runs_task task bot ≡ true → capable_one dims (Some (silent_bot_if task bot)) ≡ 0
silent_none task dims bot runs = ap (λ (t : Bool). capable_one dims (Some (if t then silent_bot bot else bot))) runs

pub runner_removed : (task : ℕ) (bot : BotRow) → runs_task task bot ≡ true → is_fit bot ≡ true → (others : DimSet → ℕ) (demands : List Demand) → All (IsCountedWith others bot) demands →
    All (IsCountedWith others (silent_bot_if task bot)) (map (recounted bot.dims false) demands)
runner_removed task bot runs fit others demands all =
    All-weaker (λ demand. demand.count ≡ others demand.dims) (IsCountedWith others (silent_bot_if task bot)) (λ demand is. let none = silent_none task demand.dims bot runs in omega (arith, is, none))
    (map (recounted bot.dims false) demands) (others_left bot fit others demands all)

module _ (task : ℕ) (rows : List BotRow) (i : ℕ) (bot : BotRow) (low : i < length rows) (is : bot ≡ get_or rows i bot) where
  -- the bots of a set but for one, where those before it are silent already
  abbrev pub others_at : DimSet → ℕ
  others_at dims = count_by (could_run dims) (map (silent_bot_if task) (take i rows)) + count_by (could_run dims) (drop (i + 1) rows)

  abbrev IsSilent : ℕ → Demand → Type 0
  IsSilent j demand = demand.count ≡ count_by (could_run demand.dims) (map (silent_bot_if task) (take j rows)) + count_by (could_run demand.dims) (drop j rows)

  before_it : (p : BotRow → Bool) → count_by p (drop i rows) ≡ one_of p (Some bot) + count_by p (drop (i + 1) rows)
  before_it p =
      let split : drop i rows ≡ get_or rows i bot ∷ drop (i + 1) rows = rw add-one (drop-cons rows i bot low) in
      ap (count_by p) split ∙ count-cons p (get_or rows i bot) (drop (i + 1) rows)
      ∙ ap (λ (b : BotRow). one_of p (Some b) + count_by p (drop (i + 1) rows)) (sym is)

  behind_it : (p : BotRow → Bool) → count_by p (map (silent_bot_if task) (take (i + 1) rows)) ≡ count_by p (map (silent_bot_if task) (take i rows)) + one_of p (Some (silent_bot_if task bot))
  behind_it p =
      ap (count_by p) (map_more (silent_bot_if task) rows i bot low)
      ∙ count-push p (map (silent_bot_if task) (take i rows)) (silent_bot_if task (get_or rows i bot))
      ∙ ap (λ (b : BotRow). count_by p (map (silent_bot_if task) (take i rows)) + one_of p (Some (silent_bot_if task b))) (sym is)

  pub includes_it : (demands : List Demand) → All (IsSilent i) demands → All (IsCountedWith others_at bot) demands
  includes_it demands all = All-weaker (IsSilent i) (IsCountedWith others_at bot) (λ demand e. let b = before_it (could_run demand.dims) in omega (arith, e, b)) demands all

  pub includes_more : (demands : List Demand) → All (IsCountedWith others_at (silent_bot_if task bot)) demands → All (IsSilent (i + 1)) demands
  includes_more demands all = All-weaker (IsCountedWith others_at (silent_bot_if task bot)) (IsSilent (i + 1)) (λ demand e. let b = behind_it (could_run demand.dims) in omega (arith, e, b)) demands all
