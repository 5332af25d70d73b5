-- What a pass knows after a turn in which nothing was written.
use Rattle.std.proofs.Common.{◌≡◌, ℕ, ◌+◌, ◌<◌, List, [], Option, Some, None, length, get_or, set, arith, ap, sym, subst, ◌∙◌}
use Rattle.std.proofs.lemmas.List.{get_or_default, length-map}
use Rattle.shared_doors.specs.Types.{Entry, PoolSettings, PoolState, Pass, Turn, Turnstile}
use Rattle.swarm_model.specs.Bases.{Base, empty_base}
use Rattle.swarm_model.specs.Effects.{opening}
use Rattle.swarm_model.specs.History.{IsLegal}
use Rattle.swarm_history.specs.Machines.{no_pool}
use Rattle.turnstile.specs.Numbers.{times, own, Continues}
use Rattle.turnstile.specs.Passes.{HasNumbersOf, lock_of, number, numbers, pass_of, raised, seen, told, turns}
use Rattle.shared_doors.specs.declared.view.Lasting.{Lasting}
use Rattle.shared_doors.specs.declared.view.PoolView.{PoolView}
use Rattle.shared_doors.specs.Joined.{by}
use Rattle.shared_doors.specs.SharedDoors.{start_of}
use Rattle.shared_doors.specs.Turns.{TakesTurn, TakesTurnAt}
use Rattle.shared_doors.specs.Views.{AreOf, look, view_at, view_or, views}
use Rattle.shared_doors.proofs.ByPlace.{changed_at, seen_at, views_back}
use Rattle.shared_doors.proofs.Desks.{view_after}

module _ {V : Type 0} where
  pub turn_taken : (rows : PoolState) (p q : Pass V Entry Lasting) (one two : Turn V Entry Lasting) → two ≡ one
      → Continues by (number p) (seen p) (raised one)
      → ((k : ℕ) → 0 < times k (numbers p) → own by k (raised one) ≡ own by k (seen p))
      → HasNumbersOf p (pass_of one) × (told (pass_of one) ≡ told p) × (turns (pass_of one) ≡ turns p + 1)
      → IsLegal rows (raised one) → seen q ≡ raised two
      → HasNumbersOf (pass_of two) q × (told q ≡ told (pass_of two)) × (turns q ≡ turns (pass_of two))
      → TakesTurn rows (look p) (look q)
  turn_taken rows p q one two is found joined enters legal left leaves =
      let now : raised one ≡ seen q = sym (left ∙ ap (λ (t : Turn V Entry Lasting). raised t) is) in
      record {
        begins = (found.others, sym found.parts ∙ now);
        legal = subst (λ (l : List Entry). IsLegal rows l) now legal;
        no_own = λ k listed. subst (λ (l : List Entry). own by k l ≡ own by k (seen p)) now (joined k listed);
        rest = view_after p q one two enters
            (ap (λ (t : Turn V Entry Lasting). let pair : Turnstile V Entry Lasting × PoolView = (lock_of t, record (look (pass_of t)) { seen = [] }) in pair) is) leaves;
      }

  -- the pass stands at its place again
  module _ (fixed : V → Lasting) (ts : List (Turnstile V Entry Lasting)) (items : List (Option (Pass V Entry Lasting))) (place : ℕ)
      (own : AreOf fixed ts items) (low : place < length ts) (pass next : Pass V Entry Lasting) (is : get_or items place None ≡ Some pass) where
    low_view : place < length (views items)
    low_view = omega (arith, low, own.count, length-map items view_or)

    pub view_now : look next ≡ view_at (views (set (set items place None) place (Some next))) place
    view_now = sym (changed_at (views items) (views (set (set items place None) place (Some next))) place (look next) low_view (views_back fixed ts items place None next))

    pub turn_at : (rows : PoolState) → TakesTurn rows (look pass) (look next) → TakesTurnAt rows place (views items) (views (set (set items place None) place (Some next)))
    turn_at rows takes = record {
      turn = subst (λ (v : PoolView). TakesTurn rows (view_at (views items) place) v) view_now
          (subst (λ (v : PoolView). TakesTurn rows v (look next)) (sym (seen_at fixed ts items place pass own low is)) takes);
      elsewhere = views_back fixed ts items place None next ∙ ap (λ (v : PoolView). set (views items) place v) view_now;
    }

abbrev base_of : PoolState → Base
base_of rows = record { rows = rows; count = 0 }

-- where the log of the pool at a place begins
pub begins_from : (pools : List PoolSettings) (place : ℕ) (pool copy : PoolSettings) (rows : PoolState) → place < length pools → get_or pools place pool ≡ pool → copy ≡ pool → rows ≡ opening copy
    → start_of pools place ≡ record { rows = rows; count = 0 }
begins_from pools place pool copy rows low at copied is =
    let there : get_or pools place no_pool ≡ copy = get_or_default pools place no_pool pool low ∙ at ∙ sym copied in
    ap empty_base there ∙ ap (λ (r : PoolState). base_of r) (sym is)
