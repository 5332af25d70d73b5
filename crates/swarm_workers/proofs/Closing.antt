-- The logs of closed pools.
use Rattle.std.proofs.Common.{◌≡◌, ℕ, zero, suc, ◌<◌, ◌≤◌, List, [], ◌∷◌, ◌++◌, length, Option, None, Some, IfSome, refl, sym, ap, ◌∙◌, arith, subst}
use Rattle.std.specs.List.{All, AllByRecursion, slice_get}
use Rattle.std.proofs.lemmas.List.Elements.{All-head, All-tail}
use Rattle.std.proofs.lemmas.Option.{same_Some}
use Rattle.swarm_workers.specs.Types.{Entry, PoolSettings, Turnstile, Lasting, PoolView}
use Rattle.swarm_model.specs.MachineState.{MachineState}
use Rattle.swarm_model.specs.Bases.{Base, empty_base}
use Rattle.swarm_model.specs.Effects.{opening}
use Rattle.swarm_model.specs.History.{IsLegal}
use Rattle.swarm_history.specs.Machines.{logs_of, start_at, starts_of, pools_of as machine_pools}
use Rattle.turnstile.specs.Numbers.{times}
use Rattle.turnstile.specs.Passes.{fixed_of, opening as begun_with}
use Rattle.shared_doors.specs.Joined.{AreClosed, IsClosed}
use Rattle.shared_doors.specs.SharedDoors.{pools_of}
use Rattle.shared_doors.specs.Views.{view_at}

-- A pool's log in the end, which was empty at first: it is legal, it is all that the joined pass had seen, and its entries bear the
-- numbers of that pass.
pub record IsKept (pool : PoolSettings) (v : PoolView) (log : List Entry) : Type 0 where
  pub legal : IsLegal (opening pool) log
  pub seen : log ≡ v.seen
  pub listed : AllByRecursion (λ (e : Entry). 0 < times e.pass v.numbers) log

module _ {V : Type 0} (fixed : V → Lasting) (log : V → List Entry) where
  kept_of : (pool : PoolSettings) (start : List Entry) (v : PoolView) (kept : MachineState) → start ≡ [] → IsClosed pool start v kept → IsKept pool v kept.log
  kept_of pool start v kept none c = record {
    legal = subst (λ (b : Base). IsLegal b.rows kept.log) c.begins c.history.legal;
    seen = c.seen;
    listed = subst (AllByRecursion (λ (e : Entry). 0 < times e.pass v.numbers)) (sym (c.no_others.parts ∙ ap (λ (l : List Entry). l ++ c.no_others.more) none)) c.no_others.by_listed;
  }

  -- the log at a place
  pub kept_at : (ts : List (Turnstile V Entry Lasting)) (vs : List PoolView) (machines : List MachineState) → AreClosed fixed log ts vs machines
      → All (λ (t : Turnstile V Entry Lasting). begun_with log t ≡ []) ts
      → (p : ℕ) (pool : PoolSettings) → slice_get (pools_of fixed ts) p ≡ Some pool → IsKept pool (view_at vs p) (logs_of machines p)
  kept_at [] vs machines closed none p pool is = absurd (cc)
  kept_at (t ∷ ts) [] machines closed none p pool is = absurd closed
  kept_at (t ∷ ts) (v ∷ vs) [] closed none p pool is = absurd closed
  kept_at (t ∷ ts) (v ∷ vs) (kept ∷ machines) closed none zero pool is =
      subst (λ (s : PoolSettings). IsKept s v kept.log) (same_Some _ _ is) (kept_of _ (begun_with log t) v kept (All-head (λ (t : Turnstile V Entry Lasting). begun_with log t ≡ []) t ts none) closed.0)
  kept_at (t ∷ ts) (v ∷ vs) (kept ∷ machines) closed none (suc p) pool is = kept_at ts vs machines closed.1 (All-tail (λ (t : Turnstile V Entry Lasting). begun_with log t ≡ []) t ts none) p pool is

  -- there is none past the last pool
  pub none_past : (ts : List (Turnstile V Entry Lasting)) (vs : List PoolView) (machines : List MachineState) → AreClosed fixed log ts vs machines
      → (p : ℕ) → length (pools_of fixed ts) ≤ p → logs_of machines p ≡ []
  none_past [] [] [] closed p past = refl
  none_past [] [] (kept ∷ machines) closed p past = absurd closed
  none_past [] (v ∷ vs) machines closed p past = absurd closed
  none_past (t ∷ ts) [] machines closed p past = absurd closed
  none_past (t ∷ ts) (v ∷ vs) [] closed p past = absurd closed
  none_past (t ∷ ts) (v ∷ vs) (kept ∷ machines) closed zero past = absurd (omega (arith, past))
  none_past (t ∷ ts) (v ∷ vs) (kept ∷ machines) closed (suc p) past = none_past ts vs machines closed.1 p (omega (arith, past))

  -- nothing led to the log at a place
  begun_at : (ts : List (Turnstile V Entry Lasting)) (vs : List PoolView) (machines : List MachineState) → AreClosed fixed log ts vs machines
      → (p : ℕ) (pool : PoolSettings) → slice_get (pools_of fixed ts) p ≡ Some pool → start_at (starts_of machines) p ≡ empty_base pool
  begun_at [] vs machines closed p pool is = absurd (cc)
  begun_at (t ∷ ts) [] machines closed p pool is = absurd closed
  begun_at (t ∷ ts) (v ∷ vs) [] closed p pool is = absurd closed
  begun_at (t ∷ ts) (v ∷ vs) (kept ∷ machines) closed zero pool is =
      closed.0.begins ∙ ap empty_base (same_Some _ _ is)
  begun_at (t ∷ ts) (v ∷ vs) (kept ∷ machines) closed (suc p) pool is = begun_at ts vs machines closed.1 p pool is

  pub closed_begin : (ts : List (Turnstile V Entry Lasting)) (vs : List PoolView) (machines : List MachineState) (pools : List PoolSettings) → AreClosed fixed log ts vs machines
      → pools_of fixed ts ≡ pools → (p : ℕ) → IfSome (slice_get pools p) (λ pool. start_at (starts_of machines) p ≡ empty_base pool)
  closed_begin ts vs machines pools closed is p = by_place (slice_get pools p) refl
    where
      by_place : (o : Option PoolSettings) → slice_get pools p ≡ o → IfSome o (λ pool. start_at (starts_of machines) p ≡ empty_base pool)
      by_place None e = tt
      by_place (Some pool) e = begun_at ts vs machines closed p pool (ap (λ (l : List PoolSettings). slice_get l p) is ∙ e)

  -- the machines are those of the pools
  pub settings_closed : (ts : List (Turnstile V Entry Lasting)) (vs : List PoolView) (machines : List MachineState) → AreClosed fixed log ts vs machines → machine_pools machines ≡ pools_of fixed ts
  settings_closed [] [] [] closed = refl
  settings_closed [] [] (kept ∷ machines) closed = absurd closed
  settings_closed [] (v ∷ vs) machines closed = absurd closed
  settings_closed (t ∷ ts) [] machines closed = absurd closed
  settings_closed (t ∷ ts) (v ∷ vs) [] closed = absurd closed
  settings_closed (t ∷ ts) (v ∷ vs) (kept ∷ machines) closed =
      ap (λ (s : PoolSettings). s ∷ machine_pools machines) closed.0.settings_are
      ∙ ap (λ (rest : List PoolSettings). (fixed_of fixed t).settings ∷ rest) (settings_closed ts vs machines closed.1)
