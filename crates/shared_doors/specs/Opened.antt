-- The pools of a server, as it is made.
use Rattle.std.specs.Prelude.{◌≡◌, List, [], map, Option}
use Rattle.std.specs.List.{All}
use Rattle.shared_doors.specs.Types.{Entry, PoolSettings, Pass, Turnstile}
use Rattle.turnstile.specs.Passes.{fixed_of, opening}
use Rattle.shared_doors.specs.declared.view.Lasting.{Lasting}
use Rattle.shared_doors.specs.Lasting.{IsStanding}
use Rattle.shared_doors.specs.Views.{AreOf, first_view, views}

module _ {V : Type 0} where
  -- A turnstile for each of these pools, in their order, with an empty log, and the first pass of each.
  pub record AreOpened (fixed : V → Lasting) (log : V → List Entry) (pools : List PoolSettings) (ts : List (Turnstile V Entry Lasting)) (ps : List (Option (Pass V Entry Lasting))) : Type 0 where
    pub own : AreOf fixed ts ps
    pub standing : All (λ t. IsStanding (fixed_of fixed t)) ts
    pub settings_are : map (λ t. (fixed_of fixed t).settings) ts ≡ pools
    pub empty : All (λ t. opening log t ≡ []) ts
    pub fresh : All (λ v. v ≡ first_view) (views ps)
