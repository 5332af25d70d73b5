-- Passes for workers, as they are split.
use Rattle.std.specs.Prelude.{◌≡◌, ◌<◌, ℕ, ◌+◌, List, [], ◌∷◌, length, Option, ⊤}
use Rattle.swarm_workers.specs.Types.{Entry, Pass, Turnstile, Lasting, PoolView}
use Rattle.shared_doors.specs.Views.{AreOf, view_at, views}

-- a pass of this number alone, which has seen nothing and took no turn
pub record IsNewPass (number : ℕ) (v : PoolView) : Type 0 where
  pub number_is : v.number ≡ number
  pub numbers : v.numbers ≡ number ∷ []
  pub turns : v.turns ≡ 0
  pub seen : v.seen ≡ []

module _ {V : Type 0} (fixed : V → Lasting) (turnstiles : List (Turnstile V Entry Lasting)) where
  -- a new pass of each turnstile, under this number
  pub record IsShare (number : ℕ) (passes : List (Option (Pass V Entry Lasting))) : Type 0 where
    pub own : AreOf fixed turnstiles passes
    pub new : (p : ℕ) → p < length turnstiles → IsNewPass number (view_at (views passes) p)

  -- passes of the numbers from k on
  abbrev pub AreShares : ℕ → List (List (Option (Pass V Entry Lasting))) → Type 0
  AreShares k [] = ⊤
  AreShares k (passes ∷ shares) = IsShare k passes × AreShares (k + 1) shares
