-- A question changes no settings of a pool.
use Rattle.std.proofs.Common.{◌≡◌, ℕ, zero, suc, List, [], ◌∷◌, set, Some, Result, sym, ap, ◌∙◌}
use Rattle.std.specs.Prelude.{slice_get}
use Rattle.std.specs.declared.alloc.AllocError.{AllocError}
use Rattle.swarm_model.specs.declared.pool_settings.PoolSettings.{PoolSettings}
use Rattle.swarm_model.specs.Bases.{Base}
use Rattle.pool_views.specs.declared.views.Viewed.{Viewed}
use Rattle.pool_views.specs.Views.{Query, Known, pools_of, IsAsk}

pools_of-set : (views : List Known) (place : ℕ) (from to : Known) → slice_get views place ≡ Some from → to.start ≡ from.start → pools_of (set views place to) ≡ pools_of views
pools_of-set [] place from to there same = absurd (cc)
pools_of-set (view ∷ views) zero from to there same =
    let is : view ≡ from = cc in
    ap (λ (start : Base). start.rows.settings ∷ pools_of views) (same ∙ ap (λ (k : Known). k.start) (sym is))
pools_of-set (view ∷ views) (suc place) from to there same =
    ap (λ (pools : List PoolSettings). view.start.rows.settings ∷ pools) (pools_of-set views place from to there same)

-- the settings of the pools are as before
pub pools_stay : (old new : List Known) (place : ℕ) (query : Query) (result : Result Viewed AllocError) → IsAsk old new place query result → pools_of new ≡ pools_of old
pools_stay old new place query result asks =
    ap pools_of asks.views ∙ pools_of-set old place asks.from asks.to asks.there (ap (λ (k : Known). k.start) asks.asked.same)
