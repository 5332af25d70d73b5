-- What a request asks of the views of the pools.
use Rattle.std.proofs.Common.{◌≡◌, ℕ, ◌<◌, List, length, refl, sym, ap, subst, Option, Some, None}
use Rattle.std.specs.Prelude.{IsSomeAnd, slice_get, option_map}
use Rattle.std.proofs.lemmas.Option.{slice_get-map, slice_get_within}
use Rattle.httparse.specs.Grammar.{RequestHead}
use Rattle.swarm_model.specs.declared.pool_settings.PoolSettings.{PoolSettings}
use Rattle.swarm_model.specs.declared.pool_settings.Settings.{Settings}
use Rattle.swarm_wire.specs.Asking.{asked_of}
use Rattle.pool_views.specs.Views.{Known, pools_of}
use Rattle.swarm_http.specs.Requests.{board_request_of}
use Rattle.board_sessions.specs.Outcomes.{settings_of}

some_map : {A B : Type 0} (f : A → B) (o : Option A) (P : B → Type 0) → IsSomeAnd (option_map f o) P → IsSomeAnd o (λ a. P (f a))
some_map f None P h = h
some_map f (Some a) P h = h

some_and : {A Q : Type 0} (o : Option A) (P : A → Type 0) → IsSomeAnd o P → ((a : A) → o ≡ Some a → Q) → Q
some_and None P h f = absurd h
some_and (Some a) P h f = f a refl

-- what holds of the pool at a place holds of the settings of the view there
pub known_at : (views : List Known) (pools : List PoolSettings) (place : ℕ) (P : PoolSettings → Type 0) → pools_of views ≡ pools
    → IsSomeAnd (slice_get pools place) P → IsSomeAnd (slice_get views place) (λ view. P view.start.rows.settings)
known_at views pools place P are h =
    some_map (λ (view : Known). view.start.rows.settings) (slice_get views place) P
    (subst (λ o. IsSomeAnd o P) (slice_get-map (λ (view : Known). view.start.rows.settings) views place) (subst (λ (l : List PoolSettings). IsSomeAnd (slice_get l place) P) (sym are) h))

-- there is a view at the place of a pool
pub view_within : (views : List Known) (pools : List PoolSettings) (place : ℕ) (P : PoolSettings → Type 0) → pools_of views ≡ pools
    → IsSomeAnd (slice_get pools place) P → place < length views
view_within views pools place P are h =
    some_and (slice_get views place) (λ view. P view.start.rows.settings) (known_at views pools place P are h) (λ view there. slice_get_within views place view there)

-- a request means the same by the settings of the views
pub by_views : (settings : Settings) (views : List Known) (head : RequestHead) (body : List ℕ) → pools_of views ≡ settings.pools
    → board_request_of (settings_of views) head body ≡ board_request_of settings head body
unfolding asked_of
by_views settings views head body are = ap (λ (pools : List PoolSettings). board_request_of (record { store = None; pools = pools }) head body) are
