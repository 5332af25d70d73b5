-- The views of boards, as they are made.
use Rattle.std.proofs.Common.{◌≡◌, ℕ, List, [], ◌∷◌, map, refl, ap, ◌∙◌}
use Rattle.std.specs.List.{All, AllZip}
use Rattle.std.proofs.lemmas.List.Elements.{All-nil, All-cons, All-head, All-tail, All-same, All-weaker}
use Rattle.board_workers.specs.Types.{PoolSettings, Settings}
use Rattle.pool_views.specs.Views.{Known, pools_of}
use Rattle.board_workers.specs.Boards.{HasServedBoard, IsBoardRun, ServedBoard, new_view}
use Rattle.board_workers.specs.Posts.{new_posters, view_of}

-- views of new posters are new views
pub views_new : (pools : List PoolSettings) → map view_of (new_posters pools) ≡ map new_view pools
views_new [] = refl
views_new (pool ∷ pools) = ap (λ (l : List Known). new_view pool ∷ l) (views_new pools)

-- new views are of the pools
pub pools_viewed : (pools : List PoolSettings) → pools_of (map new_view pools) ≡ pools
pools_viewed [] = refl
pools_viewed (pool ∷ pools) = ap (λ (l : List PoolSettings). pool ∷ l) (pools_viewed pools)

-- what holds of all that was given holds of what each has
pub all_given : {B V : Type 0} (P : V → Type 0) (has : B → V) (bs : List B) (given : List V) → map has bs ≡ given → All P given → All (λ (b : B). P (has b)) bs
all_given {B = B} {V = V} P has bs given is all = go bs (All-same P (map has bs) given is all)
  where
    go : (bs : List B) → All P (map has bs) → All (λ (b : B). P (has b)) bs
    go [] all = All-nil (λ (b : B). P (has b))
    go (b ∷ bs) all = All-cons (λ (b : B). P (has b)) b bs (All-head P (has b) (map has bs) all) (go bs (All-tail P (has b) (map has bs) all))

-- boards that served over new views
pub board_runs : {B : Type 0} (look : B → ServedBoard) (settings : Settings) (connections : ℕ) (bs : List B) (news : List ServedBoard)
    → All (λ (b : B). (look b).views ≡ map new_view settings.pools) bs → AllZip (HasServedBoard connections) (map look bs) news → AllZip (IsBoardRun settings connections) (map look bs) news
board_runs look settings connections [] [] views works = tt
board_runs look settings connections [] (new ∷ news) views works = absurd works
board_runs look settings connections (b ∷ bs) [] views works = absurd works
board_runs {B = B} look settings connections (b ∷ bs) (new ∷ news) views works = (
  record { views = All-head (λ (b : B). (look b).views ≡ map new_view settings.pools) b bs views; serves = works.0 },
  board_runs look settings connections bs news (All-tail (λ (b : B). (look b).views ≡ map new_view settings.pools) b bs views) works.1,
)

-- boards over new views have the pools
pub boards_viewed : {B V : Type 0} (known : V → List Known) (has : B → V) (pools : List PoolSettings) (bs : List B) (given : List V) → map has bs ≡ given → All (λ (v : V). known v ≡ map new_view pools) given
    → All (λ (b : B). pools_of (known (has b)) ≡ pools) bs
boards_viewed {B = B} {V = V} known has pools bs given is all =
    all_given (λ (v : V). pools_of (known v) ≡ pools) has bs given is
    (All-weaker (λ (v : V). known v ≡ map new_view pools) (λ (v : V). pools_of (known v) ≡ pools) (λ v new. ap pools_of new ∙ pools_viewed pools) given all)
